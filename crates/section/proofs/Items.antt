-- Items one after another: every item stands at its place.
use Prim.Native.Nat.{ℕ, zero, suc, ◌<◌, ◌≤◌}
use mathlib.Core.List.{List, [], ◌∷◌, ◌++◌}
use mathlib.Core.Path.{◌≡◌, refl, ◌∙◌}
use native.Mathlib.Decide.{dec_lt}
use native.Mathlib.Nat.{not-suc-le-zero}
use native.Mathlib.Numerals.{add-one}
use native.Mathlib.Omega.{arith}
use lib.ListN.{length, take, get_or, length-append, get_or-append}
use lib.Seq.{take-suc, get_or_at}
use Rattle.section.specs.Items.{items}

module _ {A : Type 0} (item : ℕ → A) where
  pub same_items : (other : ℕ → A) (m : ℕ) → ((i : ℕ) → i < m → item i ≡ other i) → items item m ≡ items other m
  unfolding items
  same_items other zero h = refl
  same_items other (suc m) h = rw (same_items other m (λ i k. h i (omega (arith, k))), h m (omega arith))

  pub items_length : (m : ℕ) → length (items item m) ≡ m
  unfolding items
  items_length zero = refl
  items_length (suc m) = length-append (items item m) (item m ∷ []) ∙ rw (items_length m) (add-one m)

  pub item_at : (d : A) (m i : ℕ) → i < m → get_or (items item m) i d ≡ item i
  unfolding items
  item_at d zero i h = absurd (not-suc-le-zero h)
  item_at d (suc m) i h = go (dec_lt i m) (λ k. item_at d m i k)
    where
      go : Dec (i < m) → (i < m → get_or (items item m) i d ≡ item i) → get_or (items item m ++ (item m ∷ [])) i d ≡ item i
      go (yes k) before = get_or-append (items item m) (item m ∷ []) d i (rw (items_length m) k) ∙ before k
      go (no k) before =
          let e : i ≡ m = omega (arith, h) in
          rw e (get_or_at (items item m) (item m) [] d m (items_length m))

-- the elements of a list are its items
pub first_items : {A : Type 0} (d : A) (l : List A) (m : ℕ) → m ≤ length l → items (λ (i : ℕ). get_or l i d) m ≡ take m l
unfolding items
first_items d l zero h = refl
first_items d l (suc m) h = rw (take-suc l m d h, first_items d l m (omega arith))
