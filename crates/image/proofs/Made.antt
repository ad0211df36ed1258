-- An array made by a closure that only reads, by `array::from_fn` or by `map`: its elements are the items that the closure says.
use Prim.Native.Nat.{ℕ, zero, suc, ◌+◌, ◌<◌}
use mathlib.Core.List.{List, [], ◌∷◌, append-nil}
use mathlib.Core.Path.{◌≡◌, refl, sym, ap, ◌∙◌}
use native.Mathlib.Nat.{not-suc-le-zero, zero-add}
use native.Mathlib.Omega.{arith}
use lib.ListN.{length, get_or}
use lib.Seq.{take_all}
use Rattle.std.specs.Fn.{Mut, Called}
use Rattle.std.specs.Array.{IsFromFnResultFrom, IsFromFnResult, MapsFrom, IsMapOf}
use Rattle.std.specs.List.{flat_map}
use Rattle.std.proofs.lemmas.List.Concat.{flat_map-append}
use Rattle.section.specs.Items.{items}
use Rattle.section.proofs.Items.{same_items, first_items}
use Rattle.text.specs.Text.{first_texts}

-- an array whose elements are items
whole : {B : Type 0} (item : ℕ → B) (d : B) (ys : List B) (n : ℕ) → length ys ≡ n → ((i : ℕ) → i < n → get_or ys i d ≡ item i) → ys ≡ items item n
whole item d ys n long each =
    sym (take_all n ys (omega arith)) ∙ sym (first_items d ys n (omega arith)) ∙ same_items (λ (i : ℕ). get_or ys i d) item n each

-- an element for each index
module _
    {F B : Type 0} (g : Mut F (ℕ × Unit {0}) B) (Keeps : F → Type 0) (item : ℕ → B) (d : B)
    (says : (p q : F) (i : ℕ) (y : B) → Keeps p → Called g p (i, tt) y q → (y ≡ item i) × Keeps q)
    (ys : List B)
  where
    each_made : (n i : ℕ) (f : F) → Keeps f → IsFromFnResultFrom g f ys i n → (j : ℕ) → j < n → get_or ys (i + j) d ≡ item (i + j)
    each_made zero i f k e j h = absurd (not-suc-le-zero h)
    each_made (suc n) i f k (q, y, there, called, rest) zero h =
        let e : i + 0 ≡ i = omega arith in
        rw e (there.1 d ∙ (says f q i y k called).0)
    each_made (suc n) i f k (q, y, there, called, rest) (suc j) h =
        let e : i + suc j ≡ i + 1 + j = omega arith in
        rw e (each_made n (i + 1) q (says f q i y k called).1 rest j (omega (arith, h)))

    -- the whole array
    pub made : (n : ℕ) (f : F) → Keeps f → IsFromFnResult g f ys n → ys ≡ items item n
    made n f k e = whole item d ys n e.long (λ i h. rw zero-add at (each_made n 0 f k e.each i h))

-- each element of an array as another value
module _
    {F A B : Type 0} (g : Mut F (A × Unit {0}) B) (Keeps : F → Type 0) (image : A → B) (c : A) (d : B)
    (says : (p q : F) (x : A) (y : B) → Keeps p → Called g p (x, tt) y q → (y ≡ image x) × Keeps q)
    (xs : List A) (ys : List B)
  where
    each_mapped : (n i : ℕ) (f : F) → Keeps f → MapsFrom g f xs ys i n → (j : ℕ) → j < n → get_or ys (i + j) d ≡ image (get_or xs (i + j) c)
    each_mapped zero i f k e j h = absurd (not-suc-le-zero h)
    each_mapped (suc n) i f k (q, x, y, here, there, called, rest) zero h =
        let e : i + 0 ≡ i = omega arith in
        rw e (there.1 d ∙ (says f q x y k called).0 ∙ ap image (sym (here.1 c)))
    each_mapped (suc n) i f k (q, x, y, here, there, called, rest) (suc j) h =
        let e : i + suc j ≡ i + 1 + j = omega arith in
        rw e (each_mapped n (i + 1) q (says f q x y k called).1 rest j (omega (arith, h)))

    pub mapped : (n : ℕ) (f : F) → Keeps f → IsMapOf g f xs ys n → ys ≡ items (λ (i : ℕ). image (get_or xs i c)) n
    mapped n f k e = whole (λ (i : ℕ). image (get_or xs i c)) d ys n e.long (λ i h. rw zero-add at (each_mapped n 0 f k e.each i h))

-- the bytes of all items, one item after another
pub joined : (text : ℕ → List ℕ) (m : ℕ) → flat_map (λ x. x) (items text m) ≡ first_texts text m
unfolding items first_texts
joined text zero = refl
joined text (suc m) = flat_map-append (λ x. x) (items text m) (text m ∷ []) ∙ rw (joined text m, append-nil)
