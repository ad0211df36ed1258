-- The sent and received lists of a book, from a record on.
use mathlib.Core.Path.{◌≡◌, refl, ◌∙◌, ap}
use mathlib.Core.Bool.{Bool, true, false}
use mathlib.Core.List.{List, [], ◌∷◌}
use Prim.Native.Nat.{ℕ, zero, suc, ◌+◌, ◌-◌, ◌/◌, ◌<◌, ◌≤◌}
use Rattle.std.specs.Prelude.{Option, Some, None, MatchOption}
use native.Mathlib.Numerals.{add-one}
use native.Mathlib.Omega.{arith}
use lib.Dec.{leb}
use lib.ListN.{length}
use borrow.Author.Tests.{eq-eqb, ne_eqb, leb-true, leb-false}
use Rattle.registers.specs.Books.{entry_at, entries_from, going}
use Rattle.registers.specs.Walk.{going_from}

-- one record more is to come
more : (n i : ℕ) → i < n → n - i ≡ suc (n - suc i)
more n i h = omega arith

module _ (d : ℕ) (book : List ℕ) (i : ℕ) where
  -- the list from a record of another direction on
  pub going_other :
      i < length book / 8 → ((entry_at book i).direction ≡ d → ⊥) → going_from d book i ≡ going_from d book (i + 1)
  unfolding going_from entries_from going
  going_other h n = rw (add-one, more (length book / 8) i h, ne_eqb (entry_at book i).direction d n)

  -- the list from a record of the direction on
  pub going_this :
      i < length book / 8 → (entry_at book i).direction ≡ d → going_from d book i ≡ entry_at book i ∷ going_from d book (i + 1)
  unfolding going_from entries_from going
  going_this h e = rw (add-one, more (length book / 8) i h, eq-eqb (entry_at book i).direction d e)

  -- the list from the end on
  pub going_none : length book / 8 ≤ i → going_from d book i ≡ []
  unfolding going_from entries_from going
  going_none h = let z : length book / 8 - i ≡ 0 = omega arith in rw z

module _ (d : ℕ) (book : List ℕ) where
  -- the list from after some records of another direction
  going_others :
      (n i : ℕ) → i + n ≤ length book / 8 → ((k : ℕ) → i ≤ k → k < i + n → (entry_at book k).direction ≡ d → ⊥) →
      going_from d book i ≡ going_from d book (i + n)
  going_others zero i h others = ap (going_from d book) (omega arith)
  going_others (suc n) i h others =
      going_other d book i (omega arith) (others i (omega arith) (omega arith))
      ∙ going_others n (i + 1) (omega arith) (λ k a b. others k (omega arith) (omega arith))
      ∙ ap (going_from d book) (omega arith)

  -- what `find` says of the first record of the direction, from record i on
  pub going_found :
      (i : ℕ) (r : Option ℕ) →
      MatchOption r ((k : ℕ) → i ≤ k → k < length book / 8 → (entry_at book k).direction ≡ d → ⊥)
      (λ r. (i ≤ r) × (r < length book / 8) × ((entry_at book r).direction ≡ d) × ((k : ℕ) → i ≤ k → k < r → (entry_at book k).direction ≡ d → ⊥)) →
      MatchOption r (going_from d book i ≡ [])
      (λ r. (r < length book / 8) × (going_from d book i ≡ entry_at book r ∷ going_from d book (r + 1)))
  going_found i None others = go (leb i (length book / 8)) refl
    where
      go : (b : Bool) → leb i (length book / 8) ≡ b → going_from d book i ≡ []
      go true e =
          let h = leb-true i (length book / 8) e in
          going_others (length book / 8 - i) i (omega arith) (λ k a b. others k a (omega arith)) ∙ going_none d book _ (omega arith)
      go false e = going_none d book i (omega (arith, leb-false i (length book / 8) e))
  going_found i (Some r) (from, to, at, others) = (
    to,
    going_others (r - i) i (omega arith) (λ k a b. others k a (omega arith))
        ∙ ap (going_from d book) (omega arith)
        ∙ going_this d book r to at,
  )
