-- An offset with its sign: it is added to a time where k is added to the time and 120 to what it is compared with.
use mathlib.Core.Path.{◌≡◌, refl, sym, ◌∙◌, ap}
use mathlib.Core.Bool.{Bool, true, false, ◌&&◌}
use Prim.Native.Nat.{ℕ, suc, ◌+◌, ◌-◌, ◌≤◌}
use native.Mathlib.Omega.{arith}
use lib.Dec.{leb, ltb}
use lib.IntN.{pos, ◌+ℤ◌}
use lib.Signed.{le_z}
use borrow.Author.Tests.{le-leb, lt-leb, leb-true, leb-false, ltb-true, ltb-false}
use Rattle.registers.specs.Books.{longest_travel, signed_offset, first_clock, second_clock, arrives}
use Rattle.registers.specs.Promises.{SignedOffsets}

-- two tests of one fact
same_test : (a b c d : ℕ) → (a ≤ b → c ≤ d) → (c ≤ d → a ≤ b) → leb a b ≡ leb c d
same_test a b c d f g = go (leb a b) refl
  where
    go : (t : Bool) → leb a b ≡ t → leb a b ≡ leb c d
    go true e = e ∙ sym (le-leb c d (f (leb-true a b e)))
    go false e =
        let n : c ≤ d → ⊥ = λ h. omega (arith, g h, leb-false a b e) in
        e ∙ sym (lt-leb c d (omega (arith, n)))

module _ (k x y : ℕ) where
  pub le_later : le_z (pos x) (pos y +ℤ signed_offset k) ≡ leb (x + 120) (y + k)
  unfolding signed_offset
  le_later = go (ltb k 120) refl (ltb y (suc (120 - suc k))) refl
    where
      go :
          (b : Bool) → ltb k 120 ≡ b → (c : Bool) → ltb y (suc (120 - suc k)) ≡ c →
          le_z (pos x) (pos y +ℤ signed_offset k) ≡ leb (x + 120) (y + k)
      go true e true f =
          let p = ltb-true k 120 e in
          let q = ltb-true y (suc (120 - suc k)) f in
          rw (e, f, lt-leb (x + 120) (y + k) (omega arith))
      go true e false f =
          let p = ltb-true k 120 e in
          let q = ltb-false y (suc (120 - suc k)) f in
          rw (e, f) (same_test x (y - suc (120 - suc k)) (x + 120) (y + k) (λ h. omega arith) (λ h. omega arith))
      go false e c f =
          let p = ltb-false k 120 e in
          rw e (same_test x (y + (k - 120)) (x + 120) (y + k) (λ h. omega arith) (λ h. omega arith))

  pub later_le : le_z (pos y +ℤ signed_offset k) (pos x) ≡ leb (y + k) (x + 120)
  unfolding signed_offset
  later_le = go (ltb k 120) refl (ltb y (suc (120 - suc k))) refl
    where
      go :
          (b : Bool) → ltb k 120 ≡ b → (c : Bool) → ltb y (suc (120 - suc k)) ≡ c →
          le_z (pos y +ℤ signed_offset k) (pos x) ≡ leb (y + k) (x + 120)
      go true e true f =
          let p = ltb-true k 120 e in
          let q = ltb-true y (suc (120 - suc k)) f in
          rw (e, f, le-leb (y + k) (x + 120) (omega arith))
      go true e false f =
          let p = ltb-true k 120 e in
          let q = ltb-false y (suc (120 - suc k)) f in
          rw (e, f) (same_test (y - suc (120 - suc k)) x (y + k) (x + 120) (λ h. omega arith) (λ h. omega arith))
      go false e c f =
          let p = ltb-false k 120 e in
          rw e (same_test (y + (k - 120)) x (y + k) (x + 120) (λ h. omega arith) (λ h. omega arith))

pub signed_offsets : SignedOffsets
unfolding arrives first_clock second_clock
signed_offsets k x y = (
  rw (le_later k x y, later_le k (x + longest_travel) y) (ap (λ (n : ℕ). leb (x + 120) (y + k) && leb (y + k) n) (omega arith)),
  rw (later_le k y x, le_later k y (x + longest_travel)) (ap (λ (n : ℕ). leb (x + k) (y + 120) && leb (y + 120) n) (omega arith)),
)
