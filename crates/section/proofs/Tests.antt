-- A row of tests, one after another. A function walks it by early returns: `Passed` are the tests that hold so far, and before a rest of the row they
-- say the rest. A loop walks a test of the first m cells from the last down.
use Prim.Native.Nat.{ℕ, zero, suc, ◌-◌, ◌<◌}
use mathlib.Core.Bool.{Bool, true, false, ◌&&◌}
use mathlib.Core.Path.{◌≡◌, ◌∙◌}
use native.Mathlib.Nat.{not-suc-le-zero}
use native.Mathlib.Numerals.{sub-one}

infixl 1 ◌then◌
pub record Passed : Type 0 where
  pub before : Bool → Bool
  pub say : (rest : Bool) → before rest ≡ rest

-- a first test that holds
abbrev pub first : {b : Bool} → b ≡ true → Passed
first {b} e = record { before = λ rest. b && rest; say = λ rest. rw e }

-- one test more
abbrev pub ◌then◌ : Passed → {b : Bool} → b ≡ true → Passed
◌then◌ p {b} e = record { before = λ rest. p.before (b && rest); say = λ rest. p.say (b && rest) ∙ rw e }

-- `fits m` says that `test` holds of each cell below m
module _ (test fits : ℕ → Bool) (more : (m : ℕ) → fits (suc m) ≡ (test m && fits m)) where
  last_first : (i : ℕ) → 0 < i → fits i ≡ (test (i - 1) && fits (i - 1))
  last_first zero h = absurd (not-suc-le-zero h)
  last_first (suc i) h = rw (sub-one (suc i)) (more i)

  -- the loop stops at a cell for which the test fails, and goes on from one for which it holds
  pub stops : (i : ℕ) → 0 < i → test (i - 1) ≡ false → fits i ≡ false
  stops i h e = last_first i h ∙ rw e

  pub goes_on : (i : ℕ) → 0 < i → test (i - 1) ≡ true → fits i ≡ fits (i - 1)
  goes_on i h e = last_first i h ∙ rw e
