-- The length of settings, a trailer that fits its file, the first number that fails a test, and the first malformed step.
use mathlib.Core.Path.{◌≡◌, refl, sym, ◌∙◌, ap}
use mathlib.Core.Bool.{Bool, true, false, ◌||◌, cond, true≢false}
use mathlib.Core.List.{List}
use Prim.Native.Nat.{ℕ, zero, suc, ◌+◌, ◌-◌, ◌*◌, ◌/◌, ◌<◌, ◌≤◌}
use native.Mathlib.Nat.{not-suc-le-zero}
use native.Mathlib.Omega.{arith}
use Rattle.std.specs.Prelude.{Option, Some, None, MatchOption}
use Rattle.std.specs.Option.{unwrap_or}
use lib.ListN.{length, take, drop, length-take, length-drop}
use lib.Dec.{eqb, leb}
use borrow.Author.Tests.{eqb-true, ltb-false, leb-true, leb-false, ne_eqb}
use Rattle.section.specs.Numbers.{step_length}
use Rattle.section.specs.Settings.{settings_in_range}
use Rattle.section.specs.Step.{well_formed}
use Rattle.section.proofs.Laws.{and_parts, and_right}
use Rattle.layout.specs.Layout.{most_steps, settings_length, settings_distance, steps_distance, step_count}
use Rattle.layout.specs.Layout.{tail_of, trailer_in, tail_in, steps_in, settings_of, step_at}
use Rattle.layout.proofs.Parts.{steps_length}
use Rattle.file_tests.specs.Tests.{length_suits, trailer_well_formed, trailer_fits, zeros_well_formed, settings_well_formed}
use Rattle.file_tests.specs.Tests.{leading, well_at, first_malformed, some_malformed}

-- ## Tests passed one after another

pub neither : (a b : Bool) → a || b ≡ false → (a ≡ false) × (b ≡ false)
neither true b e = absurd (true≢false e)
neither false b e = (refl, e)

-- ## Settings

-- they are as long as a file has them
pub settings_length_lem : (s : List ℕ) → settings_well_formed s ≡ true → length s ≡ settings_length + tail_of (settings_of s)
unfolding settings_well_formed
settings_length_lem s e =
    let h = and_right (settings_in_range (settings_of s)) _ e in
    eqb-true _ _ (and_right (zeros_well_formed s) (eqb (length s) (settings_length + tail_of (settings_of s))) h)

pub settings_enough : (s : List ℕ) → settings_well_formed s ≡ true → settings_length ≤ length s
settings_enough s e = omega (arith, settings_length_lem s e)

-- ## The trailer

-- what a file has whose trailer is what its length demands
pub record TrailerFits (file : List ℕ) : Type 0 where
  pub least : settings_distance (tail_in file) ≤ length file
  pub most : length file ≤ steps_distance (tail_in file) most_steps
  pub trailer_well : trailer_well_formed (tail_in file) (step_count (steps_in file)) (trailer_in file) ≡ true

pub few_steps : (file : List ℕ) → length file ≤ steps_distance (tail_in file) most_steps → step_count (steps_in file) ≤ most_steps
unfolding step_count
few_steps file h = omega (arith, steps_length file)

module _ (tail size : ℕ) where
  pub length_suits_lem : length_suits tail size ≡ true → (settings_distance tail ≤ size) × (size ≤ steps_distance tail most_steps)
  unfolding length_suits
  length_suits_lem e =
      let p = and_parts (leb (settings_distance tail) size) (leb size (steps_distance tail most_steps)) e in
      (leb-true _ _ p.0, leb-true _ _ p.1)

pub trailer_fits_lem : (file : List ℕ) → trailer_fits file ≡ true → TrailerFits file
unfolding trailer_fits
trailer_fits_lem file e =
    let tail = tail_in file in
    let p = and_parts (length_suits tail (length file)) (trailer_well_formed tail (step_count (steps_in file)) (trailer_in file)) e in
    let suits = length_suits_lem tail (length file) p.0 in
    record { least = suits.0; most = suits.1; trailer_well = p.1 }

-- ## The first number that fails a test

-- r is it where the test passes below r and fails at r, unless r is m
pub leading_is :
    (t : ℕ → Bool) (m r : ℕ) → r ≤ m → ((k : ℕ) → k < r → t k ≡ true) → (r < m → t r ≡ false) → r ≡ leading t m
unfolding leading
leading_is t zero r h below at = omega arith
leading_is t (suc m) zero h below at = rw (at (omega arith)) refl
leading_is t (suc m) (suc r) h below at =
    rw (below 0 (omega arith))
    (ap suc
    (leading_is (λ (k : ℕ). t (suc k)) m r (omega arith) (λ k q. below (suc k) (omega arith)) (λ q. at (omega arith))))

-- what `find` says of the first number below `whole` that fails, where all from there on fail
pub leading_found :
    (t : ℕ → Bool) (m whole : ℕ) (r : Option ℕ) → whole ≤ m → (whole < m → t whole ≡ false) →
    MatchOption r ((k : ℕ) → 0 ≤ k → k < whole → t k ≡ true)
    (λ i. (0 ≤ i) × (i < whole) × (t i ≡ false) × ((k : ℕ) → 0 ≤ k → k < i → t k ≡ true)) →
    unwrap_or r whole ≡ leading t m
leading_found t m whole None h last below = leading_is t m whole h (λ k q. below k (omega arith) q) last
leading_found t m whole (Some i) h last (from, to, fails, below) =
    leading_is t m i (omega arith) (λ k q. below k (omega arith) q) (λ q. fails)

-- where none of the first m fails, all pass
pub all_pass : (t : ℕ → Bool) (m : ℕ) → m ≤ leading t m → (k : ℕ) → k < m → t k ≡ true
unfolding leading
all_pass t zero h = λ k q. absurd (not-suc-le-zero q)
all_pass t (suc m) h = go (t 0) refl h (all_pass (λ (j : ℕ). t (suc j)) m)
  where
    go :
        (b : Bool) → t 0 ≡ b → suc m ≤ cond b (suc (leading (λ (j : ℕ). t (suc j)) m)) 0 →
        (m ≤ leading (λ (j : ℕ). t (suc j)) m → (k : ℕ) → k < m → t (suc k) ≡ true) →
        (k : ℕ) → k < suc m → t k ≡ true
    go false e h later k q = absurd (not-suc-le-zero h)
    go true e h later zero q = e
    go true e h later (suc k) q = later (omega arith) k (omega arith)

-- ## Steps

-- what a test said of the bytes of a step is said of the step
pub well_here : (n : ℕ) (s part : List ℕ) {v : Bool} (i : ℕ) → part ≡ step_at s i → well_formed n part ≡ v → well_at n s i ≡ v
unfolding well_at
well_here n s part i p e = ap (well_formed n) (sym p) ∙ e

not_eight : (n : ℕ) (s : List ℕ) → (length s ≡ 8 → ⊥) → well_formed n s ≡ false
unfolding well_formed
not_eight n s h = rw (ne_eqb (length s) 8 h)

-- an incomplete step is malformed
pub incomplete : (n : ℕ) (s : List ℕ) (i : ℕ) → length s < i * 8 + 8 → well_at n s i ≡ false
unfolding well_at step_at
incomplete n s i h =
    not_eight n (take 8 (drop (i * 8) s)) (λ e. omega (arith, e, length-take 8 (drop (i * 8) s), length-drop (i * 8) s))

-- with no malformed step there is no incomplete one
pub all_whole : (n : ℕ) (s : List ℕ) → some_malformed n s ≡ false → length s ≡ step_length * step_count s
unfolding some_malformed first_malformed step_count
all_whole n s e = go (leb (8 * m) (length s)) refl
  where
    m : ℕ
    m = (length s + 7) / 8

    go : (b : Bool) → leb (8 * m) (length s) ≡ b → length s ≡ 8 * m
    go true q = omega (arith, leb-true (8 * m) (length s) q)
    go false q =
        let h = leb-false (8 * m) (length s) q in
        let p = all_pass (well_at n s) m (ltb-false (leading (well_at n s) m) m e) (m - 1) (omega arith) in
        absurd (true≢false (sym p ∙ incomplete n s (m - 1) (omega arith)))
