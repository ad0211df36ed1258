-- A step and its bytes, in plain words. `step_in_plain_words` (proofs/StepInPlainWords.antt) draws each from the statements of RoundTrip alone, and
-- each of those is used by one.
use Rattle.std.specs.Prelude.{ℕ, ◌≤◌, ◌<◌, ◌≡◌, Bool, true, List, length, get_or}
use Rattle.std.specs.Prelude.{Some, None}
use Rattle.section.specs.declared.Step.TheVariants.{Start}
use Rattle.section.specs.declared.TrackStep.{TrackStep}
use Rattle.section.specs.Step.{decoded, post_of, encoded, step_in_range}

-- each number of a list is below 256
abbrev pub Below256 : List ℕ → Type 0
Below256 s = (i : ℕ) → get_or s i 0 < 256

module _ (n : ℕ) where
  pub record StepInPlainWords : Type 0 where
    -- a step in its ranges is never malformed, and no other step has its bytes
    pub never_malformed : (x : TrackStep) → step_in_range n x ≡ true → decoded n (encoded x) ≡ None → ⊥
    pub one_step : (x y : TrackStep) → step_in_range n x ≡ true → step_in_range n y ≡ true → encoded x ≡ encoded y → x ≡ y
    -- "a step is eight bytes"
    pub eight : (x : TrackStep) → n ≤ 256 → step_in_range n x ≡ true → length (encoded x) ≡ 8
    pub are_bytes : (x : TrackStep) → n ≤ 256 → step_in_range n x ≡ true → Below256 (encoded x)
    -- a step is said by one string of bytes only
    pub one_string : (s t : List ℕ) (x : TrackStep) → Below256 s → Below256 t → decoded n s ≡ Some x → decoded n t ≡ Some x → s ≡ t
    -- a step that was said is said by its bytes too
    pub said_again : (s : List ℕ) (x : TrackStep) → decoded n s ≡ Some x → decoded n (encoded x) ≡ Some x
    -- "post, below n"; "The number is 1 to" 59,999 of a train that starts
    pub post_below : (s : List ℕ) (x : TrackStep) → decoded n s ≡ Some x → post_of x.step < n
    pub number_of_start : (s : List ℕ) (track : Bool) (p number : ℕ) → decoded n s ≡ Some (record { track = track; step = Start p number })
        → (1 ≤ number) × (number ≤ 59999)
