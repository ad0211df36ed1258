-- What a step and its bytes say of each other. The proofs are in proofs/Codec.antt.
use Rattle.std.specs.Prelude.{ℕ, ◌≤◌, ◌≡◌, true, List, length}
use Rattle.std.specs.Prelude.{Some}
use Rattle.section.specs.declared.TrackStep.{TrackStep}
use Rattle.section.specs.Bytes.{AllBytes}
use Rattle.section.specs.Numbers.{step_length}
use Rattle.section.specs.Step.{decoded, encoded, step_in_range}

-- The bytes of a step whose track, post and number are in their ranges say that step.
abbrev pub DecodesWhatIsEncoded : Type 0
DecodesWhatIsEncoded = (n : ℕ) (x : TrackStep) → step_in_range n x ≡ true → decoded n (encoded x) ≡ Some x

-- They are eight, and each is a byte where n is at most 256.
abbrev pub EncodesInEightBytes : Type 0
EncodesInEightBytes =
    (n : ℕ) (x : TrackStep) → n ≤ 256 → step_in_range n x ≡ true → (length (encoded x) ≡ step_length) × AllBytes (encoded x)

-- The bytes of the step that bytes say are those bytes.
abbrev pub EncodesWhatIsDecoded : Type 0
EncodesWhatIsDecoded = (n : ℕ) (s : List ℕ) (x : TrackStep) → decoded n s ≡ Some x → AllBytes s → encoded x ≡ s

-- Bytes say only steps whose track, post and number are in their ranges.
abbrev pub DecodesOnlyWhatFits : Type 0
DecodesOnlyWhatFits = (n : ℕ) (s : List ℕ) (x : TrackStep) → decoded n s ≡ Some x → step_in_range n x ≡ true
