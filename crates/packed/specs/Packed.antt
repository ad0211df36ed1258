-- What the C interface returns, packed into one number.
use Rattle.std.specs.Prelude.{ℕ, ◌+◌, ◌*◌, ◌%◌, ◌^◌, Result}
use Rattle.section.specs.declared.Indications.{Indications}
use Rattle.section.specs.declared.Said.{Said}
use Rattle.section.specs.Refusal.{Outcome, Verdict, figure, call_figure, index_of, refusal_by}
use Rattle.section.specs.Outcome.{told_by, if_done}
use Rattle.section.specs.Words.{said_by, said_number}

-- a refusal, 0 for none, and 256 × a figure, of which the lowest 32 bits are kept
unfoldable pub packed_figure : ℕ → ℕ → ℕ
packed_figure number figure = number + figure % 2 ^ 32 * 256

-- the outcome of a call: the figure is how much was done, or the refusal's index
unfoldable pub packed_outcome_by : {R : Type 0} → (R → ℕ) → (R → ℕ) → Result ℕ R → ℕ
packed_outcome_by figure_of index outcome = packed_figure (refusal_by figure_of outcome) (told_by index outcome)

abbrev pub packed_outcome : Outcome → ℕ
packed_outcome outcome = packed_outcome_by call_figure index_of outcome

-- the outcome of reading a file: the refusal × 65,536, and the count of steps or the refusal's index
unfoldable pub packed_reading_by : {R : Type 0} → (R → ℕ) → (R → ℕ) → Result ℕ R → ℕ
packed_reading_by figure_of index outcome = refusal_by figure_of outcome * 65536 + told_by index outcome

abbrev pub packed_reading : Outcome → ℕ
packed_reading outcome = packed_reading_by call_figure index_of outcome

-- the refusal, and 256 × what is said
unfoldable pub packed_verdict_by : {R : Type 0} → (R → ℕ) → Result Said R → ℕ
packed_verdict_by figure_of v = refusal_by figure_of v + said_number (said_by v) * 256

abbrev pub packed_verdict : Verdict → ℕ
packed_verdict v = packed_verdict_by figure v

-- CIRCULATION, 8 × TRONÇON and 64 × the permission
unfoldable pub packed_indications : Indications → ℕ
packed_indications i = i.circulation + i.troncon * 8 + i.permission * 64

-- the outcome of copying a text out: its length and 1, or 0 for a buffer too short
unfoldable pub packed_copied : {R : Type 0} → Result ℕ R → ℕ
packed_copied outcome = if_done outcome (told_by (λ _. 0) outcome + 1) 0
