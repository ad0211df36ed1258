-- What is kept of steps offered one after another: of each its answer, for a tester (document 02, request 4), or its note, for the listing.
use Rattle.std.specs.Prelude.{ℕ, List, ◌≡◌, length, refl}
use Rattle.section.specs.declared.Answer.{Answer}
use Rattle.section.specs.declared.Section.{Section}
use Rattle.section.specs.Refusal.{Verdict}
use Rattle.section.specs.Words.{track_letter}
use Rattle.text.specs.Text.{first_texts}
use Rattle.notes.specs.Note.{answer_length, answer_by, answer_bytes, note_length, note_by, note_with}
use Rattle.judging_in_place.specs.Offered.{answer_to}

-- an entry: how long it is, and its bytes, from the verdict and the letters of tracks A and B after the step
pub record Entry : Type 0 where
  pub long : ℕ
  pub bytes : Verdict → ℕ → ℕ → List ℕ

-- it is always so long
abbrev pub AsLong : Entry → Type 0
AsLong entry = (verdict : Verdict) (a b : ℕ) → length (entry.bytes verdict a b) ≡ entry.long

abbrev pub answers : Entry
answers = record { long = answer_length; bytes = λ verdict a b. answer_bytes verdict }

abbrev pub notes : Entry
notes = record { long = note_length; bytes = note_with }

pub answers_as_long : AsLong answers
unfolding answer_by
answers_as_long verdict a b = refl

pub notes_as_long : AsLong notes
unfolding note_by answer_by
notes_as_long verdict a b = refl

unfoldable pub entry_of : Entry → Answer → List ℕ
entry_of entry answer = entry.bytes answer.verdict (track_letter answer.section.a) (track_letter answer.section.b)

-- of step i
unfoldable pub entry_on : Entry → Section → List ℕ → ℕ → List ℕ
entry_on entry first steps i = entry_of entry (answer_to first steps i)

unfoldable pub entries_of : Entry → Section → List ℕ → ℕ → List ℕ
entries_of entry first steps count = first_texts (entry_on entry first steps) count
