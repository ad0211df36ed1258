-- What is noted of the steps of a day, offered one after another from fresh.
use Rattle.std.specs.Prelude.{ℕ, ◌*◌, ◌/◌, not, cond, List, ◌≡◌, ltb, length}
use Rattle.std.specs.Prelude.{Ok, Err}
use Rattle.section.specs.declared.CallRefusal.TheVariants.{MalformedStep, NoRoom, StateOutOfRange}
use Rattle.section.specs.Refusal.{Outcome}
use Rattle.section.specs.declared.Settings.{Settings}
use Rattle.section.specs.Fresh.{fresh_section}
use Rattle.section.specs.Numbers.{step_length}
use Rattle.section.specs.Outcome.{refusal_number, refusal_index, if_done}
use Rattle.section.specs.Settings.{settings_in_range}
use Rattle.text.specs.Text.{written, first_texts}
use Rattle.notes.specs.Note.{note_length, note}
use Rattle.judging_in_place.specs.Offered.{answer_to}

-- of step i
unfoldable pub note_on : Settings → List ℕ → ℕ → List ℕ
note_on c steps i = note (answer_to (fresh_section c) steps i)

unfoldable pub notes_of : Settings → List ℕ → ℕ → List ℕ
notes_of c steps count = first_texts (note_on c steps) count

-- how many steps are there whole
abbrev pub whole_steps : List ℕ → ℕ
whole_steps steps = length steps / step_length

-- of so many steps: 6 for settings out of their ranges; 4 with the index of the first step that is not there whole; 5 for a buffer too short for the
-- notes; else how many are noted
unfoldable pub day_outcome : Settings → List ℕ → ℕ → ℕ → Outcome
day_outcome c steps count room =
    cond (not (settings_in_range c)) (Err StateOutOfRange)
    (cond (ltb (whole_steps steps) count) (Err (MalformedStep (whole_steps steps)))
    (cond (ltb room (note_length * count)) (Err NoRoom)
    (Ok count)))

-- the buffer afterwards: the notes at its front; a refusal leaves it untouched
unfoldable pub notes_after : Settings → List ℕ → ℕ → List ℕ → List ℕ
notes_after c steps count buffer = if_done (day_outcome c steps count (length buffer)) (written buffer 0 (notes_of c steps count)) buffer

-- "with the index of the first malformed step for 4": 4 is not given without it
abbrev pub IndexOfTheFirstNotWhole : Type 0
IndexOfTheFirstNotWhole =
    (c : Settings) (steps : List ℕ) (count room : ℕ) → refusal_number (day_outcome c steps count room) ≡ 4 →
    refusal_index (day_outcome c steps count room) ≡ whole_steps steps
