-- What a call that notes the steps of a day is answered, and the lent buffer afterwards. Settings come in a day file's bytes.
use Rattle.std.specs.Prelude.{ℕ, cond, List}
use Rattle.std.specs.Prelude.{Err}
use Rattle.section.specs.declared.CallRefusal.TheVariants.{StateOutOfRange}
use Rattle.section.specs.Refusal.{Outcome}
use Rattle.layout.specs.Layout.{step_count, settings_of}
use Rattle.packed.specs.Settings.{lent_settings_well_formed}
use Rattle.judging_in_place.specs.Notes.{day_outcome, notes_after}

-- 6 for bytes that are no settings, as for a state with settings out of range; then 4 with its index for an incomplete step, which comes last; then 5
-- for a buffer too short for the notes
unfoldable pub day_answer : List ℕ → List ℕ → ℕ → Outcome
day_answer settings steps room =
    cond (lent_settings_well_formed settings) (day_outcome (settings_of settings) steps (step_count steps) room) (Err StateOutOfRange)

-- the notes at the buffer's front; a refused call leaves it untouched
unfoldable pub day_notes : List ℕ → List ℕ → List ℕ → List ℕ
day_notes settings steps buffer = cond (lent_settings_well_formed settings) (notes_after (settings_of settings) steps (step_count steps) buffer) buffer
