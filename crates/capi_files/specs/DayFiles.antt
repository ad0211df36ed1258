-- What the calls to the reader and the writer of day files return, and the lent buffer afterwards. Settings are in a day file's bytes.
use Rattle.std.specs.Prelude.{ℕ, cond, List}
use Rattle.std.specs.Prelude.{Result, Ok, Err}
use Rattle.section.specs.declared.CallRefusal.{CallRefusal}
use Rattle.section.specs.declared.CallRefusal.TheVariants.{WrongSettings}
use Rattle.section.specs.Refusal.{Outcome}
use Rattle.text.specs.Copied.{copied, copied_out}
use Rattle.layout.specs.Layout.{settings_part, settings_of}
use Rattle.dayfile.specs.declared.ReadDay.{ReadDay}
use Rattle.dayfile.specs.Answers.{read_of, write_verdict, written_into}
use Rattle.packed.specs.Settings.{lent_settings_well_formed}

-- ## The settings of a file

-- the file's refusal; then 5 for a buffer too short; else how many bytes its settings have, eight or sixteen
unfoldable pub settings_copied : Result ReadDay CallRefusal → List ℕ → Outcome
settings_copied (Ok day) buffer = copied (settings_part day.settings) buffer
settings_copied (Err refusal) buffer = Err refusal

unfoldable pub settings_answer : List ℕ → List ℕ → Outcome
settings_answer file buffer = settings_copied (read_of file) buffer

-- the settings at its front; a refusal leaves it untouched
unfoldable pub settings_put : Result ReadDay CallRefusal → List ℕ → List ℕ
settings_put (Ok day) buffer = copied_out (settings_part day.settings) buffer
settings_put (Err refusal) buffer = buffer

unfoldable pub settings_buffer : List ℕ → List ℕ → List ℕ
settings_buffer file buffer = settings_put (read_of file) buffer

-- ## The writer

-- bytes that are no settings give 3, as in a file
unfoldable pub write_answer : List ℕ → List ℕ → ℕ → Outcome
write_answer settings steps room = cond (lent_settings_well_formed settings) (write_verdict (settings_of settings) steps room) (Err WrongSettings)

-- and leave the buffer untouched
unfoldable pub write_buffer : List ℕ → List ℕ → List ℕ → List ℕ
write_buffer settings steps buffer = cond (lent_settings_well_formed settings) (written_into (settings_of settings) steps buffer) buffer
