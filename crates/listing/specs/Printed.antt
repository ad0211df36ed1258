-- What is printed of a file (document 01, "The bench listing"): from the file's bytes to bytes, for any line of a step.
use Rattle.std.specs.Prelude.{ℕ, List, ◌++◌, Result, Ok, Err}
use Rattle.section.specs.declared.Answer.{Answer}
use Rattle.section.specs.declared.CallRefusal.{CallRefusal}
use Rattle.section.specs.declared.Section.{Section}
use Rattle.section.specs.declared.Settings.{Settings}
use Rattle.section.specs.Fresh.{fresh_section}
use Rattle.section.specs.Refusal.{call_figure, index_of}
use Rattle.layout.specs.Layout.{step_at, steps_in}
use Rattle.dayfile.specs.declared.ReadDay.{ReadDay}
use Rattle.dayfile.specs.Answers.{read_of}
use Rattle.text.specs.Text.{first_texts}
use Rattle.lines.specs.Lines.{refused_line, header}
use Rattle.judging_in_place.specs.Offered.{answer_to}

-- a line per step: `line` gives it from the step's index, its bytes and the answer to it
unfoldable pub lines : (ℕ → List ℕ → Answer → List ℕ) → Section → List ℕ → ℕ → List ℕ
lines line first steps count = first_texts (λ i. line i (step_at steps i) (answer_to first steps i)) count

-- of a day that is read: "a header, then a line per step"
unfoldable pub printed_day : (ℕ → List ℕ → Answer → List ℕ) → Settings → ℕ → List ℕ → List ℕ
printed_day line c count steps = header c.posts count ++ lines line (fresh_section c) steps count

-- "A refused file gives one line, `refused K I` (number, index). Else a header, then a line per step"
unfoldable pub printed_read : (ℕ → List ℕ → Answer → List ℕ) → Result ReadDay CallRefusal → List ℕ → List ℕ
printed_read line (Ok day) steps = printed_day line day.settings day.count steps
printed_read line (Err refusal) steps = refused_line (call_figure refusal) (index_of refusal)

-- what is printed of a file
unfoldable pub printed : (ℕ → List ℕ → Answer → List ℕ) → List ℕ → List ℕ
printed line file = printed_read line (read_of file) (steps_in file)
