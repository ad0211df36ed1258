-- The lines of steps from what is noted of them.
use Rattle.std.specs.Prelude.{ℕ, ◌*◌, List, get_or, take, drop}
use Rattle.lines.specs.Lines.{fields}
use Rattle.text.specs.Text.{first_texts}
use Rattle.section.specs.Words.{said_numbered}
use Rattle.notes.specs.Note.{note_length}

unfoldable pub noted_line : ℕ → List ℕ → List ℕ
noted_line index note = fields index (get_or note 0 0) (said_numbered (get_or note 1 0)) (get_or note 2 0) (get_or note 3 0)

-- the note of step i
unfoldable pub note_at : List ℕ → ℕ → List ℕ
note_at notes i = take note_length (drop (i * note_length) notes)

unfoldable pub noted_lines : List ℕ → ℕ → List ℕ
noted_lines notes count = first_texts (λ i. noted_line i (note_at notes i)) count
