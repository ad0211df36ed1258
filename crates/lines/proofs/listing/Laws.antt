-- The lines of steps from their notes: how long they are, and the part of the notes that is lent for each.
use Prim.Native.Nat.{ℕ, ◌+◌, ◌-◌, ◌*◌, ◌<◌, ◌≤◌}
use mathlib.Core.List.{List}
use mathlib.Core.Path.{◌≡◌, refl, ap}
use native.Mathlib.Omega.{arith}
use native.Mathlib.Nat.{add-sub_cancel_left}
use lib.ListN.{length, take, drop, length-drop}
use lib.Seq.{length-take-le}
use Rattle.section.specs.declared.Answer.{Answer}
use Rattle.section.specs.Words.{said_by}
use Rattle.section.proofs.words.Laws.{said_back}
use Rattle.lines.specs.Lines.{step_line, step_line_room}
use Rattle.lines.proofs.Puts.{fields_length}
use Rattle.notes.specs.Note.{answer_by, note_length, note_by, note}
use Rattle.lines.specs.Noted.{noted_line, note_at}

abbrev pub line_of : List ℕ → ℕ → List ℕ
line_of notes i = noted_line i (note_at notes i)

pub line_short : (notes : List ℕ) (i : ℕ) → length (line_of notes i) ≤ step_line_room
unfolding noted_line
line_short notes i = fields_length i _ _ _ _

pub note_part : (notes : List ℕ) (i : ℕ) → take (i * note_length + note_length - i * note_length) (drop (i * note_length) notes) ≡ note_at notes i
unfolding note_at
note_part notes i = ap (λ (k : ℕ). take k (drop (i * note_length) notes)) (add-sub_cancel_left (i * note_length) note_length)

pub note_length_lem : (notes : List ℕ) (i count : ℕ) → i < count → note_length * count ≤ length notes → length (note_at notes i) ≡ note_length
unfolding note_at
note_length_lem notes i count h l = length-take-le note_length (drop (i * note_length) notes) (simp length-drop (omega arith))

-- what is noted of an answer gives its line
pub line_noted : (index : ℕ) (answer : Answer) → noted_line index (note answer) ≡ step_line index answer
unfolding noted_line note note_by answer_by step_line
line_noted index answer = rw (said_back (said_by answer.verdict)) refl
