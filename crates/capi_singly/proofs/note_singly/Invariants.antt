-- After i turns the state is the section before step i, and the notes of the steps 0 .. i − 1 stand in the buffer.
use Rattle.std.proofs.Common.{◌≡◌, length}
use Rattle.section.specs.Fresh.{fresh_section}
use Rattle.text.specs.Text.{written, first_texts}
use Rattle.judging_in_place.specs.Offered.{section_before}
use Rattle.judging_in_place.specs.Entries.{notes, entry_on}
use Rattle.capi_singly.proofs.note_singly.Given as goal

abbrev pub invariant-loop-i : goal.invariant-loop-i
invariant-loop-i l =
    (length l.notes ≡ length l.fn.notes)
    × ((l.state ≡ section_before (fresh_section l.fn.c) l.steps l.i)
    × (l.notes ≡ written l.fn.notes 0 (first_texts (entry_on notes (fresh_section l.fn.c) l.steps) l.i)))
