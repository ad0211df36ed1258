use Rattle.std.proofs.Common.{arith}
use Rattle.text.proofs.Put.{room_for_more, one_more}
use Rattle.lines.specs.Lines.{step_line_room}
use Rattle.lines.proofs.listing.Laws.{line_of, line_short, note_part, note_length_lem}
use Rattle.lines.proofs.listing.put_noted_lines.Goals as goal

pub put_noted-requires : goal.put_noted-requires
put_noted-requires c = (
  room_for_more _ (line_of c.args.notes.now) step_line_room c.args.count (line_short c.args.notes.now) c.requires.0
      c.loop-i.i
      c.loop-i-test.true
      c.loop-i.invariant,
  rw (note_part c.args.notes.now c.loop-i.i, note_length_lem c.args.notes.now c.loop-i.i c.args.count c.loop-i-test.true c.requires.1)
      (omega arith),
)

pub loop-i-preserved : goal.loop-i-preserved
loop-i-preserved c =
    one_more _ (line_of c.args.notes.now) step_line_room c.args.count (line_short c.args.notes.now) c.requires.0 c.loop-i.i
    c.loop-i-test.true c.loop-i.invariant (rw (note_part c.args.notes.now c.loop-i.i) at c.put_noted.ensures)
