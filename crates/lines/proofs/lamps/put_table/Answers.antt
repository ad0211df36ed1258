use Rattle.text.proofs.Put.{room_for_more, one_more}
use Rattle.rules.specs.LampTable.{table_length}
use Rattle.lines.specs.PrintedTable.{entry_line, line_room}
use Rattle.lines.proofs.lamps.Laws.{entry_short}
use Rattle.lines.proofs.lamps.put_table.Goals as goal

pub put_number-requires : goal.put_number-requires
put_number-requires c =
    room_for_more _ entry_line line_room table_length entry_short (rw c.new-text.ensures c.requires) c.loop-i.i c.loop-i-test.true c.loop-i.invariant

pub loop-i-preserved : goal.loop-i-preserved
loop-i-preserved c =
    one_more _ entry_line line_room table_length entry_short (rw c.new-text.ensures c.requires) c.loop-i.i c.loop-i-test.true c.loop-i.invariant
    (rw c.entry_by_rule.ensures at c.put_number.ensures)
