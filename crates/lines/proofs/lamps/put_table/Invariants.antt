-- After i turns the lines of the first i entries are put.
use Rattle.std.proofs.Common.{◌≡◌}
use Rattle.text.specs.Put.{put}
use Rattle.text.specs.Text.{first_texts}
use Rattle.lines.specs.PrintedTable.{entry_line}
use Rattle.lines.proofs.lamps.put_table.Given as goal

abbrev pub invariant-loop-i : goal.invariant-loop-i
invariant-loop-i l = l.text ≡ put l.initial.text (first_texts entry_line l.i)
