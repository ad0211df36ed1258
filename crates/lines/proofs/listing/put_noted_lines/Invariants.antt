-- After i turns the lines of the steps 0 .. i − 1 are put.
use Rattle.std.proofs.Common.{◌≡◌}
use Rattle.text.specs.Put.{put}
use Rattle.text.specs.Text.{first_texts}
use Rattle.lines.proofs.listing.Laws.{line_of}
use Rattle.lines.proofs.listing.put_noted_lines.Given as goal

abbrev pub invariant-loop-i : goal.invariant-loop-i
invariant-loop-i l = l.text ≡ put l.initial.text (first_texts (line_of l.notes) l.i)
