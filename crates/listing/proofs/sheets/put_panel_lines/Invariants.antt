-- After i turns the state is the section before step i, and the lines of the steps 0 .. i − 1 are put.
use Rattle.std.proofs.Common.{◌≡◌}
use Rattle.text.specs.Put.{put}
use Rattle.text.specs.Text.{first_texts}
use Rattle.judging_in_place.specs.Offered.{section_before}
use Rattle.listing.proofs.sheets.Laws.{line_at}
use Rattle.listing.proofs.sheets.put_panel_lines.Given as goal

abbrev pub invariant-loop-i : goal.invariant-loop-i
invariant-loop-i l =
    (l.state ≡ section_before l.initial.state l.steps l.i) × (l.text ≡ put l.initial.text (first_texts (line_at l.initial.state l.steps) l.i))
