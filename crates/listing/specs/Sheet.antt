-- What the listing and the panel have in common: the code prints either by one function.
use Rattle.std.specs.Prelude.{ℕ, ◌+◌, ◌*◌, List}
use Rattle.section.specs.declared.Answer.{Answer}
use Rattle.listing.specs.declared.sheets.Sheet.{Sheet}
use Rattle.listing.specs.declared.sheets.Sheet.TheVariants.{Listing, Panel}
use Rattle.lines.specs.Lines.{step_line, header_room, step_line_room}
use Rattle.lines.specs.PanelLine.{panel_line, panel_line_room}

-- a step's line
unfoldable pub line_on : Sheet → ℕ → List ℕ → Answer → List ℕ
line_on Listing index bytes answer = step_line index answer
line_on Panel index bytes answer = panel_line index bytes answer

-- room for the longest line of a step, and for a whole day
unfoldable pub line_room : Sheet → ℕ
line_room Listing = step_line_room
line_room Panel = panel_line_room

unfoldable pub room : Sheet → ℕ → ℕ
room sheet count = header_room + line_room sheet * count
