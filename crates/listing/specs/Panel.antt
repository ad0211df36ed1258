-- The panel of a file: after each step a line with what every post shows on the step's track.
use Rattle.std.specs.Prelude.{ℕ, List}
use Rattle.lines.specs.PanelLine.{panel_line}
use Rattle.listing.specs.Printed.{printed}

-- the panel of a file
unfoldable pub panel : List ℕ → List ℕ
panel file = printed panel_line file
