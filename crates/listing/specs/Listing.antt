-- The bench listing of a file (document 01, "The bench listing"): from the file's bytes to the listing's bytes.
use Rattle.std.specs.Prelude.{ℕ, List}
use Rattle.lines.specs.Lines.{step_line}
use Rattle.listing.specs.Printed.{printed}

-- the listing of a file
unfoldable pub listing : List ℕ → List ℕ
listing file = printed (λ i bytes answer. step_line i answer) file
