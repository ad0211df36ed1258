-- The stretch that begins at a post.
use Rattle.std.specs.Prelude.{ℕ, Bool, false, List, []}
use Rattle.rules.specs.declared.Line.{Line}
use Rattle.rules.specs.declared.Site.{Site}
use Rattle.rules.specs.Site.{occupancy_at}

-- a train in it; neither a number nor the last trains nor the other track count
abbrev pub stretch_occupied : Line → Site → List ℕ → Bool
stretch_occupied c e trains = (occupancy_at c (record { on_vns = false }) e 0 trains []).stretch_occupied
