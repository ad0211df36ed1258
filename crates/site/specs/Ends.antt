-- Where a stretch or a part ends: the code's one test for both. A stretch ends at every post in VNS and at the signalled ones in CVT, a part at
-- every post by telephone and at the signalled ones on materialised lines.
use Rattle.std.specs.Prelude.{ℕ, Bool, not, ◌||◌}
use Rattle.rules.specs.declared.Line.{Line}
use Rattle.section.specs.Geometry.{rank}
use Rattle.section.specs.Settings.{is_signalled}

abbrev pub ends_at_rank : Line → Bool → Bool → ℕ → Bool
ends_at_rank c signalled_only up j = not signalled_only || is_signalled c.mask (rank c.posts up j)
