-- A site from what its track does, and what counts of the other track.
use Rattle.std.specs.Prelude.{ℕ, Bool}
use Rattle.section.specs.declared.Post.{Post}
use Rattle.section.specs.declared.Track.{Track}
use Rattle.rules.specs.declared.Site.{Site}
use Rattle.rules.specs.Site.{settled_vns}
use Rattle.site.specs.declared.running.Running.{Running}

abbrev pub running_of : Track → Running
running_of t = record { cvt = t.cvt; walk = t.walk }

-- at a post with that record
abbrev pub site_with : Bool → ℕ → Post → Running → Site
site_with track p own r = record { track = track; post = p; cvt = r.cvt; walk = r.walk; own = own }

-- the track that runs so is settled on VNS: all that counts of the other track
abbrev pub on_vns : Running → Bool
on_vns r = settled_vns r.walk r.cvt
