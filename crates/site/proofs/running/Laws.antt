-- A site of a track in its ranges.
use Prim.Native.Nat.{ℕ, ◌<◌}
use mathlib.Core.Bool.{Bool, true}
use mathlib.Core.Path.{◌≡◌}
use Rattle.section.specs.declared.Settings.{Settings}
use Rattle.section.specs.declared.Track.{Track}
use Rattle.section.specs.Range.{track_in_range}
use Rattle.section.specs.Settings.{settings_in_range}
use Rattle.section.specs.Store.{post_on}
use Rattle.section.proofs.Laws.{posts_right, seals_right, track_ranges}
use Rattle.rules.specs.Line.{line_of}
use Rattle.rules.specs.Site.{site_on}
use Rattle.site.specs.InItsRanges.{InItsRanges}
use Rattle.site.proofs.UnusedLast.{unused_last}

pub in_its_ranges :
    (c : Settings) (track : Bool) (t : Track) (p : ℕ) → settings_in_range c ≡ true → track_in_range c.posts track t ≡ true → p < c.posts
    → InItsRanges (line_of c) (site_on track p t)
in_its_ranges c track t p right fits below =
    let n = posts_right c right in
    let r = track_ranges c.posts track t fits in
    record {
      on_the_line = record { least = n.0; most = n.1; crossings = unused_last c right; post = below };
      seals = seals_right (post_on t p) (r.posts p below);
      walk = r.walk;
    }
