-- The fresh section (document 01, "The section").
use Rattle.std.specs.Prelude.{ℕ, ◌-◌, Bool, true, false, cond, set, replicate}
use Rattle.section.specs.declared.Settings.{Settings}
use Rattle.section.specs.declared.Track.{Track}
use Rattle.section.specs.declared.Section.{Section}
use Rattle.section.specs.declared.Walk.TheVariants.{Settled}
use Rattle.section.specs.Numbers.{most_posts, most_blocks}
use Rattle.section.specs.Post.{blank, permitted}

-- "permission at each track's VNS sending end": post 0 on A, post n−1 on B
unfoldable pub fresh_track : ℕ → Bool → Track
fresh_track n track = record {
  posts = set (replicate most_posts blank) (cond track (n - 1) 0) (permitted true blank);
  trains = replicate most_blocks 0;
  last = replicate most_blocks 0;
  cvt = false;
  walk = Settled;
}

-- for settings out of their ranges too: judging answers such a section with 6
unfoldable pub fresh_section : Settings → Section
fresh_section c = record { settings = c; a = fresh_track c.posts false; b = fresh_track c.posts true }
