-- The tracks of a section, the posts of a track.
use Rattle.std.specs.Prelude.{ℕ, Bool, cond, get_or, set}
use Rattle.section.specs.declared.Post.{Post}
use Rattle.section.specs.declared.Track.{Track}
use Rattle.section.specs.declared.Section.{Section}
use Rattle.section.specs.Post.{blank}

-- track B, or else A
abbrev pub track_of : Section → Bool → Track
track_of s track = cond track s.b s.a

abbrev pub with_track : Section → Bool → Track → Section
with_track s track t = record { settings = s.settings; a = cond track s.a t; b = cond track t s.b }

-- the record of post p; a post that the track has not is blank
abbrev pub post_on : Track → ℕ → Post
post_on t p = get_or t.posts p blank

abbrev pub with_post : Track → ℕ → Post → Track
with_post t p o = record { posts = set t.posts p o; trains = t.trains; last = t.last; cvt = t.cvt; walk = t.walk }
