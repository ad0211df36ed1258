-- What a post of a section shows: dark where the section is out of its ranges, or has no such track or post.
use Prim.Native.Nat.{ℕ, ◌<◌, ◌≤◌}
use mathlib.Core.Bool.{Bool, true, false}
use mathlib.Core.Path.{◌≡◌}
use lib.Dec.{eqb}
use borrow.Author.Tests.{lt-ltb, le-ltb}
use Rattle.section.specs.declared.Section.{Section}
use Rattle.section.specs.Range.{in_range}
use Rattle.section.specs.Store.{track_of}
use Rattle.rules.specs.Line.{line_in}
use Rattle.rules.specs.Site.{site_on}
use Rattle.rules.specs.Indications.{lamps_at, shown, dark, indications_on, indications}

-- by one of its tracks
pub on_track_is :
    (s : Section) (track post : ℕ) (b : Bool) → in_range s ≡ true → track < 2 → post < s.settings.posts → eqb track 1 ≡ b
    → shown (lamps_at (line_in s) (site_on b post (track_of s b)) (track_of s b).trains) ≡ indications s track post
unfolding indications indications_on
on_track_is s track post b range t p e = rw (range, lt-ltb track 2 t, lt-ltb post s.settings.posts p, e)

pub dark_out : (s : Section) (track post : ℕ) → in_range s ≡ false → dark ≡ indications s track post
unfolding indications
dark_out s track post h = rw h

pub dark_track : (s : Section) (track post : ℕ) → in_range s ≡ true → 2 ≤ track → dark ≡ indications s track post
unfolding indications
dark_track s track post h k = rw (h, le-ltb track 2 k)

pub dark_post :
    (s : Section) (track post : ℕ) → in_range s ≡ true → track < 2 → s.settings.posts ≤ post → dark ≡ indications s track post
unfolding indications
dark_post s track post h t k = rw (h, lt-ltb track 2 t, le-ltb post s.settings.posts k)
