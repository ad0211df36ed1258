-- The ranges of a state (document 01, "The section"; refusal 6). Cells past post n−1 or block section n−2 are not tested.
use Rattle.std.specs.Prelude.{ℕ, zero, suc, ◌-◌, Bool, true, false, not, ◌&&◌, List, get_or, ltb, leb}
use Rattle.section.specs.declared.Post.{Post}
use Rattle.section.specs.declared.Act.{Act}
use Rattle.section.specs.declared.Act.TheVariants.{Set, Announce, Acknowledge}
use Rattle.section.specs.declared.Walk.{Walk}
use Rattle.section.specs.declared.Walk.TheVariants.{Settled, Turn}
use Rattle.section.specs.declared.Track.{Track}
use Rattle.section.specs.declared.Section.{Section}
use Rattle.section.specs.Geometry.{upward, is_first, is_last}
use Rattle.section.specs.Numbers.{most_seals, largest_train}
use Rattle.section.specs.Post.{blank}
use Rattle.section.specs.Settings.{settings_in_range}

-- "a seal count 0 to 999"; a caution form for a train, 0 for none
unfoldable pub post_in_range : Post → Bool
post_in_range o = leb o.seals most_seals && leb o.caution largest_train

-- the first m posts
unfoldable pub posts_in_range : ℕ → List Post → Bool
posts_in_range zero l = true
posts_in_range (suc m) l = post_in_range (get_or l m blank) && posts_in_range m l

-- trains and last trains, of the first m block sections
unfoldable pub numbers_in_range : ℕ → List ℕ → Bool
numbers_in_range zero l = true
numbers_in_range (suc m) l = leb (get_or l m 0) largest_train && numbers_in_range m l

-- "set, announce (never at the last post) or acknowledge (never at the first)"
unfoldable pub act_in_range : ℕ → Bool → ℕ → Act → Bool
act_in_range n up p Set = true
act_in_range n up p Announce = not (is_last n up p)
act_in_range n up p Acknowledge = not (is_first n up p)

unfoldable pub walk_in_range : ℕ → Bool → Walk → Bool
walk_in_range n up Settled = true
walk_in_range n up (Turn p act) = ltb p n && act_in_range n up p act

unfoldable pub track_in_range : ℕ → Bool → Track → Bool
track_in_range n track t =
    posts_in_range n t.posts
    && (numbers_in_range (n - 1) t.trains && (numbers_in_range (n - 1) t.last && walk_in_range n (upward track t.cvt) t.walk))

-- what refusal 6 asks for
unfoldable pub in_range : Section → Bool
in_range s =
    settings_in_range s.settings
    && (track_in_range s.settings.posts false s.a && track_in_range s.settings.posts true s.b)
