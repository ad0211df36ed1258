-- "The reply "Voie occupée" of art. 928 is never said: the announcer has seen the same block section free. This is proved for every state
-- reached from a fresh section." Request 3 of document 02: "For an announcement by such a post" (one without signals), "the signalled post
-- before has seen the section free in its stead, and it still is." For well-formed settings c and every list, refused and malformed steps
-- included. `voie_occupee_never_said` (proofs/VoieOccupee.antt) proves it.
use Rattle.std.specs.Prelude.{ℕ, suc, ◌-◌, ◌≤◌, ◌<◌, Bool, true, false, ◌≡◌, List, get_or}
use Rattle.section.specs.declared.Settings.{Settings}
use Rattle.section.specs.declared.Section.{Section}
use Rattle.section.specs.declared.Act.TheVariants.{Announce, Acknowledge}
use Rattle.section.specs.declared.Walk.TheVariants.{Turn}
use Rattle.section.specs.declared.Track.{Track}
use Rattle.section.specs.Fresh.{fresh_section}
use Rattle.section.specs.Geometry.{upward, rank, block}
use Rattle.section.specs.Store.{track_of}
use Rattle.rules.specs.declared.Line.{Line}
use Rattle.rules.specs.Line.{line_in}
use Rattle.rules.specs.Site.{part_ends, train_at}
use Rattle.rules.specs.Indications.{set_count}
use Rattle.rules.specs.Demand3.{state_after}

module _ (c : Line) (b : Bool) (t : Track) where
  -- no part ends after the post of rank i, up to that of rank j
  abbrev pub SamePart : ℕ → ℕ → Type 0
  SamePart i j = (k : ℕ) → i < k → k ≤ j → part_ends c b t.cvt k ≡ false

  -- the post that commands the part in which the block section ahead of rank r lies, itself or one before it, has set in this reversal, and
  -- so has seen the part free; all of it still is
  pub record SeenFree (r : ℕ) : Type 0 where
    pub watcher : ℕ
    pub not_after : watcher ≤ r
    pub begins : part_ends c b t.cvt watcher ≡ true
    pub has_set : watcher < set_count c.posts (upward b t.cvt) t.walk
    pub same_part : SamePart watcher r
    pub free : (j : ℕ) → watcher ≤ j → suc j < c.posts → SamePart watcher j → train_at c b t.cvt t.trains j ≡ 0

  -- the post that is to announce has no train in the block section ahead, the post that is to acknowledge none in the one before it
  pub record FreeToAnnounce : Type 0 where
    pub seen : (p : ℕ) → t.walk ≡ Turn p Announce → SeenFree (rank c.posts (upward b t.cvt) p)
    pub ahead :
        (p : ℕ) → t.walk ≡ Turn p Announce
        → get_or t.trains (block c.posts (upward b t.cvt) (rank c.posts (upward b t.cvt) p)) 0 ≡ 0
    pub before :
        (p : ℕ) → t.walk ≡ Turn p Acknowledge
        → get_or t.trains (block c.posts (upward b t.cvt) (rank c.posts (upward b t.cvt) p - 1)) 0 ≡ 0

-- on both tracks of a section
abbrev pub NeverSaidIn : Section → Type 0
NeverSaidIn s = (b : Bool) → FreeToAnnounce (line_in s) b (track_of s b)

abbrev pub VoieOccupeeNeverSaid : Settings → List (List ℕ) → Type 0
VoieOccupeeNeverSaid c offered = NeverSaidIn (state_after (fresh_section c) offered)
