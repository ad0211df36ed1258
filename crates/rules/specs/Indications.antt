-- What a post shows (document 01; document 02, request 3). The indications are a function of eight bits of the state.
use Rattle.std.specs.Prelude.{ℕ, zero, suc, Bool, false, cond, not, ◌&&◌, ◌||◌, List, eqb, ltb}
use Rattle.section.specs.Bytes.{truth_number}
use Rattle.section.specs.declared.Act.TheVariants.{Set, Announce, Acknowledge}
use Rattle.section.specs.declared.Walk.{Walk}
use Rattle.section.specs.declared.Walk.TheVariants.{Settled, Turn}
use Rattle.section.specs.declared.Section.{Section}
use Rattle.section.specs.declared.Indications.{Indications}
use Rattle.section.specs.Geometry.{rank}
use Rattle.section.specs.Items.{items}
use Rattle.section.specs.Numbers.{most_posts}
use Rattle.section.specs.Range.{in_range}
use Rattle.section.specs.Store.{track_of}
use Rattle.rules.specs.declared.Line.{Line}
use Rattle.rules.specs.declared.Site.{Site}
use Rattle.rules.specs.Line.{line_in, is_materialised}
use Rattle.rules.specs.Site.{last_before, site_on, rank_at, up_at, open_at, commands, watched_occupied}

-- how many posts, from the sending end on, have set in this reversal: "the posts before the turn's post have set, and that post too when
-- its act is announce"
unfoldable pub set_count : ℕ → Bool → Walk → ℕ
set_count n up Settled = 0
set_count n up (Turn p Set) = rank n up p
set_count n up (Turn p Announce) = suc (rank n up p)
set_count n up (Turn p Acknowledge) = rank n up p

-- "the post before has set in this reversal and this one hasn't", of the post of rank j; `in_service` tells which posts are in service
unfoldable pub is_next_to_set : (ℕ → Bool) → ℕ → ℕ → Bool
is_next_to_set in_service count zero = false
is_next_to_set in_service count (suc j) = ltb (last_before in_service (suc j)) count && not (ltb (suc j) count)

pub record Lamps : Type 0 where
  pub materialised : Bool
  pub cvt : Bool  -- the device stands at CVT
  pub next_to_set : Bool  -- the post before has set in this reversal and this one hasn't
  pub fault1 : Bool
  pub fault3 : Bool
  pub occupied : Bool  -- a train in the part that the post commands
  pub commands : Bool  -- the post commands a part
  pub permission : Bool

-- "0 dark (fault 3), else 3 VNS or 4 CVT flashing, the direction its device does not stand at, .. else 1 VNS or 2 CVT as the device stands"
unfoldable pub circulation : Lamps → ℕ
circulation l =
    cond l.fault3 0 (cond (l.materialised && l.next_to_set) (cond l.cvt 3 4) (cond l.cvt 2 1))

-- "0 none at the receiving end" and at a post that commands no part; "else 2 red if fault 1 or" the part "holds a train; else 1 white"
unfoldable pub troncon : Lamps → ℕ
troncon l = cond l.commands (cond (l.fault1 || l.occupied) 2 1) 0

unfoldable pub shown : Lamps → Indications
shown l = record { circulation = circulation l; troncon = troncon l; permission = truth_number l.permission }

-- at a site, with the trains of its track
unfoldable pub lamps_at : Line → Site → List ℕ → Lamps
lamps_at c e trains = record {
  materialised = is_materialised c;
  cvt = e.own.device;
  next_to_set = is_next_to_set (open_at c e.track e.cvt) (set_count c.posts (up_at c e) e.walk) (rank_at c e);
  fault1 = e.own.faults.one;
  fault3 = e.own.faults.three;
  occupied = watched_occupied c e trains;
  commands = commands c e;
  permission = e.own.permission;
}

unfoldable pub dark : Indications
dark = record { circulation = 0; troncon = 0; permission = 0 }

unfoldable pub indications_on : Section → Bool → ℕ → Indications
indications_on s track p =
    shown (lamps_at (line_in s) (site_on track p (track_of s track)) (track_of s track).trains)

-- all 0 for a state that gives 6, and for a track or a post that the section has not
unfoldable pub indications : Section → ℕ → ℕ → Indications
indications s track post =
    cond (in_range s && (ltb track 2 && ltb post s.settings.posts)) (indications_on s (eqb track 1) post) dark

-- what the posts 0 to 15 of a track show
unfoldable pub track_indications : Section → ℕ → List Indications
track_indications s track = items (indications s track) most_posts
