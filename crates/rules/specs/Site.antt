-- What a step looks at (document 01, "The section", "Steps, checks in order"; document 02, requests 1 and 3): the site, where it is taken, and the
-- occupancy, the trains that it asks for and the other track. An effect takes the site alone.
use Rattle.std.specs.Prelude.{ℕ, zero, suc, ◌-◌, Bool, true, false, cond, not, ◌&&◌, ◌||◌, List, get_or, eqb}
use Rattle.section.specs.declared.Act.{Act}
use Rattle.section.specs.declared.Act.TheVariants.{Set, Announce, Acknowledge}
use Rattle.section.specs.declared.Walk.{Walk}
use Rattle.section.specs.declared.Walk.TheVariants.{Settled, Turn}
use Rattle.section.specs.declared.Track.{Track}
use Rattle.section.specs.declared.Section.{Section}
use Rattle.rules.specs.declared.Line.{Line}
use Rattle.rules.specs.declared.Site.{Site}
use Rattle.section.specs.Geometry.{upward, rank, block, is_first, is_last}
use Rattle.section.specs.Crossings.{lies_in, lacks_zones}
use Rattle.section.specs.Numbers.{most_crossings}
use Rattle.section.specs.Settings.{is_signalled}
use Rattle.section.specs.Store.{track_of, post_on}
use Rattle.rules.specs.Line.{is_materialised, is_open}

-- ## The walk of a reversal

abbrev pub is_settled : Walk → Bool
is_settled Settled = true
is_settled (Turn p act) = false

abbrev pub same_act : Act → Act → Bool
same_act Set Set = true
same_act Set Announce = false
same_act Set Acknowledge = false
same_act Announce Set = false
same_act Announce Announce = true
same_act Announce Acknowledge = false
same_act Acknowledge Set = false
same_act Acknowledge Announce = false
same_act Acknowledge Acknowledge = true

-- it is post p's turn for the act
abbrev pub is_turn : Walk → ℕ → Act → Bool
is_turn Settled p act = false
is_turn (Turn q turn_act) p act = eqb q p && same_act turn_act act

-- "A track is settled on its running direction if no reversal is under way.": on VNS, with that walk and running direction
abbrev pub settled_vns : Walk → Bool → Bool
settled_vns walk cvt = is_settled walk && not cvt

abbrev pub settled_on_vns : Track → Bool
settled_on_vns t = settled_vns t.walk t.cvt

-- ## The site

-- at a post, on a track
abbrev pub site_on : Bool → ℕ → Track → Site
site_on track p t = record { track = track; post = p; cvt = t.cvt; walk = t.walk; own = post_on t p }

abbrev pub other_settled_on_vns : Section → Bool → Bool
other_settled_on_vns s track = settled_on_vns (track_of s (not track))

-- ## Searches

-- the number of a train: 0 says that there is none
abbrev pub is_train : ℕ → Bool
is_train z = not (eqb z 0)

abbrev pub is_number : ℕ → ℕ → Bool
is_number number z = eqb z number

-- one of the first m block sections keeps a number that passes the test
unfoldable pub any_of : (ℕ → Bool) → ℕ → List ℕ → Bool
any_of test zero cells = false
any_of test (suc m) cells = test (get_or cells m 0) || any_of test m cells

-- a rank passes the test: of f ranks from j on, up to the first at which `ends` holds
unfoldable pub reach : (ℕ → Bool) → (ℕ → Bool) → ℕ → ℕ → Bool
reach ends test zero j = false
reach ends test (suc f) j = test j || (not (ends (suc j)) && reach ends test f (suc j))

-- whether a train is in the stretch or the part that begins at the post of rank j, f block sections before the receiving end: `ends` tells
-- at which ranks one ends, `train` which train follows a rank
abbrev pub holds_train : (ℕ → Bool) → (ℕ → ℕ) → ℕ → ℕ → Bool
holds_train ends train f j = reach ends (λ (i : ℕ). is_train (train i)) f j

-- the first rank from j on that passes the test; the one f further where none before that does
unfoldable pub first_from : (ℕ → Bool) → ℕ → ℕ → ℕ
first_from test zero j = j
first_from test (suc f) j = cond (test j) j (first_from test f (suc j))

-- the last rank before j that passes the test; 0 where none does
unfoldable pub last_before : (ℕ → Bool) → ℕ → ℕ
last_before test zero = zero
last_before test (suc j) = cond (test j) j (last_before test j)

-- ## The occupancy

-- what a check asks of the other track
pub record Other : Type 0 where
  pub on_vns : Bool  -- it is settled on VNS

abbrev pub other_on : Track → Other
other_on t = record { on_vns = settled_on_vns t }

pub record Occupancy : Type 0 where
  pub watched : Bool  -- a train in the part that the post commands
  pub train_before : ℕ  -- the train in the block section before the post, 0 where there is none
  pub last_ahead : ℕ  -- the last train that entered the block section ahead, 0 where there is none
  pub anywhere : Bool  -- a train anywhere on the track
  pub stretch_occupied : Bool  -- a train in the stretch that begins at the post
  pub number_on_track : Bool  -- the step's number is on the track
  pub other : Other  -- the other track

module _ (c : Line) where
  abbrev pub up_at : Site → Bool
  up_at e = upward e.track e.cvt

  abbrev pub rank_at : Site → ℕ
  rank_at e = rank c.posts (up_at e) e.post

  abbrev pub at_sending_end : Site → Bool
  at_sending_end e = is_first c.posts (up_at e) e.post

  -- also "the last post" of a reversal
  abbrev pub at_receiving_end : Site → Bool
  at_receiving_end e = is_last c.posts (up_at e) e.post

  abbrev pub block_ahead : Site → ℕ
  block_ahead e = block c.posts (up_at e) (rank_at e)

  abbrev pub block_before : Site → ℕ
  block_before e = block c.posts (up_at e) (rank_at e - 1)

  -- the post of rank j is open
  unfoldable pub open_at : Bool → Bool → ℕ → Bool
  open_at track cvt j = is_open c (rank c.posts (upward track cvt) j)

  -- the next post of the walk, at the latest the receiving end
  unfoldable pub next_post : Site → ℕ
  next_post e = rank c.posts (up_at e) (first_from (open_at e.track e.cvt) (c.posts - suc (suc (rank_at e))) (suc (rank_at e)))

  -- a stretch ends, and the next begins, at the post of rank j: "for VNS, one block section. For CVT it reaches from one signalled post
  -- to the next (art. 903)."
  unfoldable pub stretch_ends : Bool → Bool → ℕ → Bool
  stretch_ends track cvt j = not cvt || is_signalled c.mask (rank c.posts (upward track cvt) j)

  -- the train in the block section that follows the post of rank j
  abbrev pub train_at : Bool → Bool → List ℕ → ℕ → ℕ
  train_at track cvt trains j = get_or trains (block c.posts (upward track cvt) j) 0

  -- a block section ahead of the post, up to the next open post, passes the test; the receiving end has none ahead
  unfoldable pub lies_ahead : (ℕ → Bool) → Site → Bool
  lies_ahead test e =
      reach (open_at e.track e.cvt) (λ (j : ℕ). test (block c.posts (up_at e) j)) (c.posts - suc (rank_at e)) (rank_at e)

  -- a crossing lies ahead
  unfoldable pub crossing_ahead : Site → Bool
  crossing_ahead e = lies_ahead (λ (i : ℕ). any_of (lies_in i) most_crossings c.crossings) e

  -- one "without zones" does
  unfoldable pub zones_lack_ahead : Site → Bool
  zones_lack_ahead e = lies_ahead (λ (i : ℕ). any_of (λ (b : ℕ). lies_in i b && lacks_zones b) most_crossings c.crossings) e

  -- a part ends, and the next begins, at the post of rank j: "On materialised lines, art. 910 gives the control of a part to the posts with
  -- counter-track signals", in both directions; "Telephone lines keep the earlier rule": every post ends one
  unfoldable pub part_ends : Bool → Bool → ℕ → Bool
  part_ends track cvt j = not (is_materialised c) || is_signalled c.mask (rank c.posts (upward track cvt) j)

  -- the post commands a part: one begins there ("the last post has none")
  unfoldable pub commands : Site → Bool
  commands e = not (at_receiving_end e) && part_ends e.track e.cvt (rank_at e)

  -- a train in the part that the post commands: "all block sections up to the next signalled post ahead"; a post without one "checks no track"
  unfoldable pub watched_occupied : Site → List ℕ → Bool
  watched_occupied e trains =
      commands e && holds_train (part_ends e.track e.cvt) (train_at e.track e.cvt trains) (c.posts - suc (rank_at e)) (rank_at e)

  -- the train in the block section before the post; the sending end has none
  unfoldable pub train_before : Site → List ℕ → ℕ
  train_before e trains = cond (at_sending_end e) 0 (get_or trains (block_before e) 0)

  -- the last train that entered the block section ahead; the receiving end has none
  unfoldable pub last_entered : Site → List ℕ → ℕ
  last_entered e last = cond (at_receiving_end e) 0 (get_or last (block_ahead e) 0)

  unfoldable pub occupancy_at : Other → Site → ℕ → List ℕ → List ℕ → Occupancy
  occupancy_at other e number trains last = record {
    watched = watched_occupied e trains;
    train_before = train_before e trains;
    last_ahead = last_entered e last;
    anywhere = any_of is_train (c.posts - 1) trains;
    stretch_occupied =
        holds_train (stretch_ends e.track e.cvt) (train_at e.track e.cvt trains) (c.posts - suc (rank_at e)) (rank_at e);
    number_on_track = any_of (is_number number) (c.posts - 1) trains;
    other = other;
  }
