-- The table of steps (document 01, "Steps, checks in order"; document 02, requests 1 and 3): for each kind its checks in the paper's order, and its
-- effect.
use Rattle.std.specs.Prelude.{ℕ, Bool, true, false, cond, not, ◌&&◌, ◌||◌, List, [], ◌∷◌, set, eqb}
use Rattle.section.specs.declared.Post.{Post}
use Rattle.section.specs.declared.Fault.{Fault}
use Rattle.section.specs.declared.Fault.TheVariants.{One, Two, Three, Four}
use Rattle.section.specs.declared.Act.TheVariants as act
use Rattle.section.specs.declared.Walk.TheVariants.{Settled, Turn}
use Rattle.section.specs.declared.Track.{Track}
use Rattle.section.specs.declared.Step.{Step}
use Rattle.section.specs.declared.Step.TheVariants.{Order, Set, Announce, Acknowledge, Start, Pass, Leave, MeasuresOn, MeasuresOff, FaultOn}
use Rattle.section.specs.declared.Step.TheVariants.{FaultOff, Release, Key, Caution}
use Rattle.section.specs.declared.Said.TheVariants.{Nothing, Cvt, Cvtz, Vns, Vnsz}
use Rattle.section.specs.declared.Refusal.{Refusal}
use Rattle.section.specs.declared.Refusal.TheVariants.{ReversalUnderWay, NoSuchPart, Occupied, OtherNotOnVns, NotItsTurn, MeasuresNeeded, WrongTrain}
use Rattle.section.specs.declared.Refusal.TheVariants.{FaultWithoutMark, DeviceLocked, SealsUsedUp, AlreadySo, CautionFormNeeded}
use Rattle.section.specs.Numbers.{most_seals}
use Rattle.section.specs.Post.{turned, permitted, measured, faulty, marked, sealed, cautioned, has_fault}
use Rattle.rules.specs.declared.Line.{Line}
use Rattle.rules.specs.declared.Site.{Site}
use Rattle.rules.specs.declared.Movement.{Movement}
use Rattle.rules.specs.declared.Movement.TheVariants.{Stays, Enters, Moves, Leaves}
use Rattle.rules.specs.declared.Effect.{Effect}
use Rattle.rules.specs.Line.{is_materialised}
use Rattle.rules.specs.Site.{is_settled, is_turn, Occupancy, rank_at, at_sending_end, at_receiving_end, block_ahead, block_before, next_post, stretch_ends}
use Rattle.rules.specs.Site.{crossing_ahead, zones_lack_ahead, commands}

-- a check: what must hold, and the refusal where it does not
pub record Check : Type 0 where
  pub holds : Bool
  pub refusal : Refusal

infix 20 ◌else◌
abbrev pub ◌else◌ : Bool → Refusal → Check
b else r = record { holds = b; refusal = r }

-- a step that changes only its post's record
abbrev pub keeping : Site → Post → Effect
keeping e own = record { own = own; walk = e.walk; cvt = e.cvt; train = Stays; said = Nothing }

-- "fault gone; for fault 1 the mark too"
abbrev pub without_fault : Fault → Post → Post
without_fault One o = marked false (faulty One false o)
without_fault Two o = faulty Two false o
without_fault Three o = faulty Three false o
without_fault Four o = faulty Four false o

-- a caution form is "used up by that train's entry, needed or not"
abbrev pub used_up : ℕ → Post → Post
used_up number o = cautioned (cond (eqb o.caution number) 0 o.caution) o

-- ## What the refusals ask: first those that need no settings

-- 14: "order to CVT while the other track isn't settled on VNS (art. 915)"; to CVT, since the running direction is VNS
abbrev pub order_allowed : Site → Bool → Bool
order_allowed e other_on_vns = e.cvt || other_on_vns

-- 16: "set or key to CVT without measures"
abbrev pub measures_suffice : Site → Bool
measures_suffice e = e.cvt || e.own.measures

module _ (c : Line) where
  -- 13 of order: "telephone form: a train anywhere on the track (art. 907)"; materialised: one in the part
  abbrev pub order_occupied : Occupancy → Bool
  order_occupied g = cond (is_materialised c) g.watched g.anywhere

  -- 13 of pass: "at a post that begins a stretch: a train in that stretch. Pass elsewhere: never."
  abbrev pub pass_occupied : Site → Occupancy → Bool
  pass_occupied e g = stretch_ends c e.track e.cvt (rank_at c e) && g.stretch_occupied

  -- 15: "Release is in turn where set is, or at the sending end with no reversal under way."
  abbrev pub release_in_turn : Site → Bool
  release_in_turn e = is_turn e.walk e.post act.Set || (is_settled e.walk && at_sending_end c e)

  -- 18: "fault 1 without a mark (never at the last post)"; a post that commands no part "disregards fault 1"
  abbrev pub fault1_confirmed : Site → Bool
  fault1_confirmed e = not (commands c e) || (not e.own.faults.one || e.own.mark)

  -- 22: "Start or pass into a block section with a crossing, under fault 4 or in CVT without zones, needs an E.S. 379 form for that train"
  abbrev pub caution_needed : Site → Bool
  caution_needed e = crossing_ahead c e && (e.own.faults.four || (e.cvt && zones_lack_ahead c e))

  abbrev pub caution_held : ℕ → Site → Bool
  caution_held number e = not (caution_needed e) || eqb e.own.caution number

  -- ## Checks

  unfoldable pub checks : Step → Site → Occupancy → List Check
  -- "11; 12 not the sending end; 14; 13"
  checks (Order p) e g =
      (is_settled e.walk else ReversalUnderWay) ∷ (at_sending_end c e else NoSuchPart) ∷ (order_allowed e g.other.on_vns else OtherNotOnVns)
      ∷ (not (order_occupied g) else Occupied) ∷ []
  -- "15; 13; 18; 16; 19"
  checks (Set p) e g =
      (is_turn e.walk e.post act.Set else NotItsTurn) ∷ (not g.watched else Occupied) ∷ (fault1_confirmed e else FaultWithoutMark)
      ∷ (measures_suffice e else MeasuresNeeded) ∷ (not e.own.faults.two else DeviceLocked) ∷ []
  -- "15"
  checks (Announce p) e g = (is_turn e.walk e.post act.Announce else NotItsTurn) ∷ []
  -- "15"
  checks (Acknowledge p) e g = (is_turn e.walk e.post act.Acknowledge else NotItsTurn) ∷ []
  -- "11; 12 not the sending end; 17; 13; 18", and 22 last
  checks (Start p number) e g =
      (is_settled e.walk else ReversalUnderWay) ∷ (at_sending_end c e else NoSuchPart) ∷ (not g.number_on_track else WrongTrain)
      ∷ (not g.stretch_occupied else Occupied) ∷ (fault1_confirmed e else FaultWithoutMark) ∷ (caution_held number e else CautionFormNeeded) ∷ []
  -- "12 an end post; 17; 13", and 22 last
  checks (Pass p number) e g =
      (not (at_sending_end c e || at_receiving_end c e) else NoSuchPart)
      ∷ (eqb g.train_before number else WrongTrain) ∷ (not (pass_occupied e g) else Occupied) ∷ (caution_held number e else CautionFormNeeded) ∷ []
  -- "12 not the receiving end; 17"
  checks (Leave p number) e g = (at_receiving_end c e else NoSuchPart) ∷ (eqb g.train_before number else WrongTrain) ∷ []
  -- "21"
  checks (MeasuresOn p) e g = (not e.own.measures else AlreadySo) ∷ []
  -- "21; 16"
  checks (MeasuresOff p) e g = (e.own.measures else AlreadySo) ∷ (not e.own.device else MeasuresNeeded) ∷ []
  -- "21"
  checks (FaultOn p f) e g = (not (has_fault f e.own) else AlreadySo) ∷ []
  -- "21"
  checks (FaultOff p f) e g = (has_fault f e.own else AlreadySo) ∷ []
  -- "15; 12 the last post; 21; 13; 17"; a post that commands no part "is given 12 by release"
  checks (Release p number) e g =
      (release_in_turn e else NotItsTurn) ∷ (commands c e else NoSuchPart) ∷ (e.own.faults.one else AlreadySo) ∷ (not g.watched else Occupied)
      ∷ (eqb g.last_ahead number else WrongTrain) ∷ []
  -- "15; 21; 13; 18; 16; 20"
  checks (Key p) e g =
      (is_turn e.walk e.post act.Set else NotItsTurn) ∷ (e.own.faults.two else AlreadySo) ∷ (not g.watched else Occupied)
      ∷ (fault1_confirmed e else FaultWithoutMark) ∷ (measures_suffice e else MeasuresNeeded) ∷ (not (eqb e.own.seals most_seals) else SealsUsedUp)
      ∷ []
  -- "given 12 where no crossing lies in the block section ahead"
  checks (Caution p number) e g = (crossing_ahead c e else NoSuchPart) ∷ []

  -- ## Effects

  -- "device turned, release mark gone"; "set or key removes" the caution form; "the running direction changes, and the last post gets
  -- permission, at that last set"
  abbrev pub setting : Site → Post → Effect
  setting e own = record {
    own = permitted (at_receiving_end c e || own.permission) (cautioned 0 (marked false (turned (not e.cvt) own)));
    walk = cond (at_receiving_end c e) Settled (Turn e.post act.Announce);
    cvt = cond (at_receiving_end c e) (not e.cvt) e.cvt;
    train = Stays;
    said = Nothing;
  }

  unfoldable pub effect : Step → Site → Effect
  effect (Order p) e =
      record { own = permitted false e.own; walk = Turn e.post act.Set; cvt = e.cvt; train = Stays; said = Nothing }
  effect (Set p) e = setting e e.own
  effect (Announce p) e =
      record { own = e.own; walk = Turn (next_post c e) act.Acknowledge; cvt = e.cvt; train = Stays; said = cond e.cvt Vns Cvt }
  effect (Acknowledge p) e =
      record { own = e.own; walk = Turn e.post act.Set; cvt = e.cvt; train = Stays; said = cond e.cvt Vnsz Cvtz }
  effect (Start p number) e =
      record { own = used_up number (marked false e.own); walk = e.walk; cvt = e.cvt; train = Enters number; said = Nothing }
  effect (Pass p number) e = record { own = used_up number e.own; walk = e.walk; cvt = e.cvt; train = Moves number; said = Nothing }
  effect (Leave p number) e = record { own = e.own; walk = e.walk; cvt = e.cvt; train = Leaves; said = Nothing }
  effect (MeasuresOn p) e = keeping e (measured true e.own)
  effect (MeasuresOff p) e = keeping e (measured false e.own)
  effect (FaultOn p f) e = keeping e (faulty f true e.own)
  effect (FaultOff p f) e = keeping e (without_fault f e.own)
  effect (Release p number) e = keeping e (marked true e.own)
  effect (Key p) e = setting e (sealed e.own)
  -- "handed out at that post"; "A newer form replaces the older"
  effect (Caution p number) e = keeping e (cautioned number e.own)

  -- the block section before the post, left by its train: emptied where cells are cleared
  abbrev pub vacated : Bool → Site → List ℕ → List ℕ
  vacated clears e l = cond clears (set l (block_before c e) 0) l

  -- the numbers of the block sections after a movement: of the trains, where what is left is cleared, and of the last trains, where it is not
  unfoldable pub cells_after : Bool → Movement → Site → List ℕ → List ℕ
  cells_after clears Stays e l = l
  cells_after clears (Enters number) e l = set l (block_ahead c e) number
  cells_after clears (Moves number) e l = set (vacated clears e l) (block_ahead c e) number
  cells_after clears Leaves e l = vacated clears e l

  -- the track after an accepted step
  unfoldable pub track_after : Step → Site → Track → Track
  track_after x e t = record {
    posts = set t.posts e.post (effect x e).own;
    trains = cells_after true (effect x e).train e t.trains;
    last = cells_after false (effect x e).train e t.last;
    cvt = (effect x e).cvt;
    walk = (effect x e).walk;
  }
