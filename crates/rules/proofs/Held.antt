-- What an accepted step found, by name: a record for each kind whose checks have something to tell, read off the row of checks and written back
-- to it. No other file counts the places of a row.
use Prim.Native.Nat.{ℕ, suc, ◌≤◌, ◌<◌}
use mathlib.Core.Bool.{Bool, true, false, not}
use mathlib.Core.Path.{◌≡◌, sym, ap, ◌∙◌}
use lib.ListN.{get_or}
use lib.Dec.{eqb}
use borrow.Author.Tests.{eqb-true, not-true}
use Rattle.section.specs.declared.Act.TheVariants as act
use Rattle.section.specs.declared.Fault.{Fault}
use Rattle.section.specs.declared.Track.{Track}
use Rattle.section.specs.Geometry.{upward}
use Rattle.section.specs.Numbers.{most_seals}
use Rattle.section.specs.Post.{has_fault}
use Rattle.rules.specs.declared.Line.{Line}
use Rattle.rules.specs.declared.Site.{Site}
use Rattle.rules.specs.Site.{is_settled, is_turn, site_on, Occupancy, at_sending_end, at_receiving_end, block_before, crossing_ahead, commands, occupancy_at}
use Rattle.rules.specs.Table.{order_allowed, measures_suffice, order_occupied, pass_occupied, release_in_turn, fault1_confirmed, caution_held, checks}
use Rattle.rules.proofs.Facts.{nor_l, nor_r, before_is, last_not_first}
use Rattle.rules.proofs.View.{order, set_device, announce, acknowledge, key, start, pass, leave, measures, fault, caution, walks, runs, notes}
use Rattle.rules.proofs.View.{releases, flat}
use Rattle.rules.proofs.Reading.{Fits}
use Rattle.rules.proofs.Accept.{occupancy_on, AcceptedOn}

-- ## What is found, at a site with that occupancy

module _ (c : Line) (e : Site) (g : Occupancy) where
  pub record OrderHeld : Type 0 where
    pub settled : is_settled e.walk ≡ true
    pub first : at_sending_end c e ≡ true
    pub allowed : order_allowed e g.other.on_vns ≡ true
    pub free : order_occupied c g ≡ false

  pub record SetHeld : Type 0 where
    pub in_turn : is_turn e.walk e.post act.Set ≡ true
    pub free : g.watched ≡ false
    pub fault1_confirmed : fault1_confirmed c e ≡ true
    pub measures_suffice : measures_suffice e ≡ true
    pub no_fault2 : e.own.faults.two ≡ false

  pub record KeyHeld : Type 0 where
    pub in_turn : is_turn e.walk e.post act.Set ≡ true
    pub fault2 : e.own.faults.two ≡ true
    pub free : g.watched ≡ false
    pub fault1_confirmed : fault1_confirmed c e ≡ true
    pub measures_suffice : measures_suffice e ≡ true
    pub seal_left : eqb e.own.seals most_seals ≡ false

  pub record AnnounceHeld : Type 0 where
    pub in_turn : is_turn e.walk e.post act.Announce ≡ true

  pub record AcknowledgeHeld : Type 0 where
    pub in_turn : is_turn e.walk e.post act.Acknowledge ≡ true

  pub record StartHeld (z : ℕ) : Type 0 where
    pub settled : is_settled e.walk ≡ true
    pub first : at_sending_end c e ≡ true
    pub number_new : g.number_on_track ≡ false
    pub free : g.stretch_occupied ≡ false
    pub fault1_confirmed : fault1_confirmed c e ≡ true
    pub caution_suffices : caution_held c z e ≡ true

  pub record PassHeld (z : ℕ) : Type 0 where
    pub not_first : at_sending_end c e ≡ false
    pub not_last : at_receiving_end c e ≡ false
    pub train : eqb g.train_before z ≡ true
    pub free : pass_occupied c e g ≡ false
    pub caution_suffices : caution_held c z e ≡ true

  pub record LeaveHeld (z : ℕ) : Type 0 where
    pub last : at_receiving_end c e ≡ true
    pub train : eqb g.train_before z ≡ true

  pub record MeasuresOnHeld : Type 0 where
    pub lifted : e.own.measures ≡ false

  pub record MeasuresOffHeld : Type 0 where
    pub in_place : e.own.measures ≡ true
    pub device_vns : e.own.device ≡ false

  pub record FaultOnHeld (f : Fault) : Type 0 where
    pub absent : has_fault f e.own ≡ false

  pub record FaultOffHeld (f : Fault) : Type 0 where
    pub present : has_fault f e.own ≡ true

  pub record CautionHeld : Type 0 where
    pub crossing : crossing_ahead c e ≡ true

  pub record ReleaseHeld (z : ℕ) : Type 0 where
    pub in_turn : release_in_turn c e ≡ true
    pub in_command : commands c e ≡ true
    pub fault1 : e.own.faults.one ≡ true
    pub free : g.watched ≡ false
    pub last_train : eqb g.last_ahead z ≡ true

module _ {c : Line} {v b : Bool} {p : ℕ} {t : Track} where
  -- ## Read off the row

  pub order_held : AcceptedOn c v b p (walks order) t → OrderHeld c (site_on b p t) (occupancy_on c v b p (walks order) t)
  unfolding checks flat
  order_held h = record { settled = h.held.0; first = h.held.1.0; allowed = h.held.1.1.0; free = not-true _ h.held.1.1.1.0 }

  pub set_held : AcceptedOn c v b p (walks set_device) t → SetHeld c (site_on b p t) (occupancy_on c v b p (walks set_device) t)
  unfolding checks flat
  set_held h =
      let row = h.held in
      record {
        in_turn = row.0;
        free = not-true _ row.1.0;
        fault1_confirmed = row.1.1.0;
        measures_suffice = row.1.1.1.0;
        no_fault2 = not-true _ row.1.1.1.1.0;
      }

  pub key_held : AcceptedOn c v b p (walks key) t → KeyHeld c (site_on b p t) (occupancy_on c v b p (walks key) t)
  unfolding checks flat
  key_held h =
      let row = h.held in
      record {
        in_turn = row.0;
        fault2 = row.1.0;
        free = not-true _ row.1.1.0;
        fault1_confirmed = row.1.1.1.0;
        measures_suffice = row.1.1.1.1.0;
        seal_left = not-true _ row.1.1.1.1.1.0;
      }

  pub announce_held : AcceptedOn c v b p (walks announce) t → AnnounceHeld c (site_on b p t) (occupancy_on c v b p (walks announce) t)
  unfolding checks flat
  announce_held h = record { in_turn = h.held.0 }

  pub acknowledge_held : AcceptedOn c v b p (walks acknowledge) t → AcknowledgeHeld c (site_on b p t) (occupancy_on c v b p (walks acknowledge) t)
  unfolding checks flat
  acknowledge_held h = record { in_turn = h.held.0 }

  pub start_held : {z : ℕ} → AcceptedOn c v b p (runs start z) t → StartHeld c (site_on b p t) (occupancy_on c v b p (runs start z) t) z
  unfolding checks flat
  start_held h = record {
    settled = h.held.0;
    first = h.held.1.0;
    number_new = not-true _ h.held.1.1.0;
    free = not-true _ h.held.1.1.1.0;
    fault1_confirmed = h.held.1.1.1.1.0;
    caution_suffices = h.held.1.1.1.1.1.0;
  }

  pub pass_held : {z : ℕ} → AcceptedOn c v b p (runs pass z) t → PassHeld c (site_on b p t) (occupancy_on c v b p (runs pass z) t) z
  unfolding checks flat
  pass_held h = record {
    not_first = nor_l (at_sending_end c (site_on b p t)) (at_receiving_end c (site_on b p t)) (not-true _ h.held.0);
    not_last = nor_r (at_sending_end c (site_on b p t)) (at_receiving_end c (site_on b p t)) (not-true _ h.held.0);
    train = h.held.1.0;
    free = not-true _ h.held.1.1.0;
    caution_suffices = h.held.1.1.1.0;
  }

  pub leave_held : {z : ℕ} → AcceptedOn c v b p (runs leave z) t → LeaveHeld c (site_on b p t) (occupancy_on c v b p (runs leave z) t) z
  unfolding checks flat
  leave_held h = record { last = h.held.0; train = h.held.1.0 }

  pub measures_on_held : AcceptedOn c v b p (notes (measures true)) t
      → MeasuresOnHeld c (site_on b p t) (occupancy_on c v b p (notes (measures true)) t)
  unfolding checks flat
  measures_on_held h = record { lifted = not-true _ h.held.0 }

  pub measures_off_held : AcceptedOn c v b p (notes (measures false)) t
      → MeasuresOffHeld c (site_on b p t) (occupancy_on c v b p (notes (measures false)) t)
  unfolding checks flat
  measures_off_held h = record { in_place = h.held.0; device_vns = not-true _ h.held.1.0 }

  pub fault_on_held : {f : Fault} → AcceptedOn c v b p (notes (fault true f)) t
      → FaultOnHeld c (site_on b p t) (occupancy_on c v b p (notes (fault true f)) t) f
  unfolding checks flat
  fault_on_held h = record { absent = not-true _ h.held.0 }

  pub fault_off_held : {f : Fault} → AcceptedOn c v b p (notes (fault false f)) t
      → FaultOffHeld c (site_on b p t) (occupancy_on c v b p (notes (fault false f)) t) f
  unfolding checks flat
  fault_off_held h = record { present = h.held.0 }

  pub caution_held_lem : {z : ℕ} → AcceptedOn c v b p (notes (caution z)) t → CautionHeld c (site_on b p t) (occupancy_on c v b p (notes (caution z)) t)
  unfolding checks flat
  caution_held_lem h = record { crossing = h.held.0 }

  pub release_held : {z : ℕ} → AcceptedOn c v b p (releases z) t → ReleaseHeld c (site_on b p t) (occupancy_on c v b p (releases z) t) z
  unfolding checks flat
  release_held h =
      let row = h.held in
      record {
        in_turn = row.0;
        in_command = row.1.0;
        fault1 = row.1.1.0;
        free = not-true _ row.1.1.1.0;
        last_train = row.1.1.1.1.0;
      }

  -- the train of a pass or a leave stands in the block section before the post
  pub pass_before : {z : ℕ} → AcceptedOn c v b p (runs pass z) t → get_or t.trains (block_before c (site_on b p t)) 0 ≡ z
  unfolding occupancy_at
  pass_before {z} h = sym (before_is c (site_on b p t) t.trains (pass_held h).not_first) ∙ eqb-true _ z (pass_held h).train

  pub leave_not_first : {z : ℕ} → 2 ≤ c.posts → AcceptedOn c v b p (runs leave z) t → at_sending_end c (site_on b p t) ≡ false
  leave_not_first n2 h = last_not_first c.posts (upward b t.cvt) p n2 (leave_held h).last

  pub leave_before : {z : ℕ} → 2 ≤ c.posts → AcceptedOn c v b p (runs leave z) t → get_or t.trains (block_before c (site_on b p t)) 0 ≡ z
  unfolding occupancy_at
  leave_before {z} n2 h = sym (before_is c (site_on b p t) t.trains (leave_not_first n2 h)) ∙ eqb-true _ z (leave_held h).train

  -- ## Written back to the row: the steps that move no train

  pub order_accepted : Fits c.posts p (walks order) → OrderHeld c (site_on b p t) (occupancy_on c v b p (walks order) t) → AcceptedOn c v b p (walks order) t
  unfolding checks flat
  order_accepted f h = record { fits = f; held = (h.settled, (h.first, (h.allowed, (ap not h.free, tt)))) }

  pub set_accepted : Fits c.posts p (walks set_device) → SetHeld c (site_on b p t) (occupancy_on c v b p (walks set_device) t)
      → AcceptedOn c v b p (walks set_device) t
  unfolding checks flat
  set_accepted f h = record {
    fits = f;
    held = (h.in_turn, (ap not h.free, (h.fault1_confirmed, (h.measures_suffice, (ap not h.no_fault2, tt)))));
  }

  pub key_accepted : Fits c.posts p (walks key) → KeyHeld c (site_on b p t) (occupancy_on c v b p (walks key) t) → AcceptedOn c v b p (walks key) t
  unfolding checks flat
  key_accepted f h = record {
    fits = f;
    held = (h.in_turn, (h.fault2, (ap not h.free, (h.fault1_confirmed, (h.measures_suffice, (ap not h.seal_left, tt))))));
  }

  pub announce_accepted : Fits c.posts p (walks announce) → AnnounceHeld c (site_on b p t) (occupancy_on c v b p (walks announce) t)
      → AcceptedOn c v b p (walks announce) t
  unfolding checks flat
  announce_accepted f h = record { fits = f; held = (h.in_turn, tt) }

  pub acknowledge_accepted : Fits c.posts p (walks acknowledge) → AcknowledgeHeld c (site_on b p t) (occupancy_on c v b p (walks acknowledge) t)
      → AcceptedOn c v b p (walks acknowledge) t
  unfolding checks flat
  acknowledge_accepted f h = record { fits = f; held = (h.in_turn, tt) }

  pub release_accepted : {z : ℕ} → Fits c.posts p (releases z) → ReleaseHeld c (site_on b p t) (occupancy_on c v b p (releases z) t) z
      → AcceptedOn c v b p (releases z) t
  unfolding checks flat
  release_accepted f h = record { fits = f; held = (h.in_turn, (h.in_command, (h.fault1, (ap not h.free, (h.last_train, tt))))) }

-- no train on a track, of n posts
abbrev pub NoTrain : ℕ → Track → Type 0
NoTrain n t = (i : ℕ) → suc i < n → get_or t.trains i 0 ≡ 0
