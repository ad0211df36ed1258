-- Two steps on one track at different posts change places, where the first moves no train and leaves the direction, and the second notes a
-- condition, passes or leaves. The second sees only the direction, the trains and its own post's record, which the first leaves. The first finds
-- the same or fewer trains where it looks, so its checks still hold: a train that rolls on within the part that it watches was there before.
use Prim.Native.Nat.{ℕ, suc, ◌-◌, ◌≤◌, ◌<◌}
use mathlib.Core.Bool.{Bool, true, false, cond, false≢true}
use mathlib.Core.Path.{◌≡◌, refl, sym, ap, ap₂, ◌∙◌}
use mathlib.Core.Logic.{◌≢◌}
use mathlib.Core.List.{List}
use native.Mathlib.Omega.{arith}
use lib.ListN.{get_or, set}
use lib.Seq.{get_or-set_other, set_comm}
use Rattle.section.specs.declared.Post.{Post}
use Rattle.section.specs.declared.Track.{Track}
use Rattle.section.specs.Geometry.{upward, block, is_last}
use Rattle.section.specs.Post.{blank}
use Rattle.section.specs.Store.{post_on, with_post}
use Rattle.section.proofs.Laws.{rank_lt, rank_inj, block_inj, block_lt}
use Rattle.rules.specs.declared.Line.{Line}
use Rattle.rules.specs.declared.Site.{Site}
use Rattle.rules.specs.Line.{is_materialised}
use Rattle.rules.specs.Site.{site_on, Occupancy, is_train, any_of, occupancy_at, watched_occupied, at_receiving_end, block_ahead, block_before}
use Rattle.rules.specs.Site.{train_at, lies_ahead, crossing_ahead, zones_lack_ahead, part_ends, train_before}
use Rattle.rules.specs.Table.{checks, effect, cells_after, track_after}
use Rattle.rules.proofs.Facts.{not_first_rank, not_last_rank, entered_is, set_zero, any_zero}
use Rattle.rules.proofs.View.{order, set_device, announce, acknowledge, key, Motion, start, pass, leave, Condition, measures, fault, caution, View}
use Rattle.rules.proofs.View.{walks, runs, notes, releases, flat}
use Rattle.rules.proofs.Frame.{moves_no_train, onward, running_kept, no_movement}
use Rattle.rules.proofs.Accept.{AllHold, occupancy_on, AcceptedOn, track_after_step}
use Rattle.rules.proofs.Held.{order_held, order_accepted, set_held, set_accepted, key_held, key_accepted, announce_held, announce_accepted}
use Rattle.rules.proofs.Held.{acknowledge_held, acknowledge_accepted, release_held, release_accepted}
use Rattle.rules.proofs.Held.{pass_held, pass_before, leave_not_first, leave_before}
use Rattle.rules.proofs.Stretches.{free_stays}
use Rattle.rules.proofs.Parts.{watches, commands_not_last}
use Rattle.rules.proofs.Ranges.{rank_on}

-- a track with other trains
abbrev pub with_trains : Track → List ℕ → List ℕ → Track
with_trains t trains last = record { posts = t.posts; trains = trains; last = last; cvt = t.cvt; walk = t.walk }

module _ (c : Line) (v b : Bool) where
  -- the step l at q, then x at p: they may change places
  pub record Swapped (q : ℕ) (l : View) (p : ℕ) (x : View) (t : Track) : Type 0 where
    pub x_first : AcceptedOn c v b p x t
    pub l_then : AcceptedOn c v b q l (track_after_step c b p x t)
    pub same_end : track_after_step c b q l (track_after_step c b p x t) ≡ track_after_step c b p x (track_after_step c b q l t)
    pub l_says : (effect c (flat q l) (site_on b q (track_after_step c b p x t))).said ≡ (effect c (flat q l) (site_on b q t)).said

  -- ## Another post's record

  own_other : (t : Track) (p r : ℕ) (o : Post) → p ≢ r → post_on (with_post t r o) p ≡ post_on t p
  own_other t p r o h = get_or-set_other t.posts r p o blank h

  accepted_own : (k : View) (t : Track) (p r : ℕ) (o : Post) → p ≢ r → AcceptedOn c v b p k t → AcceptedOn c v b p k (with_post t r o)
  accepted_own k t p r o h k' = record { fits = k'.fits; held = rw (own_other t p r o h) k'.held }

  says_own : (k : View) (t : Track) (p r : ℕ) (o : Post) → p ≢ r
      → (effect c (flat p k) (site_on b p (with_post t r o))).said ≡ (effect c (flat p k) (site_on b p t)).said
  says_own k t p r o h = rw (own_other t p r o h) refl

  track_own : (k : View) (t : Track) (p r : ℕ) (o : Post) → p ≢ r → track_after_step c b p k (with_post t r o) ≡ with_post (track_after_step c b p k t) r o
  unfolding track_after
  track_own k t p r o h = rw (own_other t p r o h, set_comm t.posts r p o (effect c (flat p k) (site_on b p t)).own (λ e. h (sym e))) refl

  own_kept : (l : View) (t : Track) (q p : ℕ) → q ≢ p → post_on (track_after_step c b q l t) p ≡ post_on t p
  unfolding track_after
  own_kept l t q p h = own_other t p q (effect c (flat q l) (site_on b q t)).own (λ e. h (sym e))

  -- ## A condition noted at p: it looks at the direction and the post's own record alone

  note_checks : (k : Condition) (p : ℕ) (t t' : Track) (g g' : Occupancy) → t.cvt ≡ t'.cvt → post_on t p ≡ post_on t' p
      → AllHold (checks c (flat p (notes k)) (site_on b p t) g) → AllHold (checks c (flat p (notes k)) (site_on b p t') g')
  unfolding checks lies_ahead crossing_ahead flat
  note_checks (measures true) p t t' g g' ec eo h = rw eo at h
  note_checks (measures false) p t t' g g' ec eo h = rw eo at h
  note_checks (fault true f) p t t' g g' ec eo h = rw eo at h
  note_checks (fault false f) p t t' g g' ec eo h = rw eo at h
  note_checks (caution z) p t t' g g' ec eo h = rw ec at h

  note_own : (k : Condition) (p : ℕ) (e e' : Site) → e.own ≡ e'.own → (effect c (flat p (notes k)) e).own ≡ (effect c (flat p (notes k)) e').own
  unfolding effect flat
  note_own (measures true) p e e' q = rw q refl
  note_own (measures false) p e e' q = rw q refl
  note_own (fault true f) p e e' q = rw q refl
  note_own (fault false f) p e e' q = rw q refl
  note_own (caution z) p e e' q = rw q refl

  abbrev noted : Condition → ℕ → Track → Post
  noted k p t = (effect c (flat p (notes k)) (site_on b p t)).own

  note_moved : (k : Condition) (p : ℕ) (t : Track) → track_after_step c b p (notes k) t ≡ with_post t p (noted k p t)
  unfolding track_after cells_after
  note_moved k p t =
      let same = running_kept c p (notes k) (site_on b p t) refl in
      rw (no_movement c p (notes k) (site_on b p t) refl, same.walk, same.cvt) refl

  pub swap_note : (q : ℕ) (l : View) (p : ℕ) (k : Condition) (t : Track) → q ≢ p → (track_after_step c b q l t).cvt ≡ t.cvt
      → AcceptedOn c v b q l t → AcceptedOn c v b p (notes k) (track_after_step c b q l t) → Swapped q l p (notes k) t
  swap_note q l p k t h ec hl hx = record {
    x_first = record { fits = hx.fits; held = note_checks k p (track_after_step c b q l t) t _ _ ec (own_kept l t q p h) hx.held };
    l_then = rw (note_moved k p t) (accepted_own l t q p (noted k p t) h hl);
    same_end =
        ap (track_after_step c b q l) (note_moved k p t) ∙ track_own l t q p (noted k p t) h
        ∙ ap (with_post (track_after_step c b q l t) p) (note_own k p (site_on b p t) (site_on b p (track_after_step c b q l t)) (sym (own_kept l t q p h)))
        ∙ sym (note_moved k p (track_after_step c b q l t));
    l_says = ap (λ u. (effect c (flat q l) (site_on b q u)).said) (note_moved k p t) ∙ says_own l t q p (noted k p t) h;
  }

  -- ## A pass or a leave at p: it looks at the direction, the trains and the post's own record, and changes the trains and that record

  onward_checks : (m : Motion) (z p : ℕ) (t t' : Track) → onward m ≡ true → t.cvt ≡ t'.cvt → t.trains ≡ t'.trains → post_on t p ≡ post_on t' p
      → AcceptedOn c v b p (runs m z) t → AcceptedOn c v b p (runs m z) t'
  unfolding checks occupancy_at lies_ahead crossing_ahead zones_lack_ahead train_before flat
  onward_checks start z p t t' i ec et eo h = absurd (false≢true i)
  onward_checks pass z p t t' i ec et eo h = record { fits = h.fits; held = rw (ec, et, eo) at h.held }
  onward_checks leave z p t t' i ec et eo h = record { fits = h.fits; held = rw (ec, et) at h.held }

  abbrev trains_of : Motion → ℕ → ℕ → Track → List ℕ
  trains_of m z p t = (track_after_step c b p (runs m z) t).trains

  abbrev last_of : Motion → ℕ → ℕ → Track → List ℕ
  last_of m z p t = (track_after_step c b p (runs m z) t).last

  abbrev own_of : Motion → ℕ → ℕ → Track → Post
  own_of m z p t = (effect c (flat p (runs m z)) (site_on b p t)).own

  -- its trains moved on, its post's record not yet stored
  abbrev rolled : Motion → ℕ → ℕ → Track → Track
  rolled m z p t = with_trains t (trains_of m z p t) (last_of m z p t)

  onward_moved : (m : Motion) (z p : ℕ) (t : Track) → onward m ≡ true → track_after_step c b p (runs m z) t ≡ with_post (rolled m z p t) p (own_of m z p t)
  unfolding track_after effect flat
  onward_moved start z p t i = absurd (false≢true i)
  onward_moved pass z p t i = refl
  onward_moved leave z p t i = refl

  onward_own : (m : Motion) (z p : ℕ) (t t' : Track) → onward m ≡ true → post_on t p ≡ post_on t' p → own_of m z p t ≡ own_of m z p t'
  unfolding effect flat
  onward_own start z p t t' i eo = absurd (false≢true i)
  onward_own pass z p t t' i eo = rw eo refl
  onward_own leave z p t t' i eo = eo

  onward_cells : (clears : Bool) (m : Motion) (z p : ℕ) (t t' : Track) (l l' : List ℕ) → onward m ≡ true → t.cvt ≡ t'.cvt → l ≡ l'
      → cells_after c clears (effect c (flat p (runs m z)) (site_on b p t)).train (site_on b p t) l
      ≡ cells_after c clears (effect c (flat p (runs m z)) (site_on b p t')).train (site_on b p t') l'
  unfolding effect flat cells_after
  onward_cells clears start z p t t' l l' i ec el = absurd (false≢true i)
  onward_cells clears pass z p t t' l l' i ec el = rw (ec, el) refl
  onward_cells clears leave z p t t' l l' i ec el = rw (ec, el) refl

  onward_trains : (m : Motion) (z p : ℕ) (t t' : Track) → onward m ≡ true → t.cvt ≡ t'.cvt → t.trains ≡ t'.trains → trains_of m z p t ≡ trains_of m z p t'
  unfolding track_after
  onward_trains m z p t t' i ec et = onward_cells true m z p t t' t.trains t'.trains i ec et

  onward_last : (m : Motion) (z p : ℕ) (t t' : Track) → onward m ≡ true → t.cvt ≡ t'.cvt → t.last ≡ t'.last → last_of m z p t ≡ last_of m z p t'
  unfolding track_after
  onward_last m z p t t' i ec el = onward_cells false m z p t t' t.last t'.last i ec el

  -- a step that moves no train stays acceptable where the trains that it asks for are fewer
  pub record Fewer (e : Site) (g g' : Occupancy) : Type 0 where
    pub watched : g.watched ≡ false → g'.watched ≡ false
    pub anywhere : g.anywhere ≡ false → g'.anywhere ≡ false
    pub last_ahead_lem : at_receiving_end c e ≡ false → g.last_ahead ≡ g'.last_ahead

  order_fewer : (e : Site) (g g' : Occupancy) → Fewer e g g' → (m : Bool) → cond m g.watched g.anywhere ≡ false
      → cond m g'.watched g'.anywhere ≡ false
  order_fewer e g g' f true u = f.watched u
  order_fewer e g g' f false u = f.anywhere u

  fewer_trains : (l : View) (p : ℕ) (t : Track) (trains last : List ℕ) → moves_no_train l ≡ true
      → Fewer (site_on b p t) (occupancy_on c v b p l t) (occupancy_on c v b p l (with_trains t trains last))
      → AcceptedOn c v b p l t → AcceptedOn c v b p l (with_trains t trains last)
  unfolding occupancy_at
  fewer_trains (walks order) p t trains last i f h =
      let k = order_held h in
      order_accepted h.fits (record {
        settled = k.settled;
        first = k.first;
        allowed = k.allowed;
        free = order_fewer (site_on b p t) _ _ f (is_materialised c) k.free;
      })
  fewer_trains (walks set_device) p t trains last i f h =
      let k = set_held h in
      set_accepted h.fits (record {
        in_turn = k.in_turn;
        free = f.watched k.free;
        fault1_confirmed = k.fault1_confirmed;
        measures_suffice = k.measures_suffice;
        no_fault2 = k.no_fault2;
      })
  fewer_trains (walks announce) p t trains last i f h = announce_accepted h.fits (record { in_turn = (announce_held h).in_turn })
  fewer_trains (walks acknowledge) p t trains last i f h = acknowledge_accepted h.fits (record { in_turn = (acknowledge_held h).in_turn })
  fewer_trains (walks key) p t trains last i f h =
      let k = key_held h in
      key_accepted h.fits (record {
        in_turn = k.in_turn;
        fault2 = k.fault2;
        free = f.watched k.free;
        fault1_confirmed = k.fault1_confirmed;
        measures_suffice = k.measures_suffice;
        seal_left = k.seal_left;
      })
  fewer_trains (runs m z) p t trains last i f h = absurd (false≢true i)
  fewer_trains (notes k) p t trains last i f h =
      record { fits = h.fits; held = note_checks k p t (with_trains t trains last) _ _ refl refl h.held }
  fewer_trains (releases z) p t trains last i f h =
      let k = release_held h in
      release_accepted h.fits (record {
        in_turn = k.in_turn;
        in_command = k.in_command;
        fault1 = k.fault1;
        free = f.watched k.free;
        last_train = rw (f.last_ahead_lem (commands_not_last c (site_on b p t) k.in_command)) at k.last_train;
      })

  -- a pass or a leave is not at the sending end, and its train stands before the post
  pub record Onward (z p : ℕ) (t : Track) : Type 0 where
    pub below : p < c.posts
    pub not_first : rank_on c b t.cvt p ≢ 0
    pub number : 0 < z
    pub before : train_at c b t.cvt t.trains (rank_on c b t.cvt p - 1) ≡ z

  pub onward_facts : 2 ≤ c.posts → (m : Motion) (z p : ℕ) (t : Track) → onward m ≡ true → AcceptedOn c v b p (runs m z) t → Onward z p t
  onward_facts n2 start z p t o h = absurd (false≢true o)
  onward_facts n2 pass z p t o h = record {
    below = h.fits.below;
    not_first = not_first_rank c.posts (upward b t.cvt) p (pass_held h).not_first;
    number = h.fits.number.0;
    before = pass_before h;
  }
  onward_facts n2 leave z p t o h = record {
    below = h.fits.below;
    not_first = not_first_rank c.posts (upward b t.cvt) p (leave_not_first n2 h);
    number = h.fits.number.0;
    before = leave_before n2 h;
  }

  -- so a train is on the track
  not_empty : (z p : ℕ) (t : Track) → Onward z p t → any_of is_train (c.posts - 1) t.trains ≡ false → ⊥
  not_empty z p t w hy =
      let r<n : rank_on c b t.cvt p < c.posts = rank_lt c.posts (upward b t.cvt) p w.below in
      let i<n : suc (block_before c (site_on b p t)) < c.posts =
      block_lt c.posts (upward b t.cvt) (rank_on c b t.cvt p - 1) (omega (arith, w.not_first)) in
      let e0 : train_at c b t.cvt t.trains (rank_on c b t.cvt p - 1) ≡ 0 =
      any_zero (c.posts - 1) t.trains hy (block_before c (site_on b p t)) (omega arith) in
      omega (arith, w.number, w.before)

  -- a block section that is not ahead of p stays empty, and keeps its last train
  abbrev NotAhead : ℕ → Track → ℕ → Type 0
  NotAhead p t i = is_last c.posts (upward b t.cvt) p ≡ false → i ≢ block_ahead c (site_on b p t)

  stays_empty : (m : Motion) (z p : ℕ) (t : Track) (i : ℕ) → onward m ≡ true → NotAhead p t i
      → AcceptedOn c v b p (runs m z) t → get_or t.trains i 0 ≡ 0 → get_or (trains_of m z p t) i 0 ≡ 0
  unfolding checks track_after effect flat cells_after
  stays_empty start z p t i o ne h e = absurd (false≢true o)
  stays_empty pass z p t i o ne h e =
      get_or-set_other (set t.trains (block_before c (site_on b p t)) 0) (block_ahead c (site_on b p t)) i z 0
      (ne (pass_held h).not_last)
      ∙ set_zero t.trains (block_before c (site_on b p t)) i e
  stays_empty leave z p t i o ne h e = set_zero t.trains (block_before c (site_on b p t)) i e

  stays_last : (m : Motion) (z p : ℕ) (t : Track) (i : ℕ) → onward m ≡ true → NotAhead p t i
      → AcceptedOn c v b p (runs m z) t → get_or t.last i 0 ≡ get_or (last_of m z p t) i 0
  unfolding checks track_after effect flat cells_after
  stays_last start z p t i o ne h = absurd (false≢true o)
  stays_last pass z p t i o ne h =
      sym (get_or-set_other t.last (block_ahead c (site_on b p t)) i z 0
      (ne (pass_held h).not_last))
  stays_last leave z p t i o ne h = refl

  -- what a step that moves no train leaves as it was
  pub trains_unmoved : (l : View) (q : ℕ) (t : Track) → moves_no_train l ≡ true → (track_after_step c b q l t).trains ≡ t.trains
  unfolding track_after cells_after
  trains_unmoved l q t i = rw (no_movement c q l (site_on b q t) i) refl

  last_unmoved : (l : View) (q : ℕ) (t : Track) → moves_no_train l ≡ true → (track_after_step c b q l t).last ≡ t.last
  unfolding track_after cells_after
  last_unmoved l q t i = rw (no_movement c q l (site_on b q t) i) refl

  unmoved_with : (l : View) (q : ℕ) (t : Track) (trains last : List ℕ) → moves_no_train l ≡ true
      → track_after_step c b q l (with_trains t trains last) ≡ with_trains (track_after_step c b q l t) trains last
  unfolding track_after cells_after
  unmoved_with l q t trains last i = rw (no_movement c q l (site_on b q t) i) refl

  module _ (n2 : 2 ≤ c.posts) (q : ℕ) (l : View) (p : ℕ) (m : Motion) (z : ℕ) (t : Track)
      (o : onward m ≡ true) (i : moves_no_train l ≡ true) (apart : q ≢ p) where
    -- a block section that does not follow p is not ahead of it
    elsewhere : (j : ℕ) → suc j < c.posts → j ≢ rank_on c b t.cvt p → p < c.posts → NotAhead p t (block c.posts (upward b t.cvt) j)
    elsewhere j jn ne p<n w e =
        ne (block_inj c.posts (upward b t.cvt) j (rank_on c b t.cvt p) jn (not_last_rank c.posts (upward b t.cvt) p p<n w) e)

    other_rank : q < c.posts → p < c.posts → rank_on c b t.cvt q ≢ rank_on c b t.cvt p
    other_rank q<n p<n e = apart (rank_inj c.posts (upward b t.cvt) q p q<n p<n e)

    -- the part that q commands stays free
    watched_less : q < c.posts → AcceptedOn c v b p (runs m z) t → watched_occupied c (site_on b q t) t.trains ≡ false
        → watched_occupied c (site_on b q t) (trains_of m z p t) ≡ false
    watched_less q<n hx u =
        let f = onward_facts n2 m z p t o hx in
        (watches c (site_on b q t) (trains_of m z p t)).sees_none (λ k.
        free_stays c.posts (part_ends c b t.cvt) (train_at c b t.cvt t.trains) (train_at c b t.cvt (trains_of m z p t))
        (rank_on c b t.cvt q) (rank_on c b t.cvt p) (other_rank q<n f.below) f.not_first (λ x. omega (arith, f.number, f.before))
        (λ j jn ne. stays_empty m z p t (block c.posts (upward b t.cvt) j) o (elsewhere j jn ne f.below) hx)
        ((watches c (site_on b q t) t.trains).part_free k u))

    last_kept : q < c.posts → AcceptedOn c v b p (runs m z) t → is_last c.posts (upward b t.cvt) q ≡ false
        → get_or t.last (block_ahead c (site_on b q t)) 0 ≡ get_or (last_of m z p t) (block_ahead c (site_on b q t)) 0
    last_kept q<n hx u =
        stays_last m z p t (block_ahead c (site_on b q t)) o
        (elsewhere (rank_on c b t.cvt q) (not_last_rank c.posts (upward b t.cvt) q q<n u) (other_rank q<n hx.fits.below) hx.fits.below) hx

    onward_light : AcceptedOn c v b q l t → AcceptedOn c v b p (runs m z) t → AcceptedOn c v b q l (rolled m z p t)
    unfolding occupancy_at
    onward_light hl hx = fewer_trains l q t (trains_of m z p t) (last_of m z p t) i (record {
      watched = watched_less hl.fits.below hx;
      anywhere = λ y. absurd (not_empty z p t (onward_facts n2 m z p t o hx) y);
      last_ahead_lem = λ u. rw (entered_is c (site_on b q t) t.last u, entered_is c (site_on b q t) (last_of m z p t) u) (last_kept hl.fits.below hx u);
    }) hl

    rolled_then : (track_after_step c b q l t).cvt ≡ t.cvt → track_after_step c b q l (rolled m z p t) ≡ rolled m z p (track_after_step c b q l t)
    rolled_then ec =
        unmoved_with l q t (trains_of m z p t) (last_of m z p t) i
        ∙ ap₂ (with_trains (track_after_step c b q l t)) (onward_trains m z p t (track_after_step c b q l t) o (sym ec) (sym (trains_unmoved l q t i)))
        (onward_last m z p t (track_after_step c b q l t) o (sym ec) (sym (last_unmoved l q t i)))

    pub swap_onward : (track_after_step c b q l t).cvt ≡ t.cvt → AcceptedOn c v b q l t → AcceptedOn c v b p (runs m z) (track_after_step c b q l t)
        → Swapped q l p (runs m z) t
    swap_onward ec hl hx =
        let eo : post_on (track_after_step c b q l t) p ≡ post_on t p = own_kept l t q p apart in
        let x1 : AcceptedOn c v b p (runs m z) t = onward_checks m z p (track_after_step c b q l t) t o ec (trains_unmoved l q t i) eo hx in
        record {
          x_first = x1;
          l_then = rw (onward_moved m z p t o) (accepted_own l (rolled m z p t) q p (own_of m z p t) apart (onward_light hl x1));
          same_end =
              ap (track_after_step c b q l) (onward_moved m z p t o) ∙ track_own l (rolled m z p t) q p (own_of m z p t) apart
              ∙ ap₂ (λ u. with_post u p) (rolled_then ec) (onward_own m z p t (track_after_step c b q l t) o (sym eo))
              ∙ sym (onward_moved m z p (track_after_step c b q l t) o);
          l_says = ap (λ u. (effect c (flat q l) (site_on b q u)).said) (onward_moved m z p t o)
              ∙ says_own l (rolled m z p t) q p (own_of m z p t) apart;
        }
