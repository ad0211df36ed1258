-- The ranges of a track, as facts, and that every accepted step keeps them: it stores numbers and a seal count that were tested, and its turn
-- goes to a post that the section has.
use Prim.Native.Nat.{ℕ, suc, ◌-◌, ◌≤◌, ◌<◌}
use mathlib.Core.Bool.{Bool, true, false, cond, not}
use mathlib.Core.Path.{◌≡◌, refl, ap, subst}
use mathlib.Core.List.{List}
use native.Mathlib.Omega.{arith}
use lib.ListN.{get_or, set}
use lib.Dec.{eqb, ltb}
use borrow.Author.Tests.{ltb-true, eqb-false, lt-ltb, not-true}
use Rattle.section.specs.declared.Fault.TheVariants.{One, Two, Three, Four}
use Rattle.section.specs.declared.Post.{Post}
use Rattle.section.specs.declared.Act.TheVariants as act
use Rattle.section.specs.declared.Walk.{Walk}
use Rattle.section.specs.declared.Walk.TheVariants.{Settled, Turn}
use Rattle.section.specs.declared.Track.{Track}
use Rattle.section.specs.Geometry.{upward, rank, is_first, is_last}
use Rattle.section.specs.Numbers.{most_seals, largest_train}
use Rattle.section.specs.Post.{blank}
use Rattle.section.specs.Range.{post_in_range, act_in_range, walk_in_range, track_in_range}
use Rattle.section.specs.Store.{post_on}
use Rattle.section.proofs.Laws.{track_ranges, ranges_hold, seals_right, caution_right, post_in_range_lem, set_keeps, and_left, and_right, both}
use Rattle.rules.specs.declared.Line.{Line}
use Rattle.rules.specs.declared.Site.{Site}
use Rattle.rules.specs.declared.Movement.{Movement}
use Rattle.rules.specs.declared.Movement.TheVariants.{Stays, Enters, Moves, Leaves}
use Rattle.rules.specs.Site.{site_on, is_turn, at_receiving_end}
use Rattle.rules.specs.Table.{checks, effect, vacated, cells_after, track_after}
use Rattle.rules.proofs.Facts.{not_first_rank, rank_not_first, not_last_rank, rank_not_last}
use Rattle.rules.proofs.View.{order, set_device, announce, acknowledge, key, start, pass, leave, measures, fault, caution, View, walks, runs, notes}
use Rattle.rules.proofs.View.{releases, flat}
use Rattle.rules.proofs.Frame.{is_turn_lem, running_kept, no_movement}
use Rattle.rules.proofs.Accept.{AcceptedOn, track_after_step}
use Rattle.rules.proofs.Held.{key_held, announce_held}
use Rattle.rules.proofs.NextPost.{next_post_lem}

module _ (c : Line) (b : Bool) where
  -- the rank of post p on the track
  abbrev pub rank_on : Bool → ℕ → ℕ
  rank_on cvt p = rank c.posts (upward b cvt) p

  -- ## The turn

  abbrev pub TurnFits : Bool → Walk → Type 0
  TurnFits cvt Settled = Unit {0}
  TurnFits cvt (Turn p act.Set) = p < c.posts
  TurnFits cvt (Turn p act.Announce) = (p < c.posts) × (suc (rank_on cvt p) < c.posts)
  TurnFits cvt (Turn p act.Acknowledge) = (p < c.posts) × (0 < rank_on cvt p)

  turn_in : (cvt : Bool) (w : Walk) → walk_in_range c.posts (upward b cvt) w ≡ true → TurnFits cvt w
  unfolding walk_in_range act_in_range
  turn_in cvt Settled h = tt
  turn_in cvt (Turn p act.Set) h = ltb-true p c.posts (and_left (ltb p c.posts) true h)
  turn_in cvt (Turn p act.Announce) h =
      let p<n : p < c.posts = ltb-true p c.posts (and_left (ltb p c.posts) (not (is_last c.posts (upward b cvt) p)) h) in
      (p<n, not_last_rank c.posts (upward b cvt) p p<n (not-true _ (and_right (ltb p c.posts) (not (is_last c.posts (upward b cvt) p)) h)))
  turn_in cvt (Turn p act.Acknowledge) h = (
    ltb-true p c.posts (and_left (ltb p c.posts) (not (is_first c.posts (upward b cvt) p)) h),
    omega (arith, not_first_rank c.posts (upward b cvt) p (not-true _ (and_right (ltb p c.posts) (not (is_first c.posts (upward b cvt) p)) h))),
  )

  turn_out : (cvt : Bool) (w : Walk) → TurnFits cvt w → walk_in_range c.posts (upward b cvt) w ≡ true
  unfolding walk_in_range act_in_range
  turn_out cvt Settled h = refl
  turn_out cvt (Turn p act.Set) h = both (lt-ltb p c.posts h) refl
  turn_out cvt (Turn p act.Announce) h =
      both (lt-ltb p c.posts h.0) (ap not (rank_not_last c.posts (upward b cvt) p h.1))
  turn_out cvt (Turn p act.Acknowledge) h =
      both (lt-ltb p c.posts h.0) (ap not (rank_not_first c.posts (upward b cvt) p (omega arith)))

  -- ## The track

  pub record InRange (t : Track) : Type 0 where
    pub posts : (p : ℕ) → p < c.posts → post_in_range (post_on t p) ≡ true
    pub trains : (i : ℕ) → i < c.posts - 1 → get_or t.trains i 0 ≤ largest_train
    pub last : (i : ℕ) → i < c.posts - 1 → get_or t.last i 0 ≤ largest_train
    pub turn : TurnFits t.cvt t.walk

  pub track_in_lem : (t : Track) → track_in_range c.posts b t ≡ true → InRange t
  track_in_lem t h =
      let r = track_ranges c.posts b t h in
      record { posts = r.posts; trains = r.trains; last = r.last; turn = turn_in t.cvt t.walk r.walk }

  pub track_out : (t : Track) → InRange t → track_in_range c.posts b t ≡ true
  track_out t r =
      ranges_hold c.posts b t
      (record { posts = r.posts; trains = r.trains; last = r.last; walk = turn_out t.cvt t.walk r.turn })

  -- ## Kept by an accepted step

  -- a number stored where a train moves
  MovementFits : Movement → Type 0
  MovementFits Stays = Unit {0}
  MovementFits (Enters z) = z ≤ largest_train
  MovementFits (Moves z) = z ≤ largest_train
  MovementFits Leaves = Unit {0}

  AllFit : List ℕ → Type 0
  AllFit l = (i : ℕ) → i < c.posts - 1 → get_or l i 0 ≤ largest_train

  set_fits : (l : List ℕ) (j z : ℕ) → z ≤ largest_train → AllFit l → AllFit (set l j z)
  unfolding AllFit
  set_fits l j z h f i k = set_keeps (λ (w : ℕ). w ≤ largest_train) l j i z 0 (f i k) h

  vacated_fits : (clears : Bool) (e : Site) (l : List ℕ) → AllFit l → AllFit (vacated c clears e l)
  vacated_fits true e l f = set_fits l _ _ (omega arith) f
  vacated_fits false e l f = f

  cells_in_range : (clears : Bool) (m : Movement) (e : Site) (l : List ℕ) → MovementFits m → AllFit l → AllFit (cells_after c clears m e l)
  unfolding cells_after MovementFits
  cells_in_range clears Stays e l h f = f
  cells_in_range clears (Enters z) e l h f = set_fits l _ _ h f
  cells_in_range clears (Moves z) e l h f = set_fits _ _ _ h (vacated_fits clears e l f)
  cells_in_range clears Leaves e l h f = vacated_fits clears e l f

  module _ (v : Bool) (t : Track) (p : ℕ) where
    abbrev e : Site
    e = site_on b p t

    movement_fits : (k : View) → AcceptedOn c v b p k t → MovementFits (effect c (flat p k) e).train
    unfolding MovementFits effect flat
    movement_fits (walks r) h = rw (no_movement c p (walks r) e refl) tt
    movement_fits (runs start z) h = h.fits.number.1
    movement_fits (runs pass z) h = h.fits.number.1
    movement_fits (runs leave z) h = tt
    movement_fits (notes k) h = rw (no_movement c p (notes k) e refl) tt
    movement_fits (releases z) h = tt

    -- a key is refused at 999
    seals_fit : (k : View) → AcceptedOn c v b p k t → e.own.seals ≤ most_seals → (effect c (flat p k) e).own.seals ≤ most_seals
    unfolding checks effect flat
    seals_fit (walks order) h o = o
    seals_fit (walks set_device) h o = o
    seals_fit (walks announce) h o = o
    seals_fit (walks acknowledge) h o = o
    seals_fit (walks key) h o = omega (arith, eqb-false e.own.seals most_seals (key_held h).seal_left)
    seals_fit (runs m z) h o = rw (running_kept c p (runs m z) e refl).seals o
    seals_fit (notes k) h o = rw (running_kept c p (notes k) e refl).seals o
    seals_fit (releases z) h o = o

    caution_used : (used : Bool) (z : ℕ) → z ≤ largest_train → cond used 0 z ≤ largest_train
    caution_used true z h = omega arith
    caution_used false z h = h

    caution_fits : (k : View) → AcceptedOn c v b p k t → e.own.caution ≤ largest_train → (effect c (flat p k) e).own.caution ≤ largest_train
    unfolding effect flat
    caution_fits (walks order) h o = o
    caution_fits (walks set_device) h o = omega arith
    caution_fits (walks announce) h o = o
    caution_fits (walks acknowledge) h o = o
    caution_fits (walks key) h o = omega arith
    caution_fits (runs start z) h o = caution_used (eqb e.own.caution z) e.own.caution o
    caution_fits (runs pass z) h o = caution_used (eqb e.own.caution z) e.own.caution o
    caution_fits (runs leave z) h o = o
    caution_fits (notes (measures true)) h o = o
    caution_fits (notes (measures false)) h o = o
    caution_fits (notes (fault true f)) h o = o
    caution_fits (notes (fault false One)) h o = o
    caution_fits (notes (fault false Two)) h o = o
    caution_fits (notes (fault false Three)) h o = o
    caution_fits (notes (fault false Four)) h o = o
    caution_fits (notes (caution z)) h o = h.fits.number.1
    caution_fits (releases z) h o = o

    post_fits : (k : View) → AcceptedOn c v b p k t → post_in_range e.own ≡ true → post_in_range (effect c (flat p k) e).own ≡ true
    post_fits k h o = post_in_range_lem _ (seals_fit k h (seals_right _ o)) (caution_fits k h (caution_right _ o))

    -- set or key: announce is next, unless it was at the last post
    set_turn : (last : Bool) → is_last c.posts (upward b t.cvt) p ≡ last → p < c.posts
        → TurnFits (cond last (not t.cvt) t.cvt) (cond last Settled (Turn p act.Announce))
    set_turn true q p<n = tt
    set_turn false q p<n = (p<n, not_last_rank c.posts (upward b t.cvt) p p<n q)

    -- the post after the one that announces
    pub announce_next : is_turn t.walk p act.Announce ≡ true → TurnFits t.cvt t.walk → suc (rank_on t.cvt p) < c.posts
    announce_next h f = (subst (TurnFits t.cvt) (is_turn_lem t.walk p act.Announce h) f).1

    turn_kept : (k : View) → AcceptedOn c v b p k t → TurnFits t.cvt t.walk → TurnFits (effect c (flat p k) e).cvt (effect c (flat p k) e).walk
    unfolding checks effect flat
    turn_kept (walks order) h f = h.fits.below
    turn_kept (walks set_device) h f = set_turn (at_receiving_end c e) refl h.fits.below
    turn_kept (walks announce) h f =
        let n = next_post_lem c e (announce_next (announce_held h).in_turn f) in
        (n.below, omega (arith, n.after))
    turn_kept (walks acknowledge) h f = h.fits.below
    turn_kept (walks key) h f = set_turn (at_receiving_end c e) refl h.fits.below
    turn_kept (runs m z) h f = rw ((running_kept c p (runs m z) e refl).walk, (running_kept c p (runs m z) e refl).cvt) f
    turn_kept (notes k) h f = rw ((running_kept c p (notes k) e refl).walk, (running_kept c p (notes k) e refl).cvt) f
    turn_kept (releases z) h f = f

    pub in_range_kept : (k : View) → AcceptedOn c v b p k t → InRange t → InRange (track_after_step c b p k t)
    unfolding track_after AllFit
    in_range_kept k h r = record {
      posts = λ q q<n. set_keeps (λ (o : Post). post_in_range o ≡ true) t.posts p q (effect c (flat p k) e).own blank (r.posts q q<n)
          (post_fits k h (r.posts p h.fits.below));
      trains = cells_in_range true (effect c (flat p k) e).train e t.trains (movement_fits k h) r.trains;
      last = cells_in_range false (effect c (flat p k) e).train e t.last (movement_fits k h) r.last;
      turn = turn_kept k h r.turn;
    }
