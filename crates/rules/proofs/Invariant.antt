-- What holds of a track in every state reached: what a reversal has cleared holds no train, only the sending end of a settled track has
-- permission, and the ranges hold. Each accepted step keeps this, kind by kind.
use Prim.Native.Nat.{ℕ, suc, ◌-◌, ◌≤◌, ◌<◌}
use mathlib.Core.Bool.{Bool, true, false, cond, not, ◌||◌, false≢true}
use mathlib.Core.Path.{◌≡◌, refl, sym, ◌∙◌, subst}
use mathlib.Core.Logic.{◌≢◌, ◌⊎◌, inl, inr}
use mathlib.Core.List.{List}
use native.Mathlib.Omega.{arith}
use native.Mathlib.Decide.{ℕ_discrete, dec_lt}
use lib.ListN.{get_or, set, length, length-set}
use lib.Seq.{get_or-set_other, get_or-set_same}
use Rattle.section.specs.declared.Post.{Post}
use Rattle.section.specs.declared.Act.{Act}
use Rattle.section.specs.declared.Act.TheVariants as act
use Rattle.section.specs.declared.Walk.{Walk}
use Rattle.section.specs.declared.Walk.TheVariants.{Settled, Turn}
use Rattle.section.specs.declared.Track.{Track}
use Rattle.section.specs.Geometry.{upward, block, is_last}
use Rattle.section.specs.Numbers.{most_posts, most_blocks}
use Rattle.section.specs.Post.{blank}
use Rattle.section.proofs.Laws.{rank_lt, rank_inj, block_inj, block_lt, block_block}
use Rattle.rules.specs.declared.Line.{Line}
use Rattle.rules.specs.declared.Site.{Site}
use Rattle.rules.specs.Site.{site_on, is_turn, at_receiving_end, block_ahead, block_before, next_post, train_at, watched_occupied}
use Rattle.rules.specs.Site.{occupancy_at, part_ends}
use Rattle.rules.specs.Table.{checks, effect, cells_after, track_after}
use Rattle.rules.proofs.Facts.{first_rank, not_first_rank, last_rank, not_last_rank, far_end, set_zero}
use Rattle.rules.proofs.View.{order, set_device, announce, acknowledge, key, start, pass, leave, View, walks, runs, notes, releases, flat}
use Rattle.rules.proofs.Frame.{is_turn_lem, is_settled_lem, moves_no_train, keeps_running, running_kept, no_movement, cells_length}
use Rattle.rules.proofs.Accept.{AcceptedOn, track_after_step}
use Rattle.rules.proofs.Held.{order_held, set_held, key_held, announce_held, acknowledge_held, start_held, pass_held, pass_before, NoTrain}
use Rattle.rules.proofs.NextPost.{next_post_lem}
use Rattle.rules.proofs.Stretches.{free_there}
use Rattle.rules.proofs.Parts.{watches, begins_commands, LineRight}
use Rattle.rules.proofs.Cleared.{Cleared, cleared_back, cleared_settled, cleared_order, cleared_turn, cleared_all, OwnPart, cleared_set}
use Rattle.rules.proofs.Cleared.{cleared_announced, cleared_acknowledged}
use Rattle.rules.proofs.Ranges.{rank_on, TurnFits, InRange, announce_next, in_range_kept}

module _ (c : Line) (b : Bool) where
  -- ## What is kept

  -- the block sections that the reversal has cleared hold no train
  abbrev pub ClearedFree : Bool → Walk → List ℕ → Type 0
  ClearedFree cvt w l = (j : ℕ) → Cleared c b cvt w j → suc j < c.posts → train_at c b cvt l j ≡ 0

  -- a post of that rank may have permission: the sending end, while no reversal is under way
  abbrev pub MayHold : Walk → ℕ → Type 0
  MayHold Settled r = r ≡ 0
  MayHold (Turn p a) r = ⊥

  abbrev pub Permits : Bool → Walk → List Post → Type 0
  Permits cvt w l = (p : ℕ) → p < c.posts → (get_or l p blank).permission ≡ true → MayHold w (rank_on c b cvt p)

  pub record Sizes (t : Track) : Type 0 where
    pub posts : length t.posts ≡ most_posts
    pub trains : length t.trains ≡ most_blocks
    pub last : length t.last ≡ most_blocks

  pub record Sound (t : Track) : Type 0 where
    pub clear : ClearedFree t.cvt t.walk t.trains
    pub permits : Permits t.cvt t.walk t.posts
    pub sizes : Sizes t
    pub ranges : InRange c b t

  module _ (v : Bool) (t : Track) (p : ℕ) where
    abbrev e : Site
    e = site_on b p t

    abbrev r : ℕ
    r = rank_on c b t.cvt p

    -- ## What is cleared

    clear_set : LineRight c → (last : Bool) → is_last c.posts (upward b t.cvt) p ≡ last → is_turn t.walk p act.Set ≡ true
        → watched_occupied c e t.trains ≡ false → ClearedFree t.cvt t.walk t.trains
        → ClearedFree (cond last (not t.cvt) t.cvt) (cond last Settled (Turn p act.Announce)) t.trains
    clear_set right true q hw ha clear j h k = absurd (cleared_settled c b right (not t.cvt) j h)
    clear_set right false q hw ha clear j h k = go (cleared_set c b t.cvt p j h)
      where
        before : ClearedFree t.cvt (Turn p act.Set) t.trains
        before = subst (λ (w : Walk). ClearedFree t.cvt w t.trains) (is_turn_lem t.walk p act.Set hw) clear

        go : Cleared c b t.cvt (Turn p act.Set) j ⊎ OwnPart c b t.cvt p j → train_at c b t.cvt t.trains j ≡ 0
        go (inl l) = before j l k
        go (inr own) =
            free_there c.posts (part_ends c b t.cvt) (train_at c b t.cvt t.trains) r j
            ((watches c e t.trains).part_free (begins_commands c e q own.begins) ha) own.not_before k own.same_part

    -- the train before a post stands where nothing is cleared
    not_cleared : (z : ℕ) → p < c.posts → r ≢ 0 → 0 < z → train_at c b t.cvt t.trains (r - 1) ≡ z
        → ClearedFree t.cvt t.walk t.trains → Cleared c b t.cvt t.walk (r - 1) → ⊥
    not_cleared z p<n r0 z0 hb clear h =
        let r<n : r < c.posts = rank_lt c.posts (upward b t.cvt) p p<n in
        let e0 : train_at c b t.cvt t.trains (r - 1) ≡ 0 = clear (r - 1) h (omega arith) in
        omega arith

    -- so that post is past the turn's
    pub past_turn : (turn : ℕ) (a : Act) → t.walk ≡ Turn turn a → (z : ℕ) → p < c.posts → r ≢ 0 → 0 < z
        → train_at c b t.cvt t.trains (r - 1) ≡ z → ClearedFree t.cvt t.walk t.trains → rank_on c b t.cvt turn < r
    past_turn turn a ew z p<n r0 z0 hb clear = go (dec_lt (rank_on c b t.cvt turn) r)
      where
        go : Dec (rank_on c b t.cvt turn < r) → rank_on c b t.cvt turn < r
        go (yes h) = h
        go (no h) =
            absurd (not_cleared z p<n r0 z0 hb clear
            (subst (λ (w : Walk). Cleared c b t.cvt w (r - 1)) (sym ew) (cleared_turn c b t.cvt turn a (r - 1) (omega arith))))

    clear_pass : (z : ℕ) → p < c.posts → r ≢ 0 → suc r < c.posts → 0 < z → train_at c b t.cvt t.trains (r - 1) ≡ z
        → ClearedFree t.cvt t.walk t.trains → ClearedFree t.cvt t.walk (set (set t.trains (block_before c e) 0) (block_ahead c e) z)
    clear_pass z p<n r0 rn z0 hb clear j h k =
        get_or-set_other (set t.trains (block_before c e) 0) (block_ahead c e) (block c.posts (upward b t.cvt) j) z 0
        (λ q. not_cleared z p<n r0 z0 hb clear
        (cleared_back c b t.cvt t.walk (r - 1) j (omega (arith, block_inj c.posts (upward b t.cvt) j r k rn q)) h))
        ∙ set_zero t.trains (block_before c e) (block c.posts (upward b t.cvt) j) (clear j h k)

    -- a step that moves no train and leaves walk and direction alone
    clear_unmoved : (k : View) → moves_no_train k ≡ true → keeps_running k ≡ true → ClearedFree t.cvt t.walk t.trains
        → ClearedFree (track_after_step c b p k t).cvt (track_after_step c b p k t).walk (track_after_step c b p k t).trains
    unfolding track_after cells_after
    clear_unmoved k i j clear = rw (no_movement c p k e i, (running_kept c p k e j).walk, (running_kept c p k e j).cvt) clear

    clear_kept : LineRight c → (k : View) → AcceptedOn c v b p k t → ClearedFree t.cvt t.walk t.trains
        → TurnFits c b t.cvt t.walk
        → ClearedFree (track_after_step c b p k t).cvt (track_after_step c b p k t).walk (track_after_step c b p k t).trains
    unfolding checks occupancy_at track_after effect cells_after flat
    clear_kept right (walks order) h clear f =
        λ j l m. absurd (cleared_order c b right t.cvt p j (first_rank c.posts (upward b t.cvt) p (order_held h).first) l)
    clear_kept right (walks set_device) h clear f = clear_set right (at_receiving_end c e) refl (set_held h).in_turn (set_held h).free clear
    clear_kept right (walks announce) h clear f = λ j l m.
        subst (λ (w : Walk). ClearedFree t.cvt w t.trains) (is_turn_lem t.walk p act.Announce (announce_held h).in_turn) clear j
        (cleared_announced c b t.cvt p (next_post c e) j (next_post_lem c e (announce_next c b v t p (announce_held h).in_turn f)) l) m
    clear_kept right (walks acknowledge) h clear f = λ j l m.
        subst (λ (w : Walk). ClearedFree t.cvt w t.trains) (is_turn_lem t.walk p act.Acknowledge (acknowledge_held h).in_turn) clear j
        (cleared_acknowledged c b t.cvt p j l) m
    clear_kept right (walks key) h clear f = clear_set right (at_receiving_end c e) refl (key_held h).in_turn (key_held h).free clear
    clear_kept right (runs start z) h clear f =
        λ j l m. absurd (cleared_settled c b right t.cvt j
        (subst (λ (w : Walk). Cleared c b t.cvt w j) (is_settled_lem t.walk (start_held h).settled) l))
    clear_kept right (runs pass z) h clear f =
        clear_pass z h.fits.below (not_first_rank c.posts (upward b t.cvt) p (pass_held h).not_first)
        (not_last_rank c.posts (upward b t.cvt) p h.fits.below (pass_held h).not_last) h.fits.number.0 (pass_before h) clear
    clear_kept right (runs leave z) h clear f =
        λ j l m. set_zero t.trains (block_before c e) (block c.posts (upward b t.cvt) j) (clear j l m)
    clear_kept right (notes k) h clear f = clear_unmoved (notes k) refl refl clear
    clear_kept right (releases z) h clear f = clear

    -- ## Permission

    own_at : (o : Post) → Sizes t → p < c.posts → c.posts ≤ most_posts → get_or (set t.posts p o) p blank ≡ o
    own_at o z p<n n16 = get_or-set_same t.posts p o blank (omega (arith, z.posts))

    module _ (n16 : c.posts ≤ most_posts) (z : Sizes t) where
      -- a step that gives its post no permission
      pub permit_same : (o : Post) (w : Walk) → p < c.posts → (o.permission ≡ true → e.own.permission ≡ true)
          → ((r : ℕ) → MayHold t.walk r → MayHold w r) → Permits t.cvt t.walk t.posts → Permits t.cvt w (set t.posts p o)
      permit_same o w p<n f g old q q<n h = go (ℕ_discrete q p)
        where
          go : Dec (q ≡ p) → MayHold w (rank_on c b t.cvt q)
          go (yes x) = g (rank_on c b t.cvt q) (old q q<n (rw x (f (rw (x, own_at o z p<n n16) at h))))
          go (no ne) = g (rank_on c b t.cvt q) (old q q<n (rw (get_or-set_other t.posts p q o blank ne) at h))

      -- an order takes the one permission away
      permit_order : (o : Post) (w : Walk) → p < c.posts → (o.permission ≡ true → ⊥) → r ≡ 0 → t.walk ≡ Settled
          → Permits t.cvt t.walk t.posts → Permits t.cvt w (set t.posts p o)
      permit_order o w p<n f e0 ew old q q<n h = go (ℕ_discrete q p)
        where
          go : Dec (q ≡ p) → MayHold w (rank_on c b t.cvt q)
          go (yes x) = absurd (f (rw (x, own_at o z p<n n16) at h))
          go (no ne) =
              let r0 : rank_on c b t.cvt q ≡ 0 =
              subst (λ (v : Walk). MayHold v (rank_on c b t.cvt q)) ew (old q q<n (rw (get_or-set_other t.posts p q o blank ne) at h)) in
              absurd (ne (rank_inj c.posts (upward b t.cvt) q p q<n p<n (r0 ∙ sym e0)))

      -- the last set or key gives it to the last post
      permit_set : (last : Bool) → is_last c.posts (upward b t.cvt) p ≡ last → p < c.posts → is_turn t.walk p act.Set ≡ true
          → (o : Post) → o.permission ≡ (last || e.own.permission) → Permits t.cvt t.walk t.posts
          → Permits (cond last (not t.cvt) t.cvt) (cond last Settled (Turn p act.Announce)) (set t.posts p o)
      permit_set true ew p<n hw o eo old q q<n h = go (ℕ_discrete q p)
        where
          go : Dec (q ≡ p) → rank_on c b (not t.cvt) q ≡ 0
          go (yes x) =
              let far : suc r ≡ c.posts = last_rank c.posts (upward b t.cvt) p ew in
              rw x (far_end c.posts b t.cvt p p<n far)
          go (no ne) =
              absurd (subst (λ (v : Walk). MayHold v (rank_on c b t.cvt q)) (is_turn_lem t.walk p act.Set hw)
              (old q q<n (rw (get_or-set_other t.posts p q o blank ne) at h)))
      permit_set false ew p<n hw o eo old q q<n h =
          permit_same o (Turn p act.Announce) p<n (λ u. rw eo at u) (λ r m. subst (λ (v : Walk). MayHold v r) (is_turn_lem t.walk p act.Set hw) m) old q q<n h

      permit_running : (k : View) → AcceptedOn c v b p k t → keeps_running k ≡ true → Permits t.cvt t.walk t.posts
          → Permits (track_after_step c b p k t).cvt (track_after_step c b p k t).walk (track_after_step c b p k t).posts
      unfolding track_after
      permit_running k h i old =
          rw ((running_kept c p k e i).walk, (running_kept c p k e i).cvt)
          (permit_same (effect c (flat p k) e).own t.walk h.fits.below (λ u. rw (running_kept c p k e i).permission at u) (λ r m. m) old)

      permits_kept : (k : View) → AcceptedOn c v b p k t → Permits t.cvt t.walk t.posts
          → Permits (track_after_step c b p k t).cvt (track_after_step c b p k t).walk (track_after_step c b p k t).posts
      unfolding checks track_after effect flat
      permits_kept (walks order) h old =
          permit_order (effect c (flat p (walks order)) e).own (Turn p act.Set) h.fits.below false≢true
          (first_rank c.posts (upward b t.cvt) p (order_held h).first) (is_settled_lem t.walk (order_held h).settled) old
      permits_kept (walks set_device) h old =
          permit_set (at_receiving_end c e) refl h.fits.below (set_held h).in_turn (effect c (flat p (walks set_device)) e).own refl old
      permits_kept (walks announce) h old =
          permit_same e.own (Turn (next_post c e) act.Acknowledge) h.fits.below (λ u. u)
          (λ r m. subst (λ (v : Walk). MayHold v r) (is_turn_lem t.walk p act.Announce (announce_held h).in_turn) m) old
      permits_kept (walks acknowledge) h old =
          permit_same e.own (Turn p act.Set) h.fits.below (λ u. u)
          (λ r m. subst (λ (v : Walk). MayHold v r) (is_turn_lem t.walk p act.Acknowledge (acknowledge_held h).in_turn) m) old
      permits_kept (walks key) h old =
          permit_set (at_receiving_end c e) refl h.fits.below (key_held h).in_turn (effect c (flat p (walks key)) e).own refl old
      permits_kept (runs m y) h old = permit_running (runs m y) h refl old
      permits_kept (notes k) h old = permit_running (notes k) h refl old
      permits_kept (releases y) h old = permit_running (releases y) h refl old

    -- ## The whole

    sizes_kept : (k : View) → Sizes t → Sizes (track_after_step c b p k t)
    unfolding track_after
    sizes_kept k z = record {
      posts = simp length-set z.posts;
      trains = cells_length c true (effect c (flat p k) e).train e t.trains ∙ z.trains;
      last = cells_length c false (effect c (flat p k) e).train e t.last ∙ z.last;
    }

    pub sound_kept : LineRight c → (k : View) → AcceptedOn c v b p k t → Sound t → Sound (track_after_step c b p k t)
    sound_kept right k h s = record {
      clear = clear_kept right k h s.clear s.ranges.turn;
      permits = permits_kept right.most s.sizes k h s.permits;
      sizes = sizes_kept k s.sizes;
      ranges = in_range_kept c b v t p k h s.ranges;
    }

-- ## The last set or key finds no train on the track

pub all_free : (c : Line) (b : Bool) (t : Track) (p : ℕ) → is_last c.posts (upward b t.cvt) p ≡ true
    → ClearedFree c b t.cvt (Turn p act.Set) t.trains → NoTrain c.posts t
all_free c b t p hr clear i h =
    let e : suc (rank_on c b t.cvt p) ≡ c.posts = last_rank c.posts (upward b t.cvt) p hr in
    let l : suc (block c.posts (upward b t.cvt) i) < c.posts = block_lt c.posts (upward b t.cvt) i h in
    rw (block_block c.posts (upward b t.cvt) i h) at (clear (block c.posts (upward b t.cvt) i) (cleared_all c b t.cvt p _ e l) l)

-- a turn at the last post, with its act set
pub last_free : (c : Line) (b : Bool) (t : Track) (p : ℕ) → is_last c.posts (upward b t.cvt) p ≡ true → is_turn t.walk p act.Set ≡ true
    → ClearedFree c b t.cvt t.walk t.trains → NoTrain c.posts t
last_free c b t p hr hw clear =
    all_free c b t p hr (subst (λ (w : Walk). ClearedFree c b t.cvt w t.trains) (is_turn_lem t.walk p act.Set hw) clear)
