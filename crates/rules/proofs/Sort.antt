-- The accepted steps put in the new order: the steps of a reversal under way are held back, all else goes before them. A train that rolls on is
-- past the turn's post, a condition concerns its own post and the direction, so each changes places with the steps held back. At the last set
-- the track is empty, and they are performed.
use Prim.Native.Nat.{ℕ, ◌≤◌, ◌<◌}
use mathlib.Core.Bool.{Bool, true, false, cond, not, ◌&&◌, ◌||◌, beq, or-false, false≢true, true≢false}
use mathlib.Core.Path.{◌≡◌, refl, sym, ap, ◌∙◌, subst}
use mathlib.Core.Logic.{◌≢◌, ◌⊎◌, inl, inr}
use mathlib.Core.List.{List, [], ◌∷◌, ◌++◌, append_assoc}
use native.Mathlib.Omega.{arith}
use native.Mathlib.Decide.{dec_le}
use lib.Dec.{eqb}
use borrow.Author.Tests.{eqb-true, ne_eqb, not-true}
use Rattle.section.specs.declared.Settings.{Settings}
use Rattle.section.specs.declared.Act.{Act}
use Rattle.section.specs.declared.Act.TheVariants as act
use Rattle.section.specs.declared.Walk.{Walk}
use Rattle.section.specs.declared.Walk.TheVariants.{Settled, Turn}
use Rattle.section.specs.declared.Track.{Track}
use Rattle.section.specs.declared.Section.{Section}
use Rattle.section.specs.Fresh.{fresh_section}
use Rattle.section.specs.Geometry.{upward, rank}
use Rattle.section.specs.Store.{track_of}
use Rattle.section.proofs.Laws.{and_left, and_right}
use Rattle.rules.specs.declared.Line.{Line}
use Rattle.rules.specs.Site.{is_settled, is_turn, site_on, other_settled_on_vns, at_sending_end, at_receiving_end, next_post, occupancy_at}
use Rattle.rules.specs.Table.{checks, effect, track_after}
use Rattle.rules.specs.Demand3.{AcceptedStep, All, keep, is_of_post, is_step_of_train, is_spoken}
use Rattle.rules.proofs.Facts.{by_track}
use Rattle.rules.proofs.View.{Reversal, order, set_device, announce, acknowledge, key, Motion, start, pass, leave, Condition, View, walks, runs}
use Rattle.rules.proofs.View.{notes, releases, flat, on}
use Rattle.rules.proofs.Frame.{is_turn_lem, is_settled_lem, moves_no_train, keeps_running, onward}
use Rattle.rules.proofs.Accept.{AcceptedOn, track_after_step, line, AcceptedIn, said_in, section_after_step}
use Rattle.rules.proofs.Held.{order_held, set_held, key_held, announce_held, acknowledge_held, start_held, release_held, NoTrain}
use Rattle.rules.proofs.NextPost.{next_post_lem}
use Rattle.rules.proofs.Ranges.{rank_on, announce_next}
use Rattle.rules.proofs.Invariant.{Sound, past_turn, last_free}
use Rattle.rules.proofs.Swap.{onward_facts}
use Rattle.rules.proofs.Exchange.{here_after, there_after, walk_kept, cvt_kept, walks_kept, cvts_kept, says_nothing, Exchanged, exchange_note}
use Rattle.rules.proofs.Exchange.{exchange_onward, exchange_other}
use Rattle.rules.proofs.Reached.{Reached, fresh_settled}
use Rattle.rules.proofs.TrainSteps.{of_train, own_test, post_test_lem}
use Rattle.rules.proofs.Lists.{all_last, all_map, keep_none, Owner, a_post, a_train, announcers, owns, Reordered, reordered_nil, reordered_last}
use Rattle.rules.proofs.Lists.{reordered_insert}
use Rattle.rules.proofs.Perform.{DecodedStep, step_of, all_accepted, accepted_last, accepted_all, Performed, done, performed_append, performed_one}
use Rattle.rules.proofs.Perform.{LateStep, Late, late_last, late_unmoved, late_performed, goes_first}

pub turn_post : (w : Walk) (p q : ℕ) (a a' : Act) → w ≡ Turn p a → w ≡ Turn q a' → q ≡ p
turn_post w p q a a' e f = cc

module _ (c : Line) where
  -- ## What an accepted step can be

  -- on a settled track: one that leaves walk and direction, or an order
  settled_kind : (v b : Bool) (p : ℕ) (k : View) (t : Track) → AcceptedOn c v b p k t → t.walk ≡ Settled → (keeps_running k ≡ true) ⊎ (k ≡ walks order)
  unfolding checks flat
  settled_kind v b p (walks order) t h e = inr refl
  settled_kind v b p (walks set_device) t h e = absurd (false≢true (rw e at (set_held h).in_turn))
  settled_kind v b p (walks announce) t h e = absurd (false≢true (rw e at (announce_held h).in_turn))
  settled_kind v b p (walks acknowledge) t h e = absurd (false≢true (rw e at (acknowledge_held h).in_turn))
  settled_kind v b p (walks key) t h e = absurd (false≢true (rw e at (key_held h).in_turn))
  settled_kind v b p (runs m z) t h e = inl refl
  settled_kind v b p (notes k) t h e = inl refl
  settled_kind v b p (releases z) t h e = inl refl

  -- at post q, on a track whose turn is at p: a train rolls on past the turn's post, a condition is noted, the turn's post does something, or
  -- the reversal ends on an empty track
  pub data Does (v b : Bool) (t : Track) (p q : ℕ) (k : View) : Type 0 where
    moves_on : (m : Motion) (z : ℕ) → k ≡ runs m z → onward m ≡ true → rank_on c b t.cvt p < rank_on c b t.cvt q → Does v b t p q k
    notes_condition : (n : Condition) → k ≡ notes n → Does v b t p q k
    acts_in_turn : moves_no_train k ≡ true → q ≡ p → (p' : ℕ) (a' : Act) → (track_after_step c b q k t).walk ≡ Turn p' a'
        → (track_after_step c b q k t).cvt ≡ t.cvt
        → rank_on c b t.cvt p ≤ rank_on c b t.cvt p' → Does v b t p q k
    ends_reversal : (track_after_step c b q k t).walk ≡ Settled → NoTrain c.posts t → Does v b t p q k

  module _ (v b : Bool) (n2 : 2 ≤ c.posts) (t : Track) (p : ℕ) (a : Act) (e : t.walk ≡ Turn p a) (so : Sound c b t) where
    does_set : (q : ℕ) (k : Reversal) (last : Bool) → at_receiving_end c (site_on b q t) ≡ last → is_turn t.walk q act.Set ≡ true
        → (track_after_step c b q (walks k) t).walk ≡ cond (at_receiving_end c (site_on b q t)) Settled (Turn q act.Announce)
        → (track_after_step c b q (walks k) t).cvt ≡ cond (at_receiving_end c (site_on b q t)) (not t.cvt) t.cvt → Does v b t p q (walks k)
    does_set q k true er hw ew ec =
        ends_reversal (ew ∙ ap (λ r. cond r Settled (Turn q act.Announce)) er)
        (last_free c b t q er hw so.clear)
    does_set q k false er hw ew ec =
        let eq : q ≡ p = turn_post t.walk p q a act.Set e (is_turn_lem t.walk q act.Set hw) in
        acts_in_turn refl eq q act.Announce (ew ∙ ap (λ r. cond r Settled (Turn q act.Announce)) er)
        (ec ∙ ap (λ r. cond r (not t.cvt) t.cvt) er) (omega (arith, ap (rank_on c b t.cvt) eq))

    does_onward : (q : ℕ) (m : Motion) (z : ℕ) → onward m ≡ true → AcceptedOn c v b q (runs m z) t → Does v b t p q (runs m z)
    does_onward q m z o h =
        let f = onward_facts c v b n2 m z q t o h in
        moves_on m z refl o (past_turn c b v t q p a e z f.below f.not_first f.number f.before so.clear)

    pub release_turn : (q : ℕ) → (is_turn t.walk q act.Set || (is_settled t.walk && at_sending_end c (site_on b q t))) ≡ true → q ≡ p
    release_turn q h =
        let g : (is_turn (Turn p a) q act.Set || false) ≡ true = rw e at h in
        turn_post (Turn p a) p q a act.Set refl (is_turn_lem (Turn p a) q act.Set (sym (or-false (is_turn (Turn p a) q act.Set)) ∙ g))

    does : (k : View) (q : ℕ) → AcceptedOn c v b q k t → Does v b t p q k
    unfolding checks track_after effect flat
    does (walks order) q h = absurd (false≢true (rw e at (order_held h).settled))
    does (walks set_device) q h = does_set q set_device (at_receiving_end c (site_on b q t)) refl (set_held h).in_turn refl refl
    does (walks announce) q h =
        let eq : q ≡ p = turn_post t.walk p q a act.Announce e (is_turn_lem t.walk q act.Announce (announce_held h).in_turn) in
        let n = next_post_lem c (site_on b q t) (announce_next c b v t q (announce_held h).in_turn so.ranges.turn) in
        acts_in_turn refl eq (next_post c (site_on b q t)) act.Acknowledge refl refl (omega (arith, n.after, ap (rank_on c b t.cvt) eq))
    does (walks acknowledge) q h =
        let eq : q ≡ p = turn_post t.walk p q a act.Acknowledge e (is_turn_lem t.walk q act.Acknowledge (acknowledge_held h).in_turn) in
        acts_in_turn refl eq q act.Set refl refl (omega (arith, ap (rank_on c b t.cvt) eq))
    does (walks key) q h = does_set q key (at_receiving_end c (site_on b q t)) refl (key_held h).in_turn refl refl
    does (runs start z) q h = absurd (false≢true (rw e at (start_held h).settled))
    does (runs pass z) q h = does_onward q pass z refl h
    does (runs leave z) q h = does_onward q leave z refl h
    does (notes k) q h = notes_condition k refl
    does (releases z) q h = acts_in_turn refl (release_turn q (release_held h).in_turn) p a e refl (omega arith)

  -- ## An order

  pub order_moves : (b : Bool) (p : ℕ) (t : Track)
      → ((track_after_step c b p (walks order) t).walk ≡ Turn p act.Set) × ((track_after_step c b p (walks order) t).cvt ≡ t.cvt)
  unfolding track_after effect flat
  order_moves b p t = (refl, refl)

module _ (c : Settings) where
  -- a post's rank on track b
  abbrev rank_of : Bool → Bool → ℕ → ℕ
  rank_of b cvt p = rank c.posts (upward b cvt) p

  -- ## The order so far

  -- a reversal is under way: `first` is performed with no reversal, and then `late`, its steps at posts up to the turn's
  pub record Reversing (s : Section) (ds : List AcceptedStep) : Type 0 where
    pub track : Bool
    pub post : ℕ
    pub act : Act
    pub first : List AcceptedStep
    pub late : List (DecodedStep c track)
    pub base : Section
    pub performed : Performed c (fresh_section c) first base
    pub settled_before : (b : Bool) → (track_of base b).walk ≡ Settled
    pub held : Late c track base late s
    pub turns : (track_of s track).walk ≡ Turn post act
    pub under : All (λ (i : DecodedStep c track). rank_of track (track_of s track).cvt i.post ≤ rank_of track (track_of s track).cvt post) late
    pub kept : Reordered ds (first ++ all_accepted c track late)

  pub data Progress (s : Section) (ds : List AcceptedStep) : Type 0 where
    settled : (first : List AcceptedStep) → Performed c (fresh_section c) first s → Reordered ds first → ((b : Bool) → (track_of s b).walk ≡ Settled)
        → Progress s ds
    reversing : Reversing s ds → Progress s ds

  -- what is proved of each accepted step
  abbrev Onward : Section → List AcceptedStep → (b : Bool) → DecodedStep c b → Type 0
  Onward s ds b i = Progress (section_after_step c s (step_of c b i)) (ds ++ i.as_accepted ∷ [])

  -- ## No owner in common

  post_is : (b : Bool) (i : DecodedStep c b) (b' : Bool) (p' : ℕ) → is_of_post b' p' i.as_accepted ≡ (beq b b' && eqb i.post p')
  post_is b i = post_test_lem c.posts i.as_accepted b i.post i.kind i.says

  still_no_train : (b : Bool) (i : DecodedStep c b) → moves_no_train i.kind ≡ true → (z : ℕ) → is_step_of_train z i.as_accepted ≡ false
  still_no_train b i j z = rw (own_test c.posts i.as_accepted b i.post i.kind i.says z) (go i.kind j)
    where
      go : (k : View) → moves_no_train k ≡ true → of_train z k ≡ false
      go (walks r) j = refl
      go (runs m y) j = absurd (false≢true j)
      go (notes k) j = refl
      go (releases y) j = refl

  -- a step is of another post, or of another track, than a late one
  abbrev Apart : (b : Bool) → DecodedStep c b → (d : Bool) → DecodedStep c d → Type 0
  Apart b x d i = (b' : Bool) (p' : ℕ) → is_of_post b' p' x.as_accepted ≡ true → is_of_post b' p' i.as_accepted ≡ false

  pub apart_post : (b : Bool) (x i : DecodedStep c b) → i.post ≢ x.post → Apart b x b i
  apart_post b x i ne b' p' t = rw (post_is b i b' p') (go (beq b b') (rw (post_is b x b' p') at t))
    where
      go : (w : Bool) → (w && eqb x.post p') ≡ true → (w && eqb i.post p') ≡ false
      go true u = ne_eqb i.post p' (λ e. ne (e ∙ sym (eqb-true x.post p' u)))
      go false u = refl

  pub apart_track : (b : Bool) (x : DecodedStep c (not b)) (i : DecodedStep c b) → Apart (not b) x b i
  apart_track b x i b' p' t = rw (post_is b i b' p') (go b b' (eqb x.post p') (eqb i.post p') (rw (post_is (not b) x b' p') at t))
    where
      go : (b b' u w : Bool) → (beq (not b) b' && u) ≡ true → (beq b b' && w) ≡ false
      go true true u w t = absurd (false≢true t)
      go true false u w t = refl
      go false true u w t = refl
      go false false u w t = absurd (false≢true t)

  module _ (s : Section) (ds : List AcceptedStep) (g : Reversing s ds) where
    -- a step that leaves walk and direction has no owner in common with the late ones
    pub no_owner : (b : Bool) (x : DecodedStep c b) → keeps_running x.kind ≡ true → said_in c s (step_of c b x) ≡ x.as_accepted.said
        → All (Apart b x g.track) g.late
        → (o : Owner) → owns o x.as_accepted ≡ true → keep (owns o) (all_accepted c g.track g.late) ≡ []
    no_owner b x j said h (a_post b' p') t =
        keep_none (is_of_post b' p') (all_accepted c g.track g.late)
        (accepted_all c g.track (Apart b x g.track) (λ d. is_of_post b' p' d ≡ false) (λ i f. f b' p' t) g.late h)
    no_owner b x j said h (a_train z) t =
        keep_none (is_step_of_train z) (all_accepted c g.track g.late)
        (accepted_all c g.track (λ (i : DecodedStep c g.track). moves_no_train i.kind ≡ true) (λ d. is_step_of_train z d ≡ false)
        (λ i f. still_no_train g.track i f z) g.late
        (late_unmoved c g.track g.late g.base s g.held))
    no_owner b x j said h announcers t =
        absurd (false≢true (subst (λ w. is_spoken w ≡ true) (sym said ∙ says_nothing c s b x.post x.kind j) t))

    -- ## A step goes before the late ones, or is held back with them

    goes_before : (b : Bool) (x : DecodedStep c b) → keeps_running x.kind ≡ true → said_in c s (step_of c b x) ≡ x.as_accepted.said
        → All (Apart b x g.track) g.late
        → AcceptedIn c g.base (step_of c b x) × Late c g.track (section_after_step c g.base (step_of c b x)) g.late
        (section_after_step c s (step_of c b x)) → Onward s ds b x
    goes_before b x j said al r = reversing (record {
      track = g.track;
      post = g.post;
      act = g.act;
      first = g.first ++ x.as_accepted ∷ [];
      late = g.late;
      base = section_after_step c g.base (step_of c b x);
      performed = performed_append c (x.as_accepted ∷ []) g.performed
          (performed_one c g.base (step_of c b x) x.as_accepted x.says r.0
          (says_nothing c g.base b x.post x.kind j ∙ sym (says_nothing c s b x.post x.kind j) ∙ said) ws);
      settled_before = ws;
      held = r.1;
      turns = walks_kept c s b x.post x.kind j g.track ∙ g.turns;
      under = rw (cvts_kept c s b x.post x.kind j g.track) g.under;
      kept = reordered_insert ds g.first (all_accepted c g.track g.late) x.as_accepted (no_owner b x j said al) g.kept;
    })
      where
        ws : (d : Bool) → (track_of (section_after_step c g.base (step_of c b x)) d).walk ≡ Settled
        ws d = walks_kept c g.base b x.post x.kind j d ∙ g.settled_before d

    -- ranks on the track that reverses
    abbrev rk : ℕ → ℕ
    rk p = rank_of g.track (track_of s g.track).cvt p

    -- at a post of rank up to that of p
    abbrev UpTo : ℕ → DecodedStep c g.track → Type 0
    UpTo p i = rk i.post ≤ rk p

    abbrev after : DecodedStep c g.track → Track
    after x = track_after_step (line c s) g.track x.post x.kind (track_of s g.track)

    held_back : (x : DecodedStep c g.track) → moves_no_train x.kind ≡ true → AcceptedIn c s (step_of c g.track x)
        → said_in c s (step_of c g.track x) ≡ x.as_accepted.said
        → (p' : ℕ) (a' : Act) → (after x).walk ≡ Turn p' a' → (after x).cvt ≡ (track_of s g.track).cvt → rk g.post ≤ rk p' → rk x.post ≤ rk g.post
        → Onward s ds g.track x
    held_back x j h said p' a' ew ec le ql = reversing (record {
      track = g.track;
      post = p';
      act = a';
      first = g.first;
      late = g.late ++ x ∷ [];
      base = g.base;
      performed = g.performed;
      settled_before = g.settled_before;
      held = late_last c g.track g.late g.base s x g.held (record { ok = h; said = said; moves_none = j; cvt_kept = ed });
      turns = ap (λ t. t.walk) (here_after c s g.track x.post x.kind) ∙ ew;
      under = rw ed (all_last (UpTo p') g.late x (all_map (UpTo g.post) (UpTo p') g.late (λ i u. omega arith) g.under) (omega arith));
      kept = rw (accepted_last c g.track g.late x, ← (append_assoc g.first (all_accepted c g.track g.late) (x.as_accepted ∷ [])))
          (reordered_last ds (g.first ++ all_accepted c g.track g.late) x.as_accepted g.kept);
    })
      where
        ed : (track_of (section_after_step c s (step_of c g.track x)) g.track).cvt ≡ (track_of s g.track).cvt
        ed = ap (λ t. t.cvt) (here_after c s g.track x.post x.kind) ∙ ec

  -- ## While one track is reversing, the other is settled on VNS

  pub other_vns : (s : Section) (b : Bool) (p : ℕ) (a : Act) → Reached c s → (track_of s b).walk ≡ Turn p a → other_settled_on_vns s b ≡ true
  other_vns s b p a r e = go (track_of s b).walk e (r.single b)
    where
      go : (w : Walk) → w ≡ Turn p a → (is_settled w && not (track_of s b).cvt || other_settled_on_vns s b) ≡ true → other_settled_on_vns s b ≡ true
      go Settled f h = let z : ◌≡◌ {A = ℕ} 0 1 = cc in absurd (omega arith)
      go (Turn q a') f h = h

  pub other_settled : (s : Section) (b : Bool) → other_settled_on_vns s b ≡ true → (track_of s (not b)).walk ≡ Settled
  other_settled s b h = is_settled_lem (track_of s (not b)).walk (and_left (is_settled (track_of s (not b)).walk) (not (track_of s (not b)).cvt) h)

  -- so no order is accepted there
  pub no_second : (s : Section) (b : Bool) (p : ℕ) (a : Act) (q : ℕ) (k : View) → k ≡ walks order → (track_of s b).walk ≡ Turn p a
      → other_settled_on_vns s b ≡ true
      → AcceptedIn c s (on (not b) q k) → ⊥
  unfolding AcceptedIn occupancy_at
  no_second s b p a q k ek w v h =
      let g : AcceptedIn c s (on (not b) q (walks order)) = rw ek at h in
      let u : ((track_of s (not b)).cvt || other_settled_on_vns s (not b)) ≡ true = (order_held g).allowed in
      refuse (track_of s (not b)).cvt (not-true _ (and_right (is_settled (track_of s (not b)).walk) (not (track_of s (not b)).cvt) v)) u
    where
      back : (b : Bool) → (track_of s b).walk ≡ Turn p a → other_settled_on_vns s (not b) ≡ true → ⊥
      back true w t = false≢true (rw w at t)
      back false w t = false≢true (rw w at t)

      refuse : (d : Bool) → d ≡ false → (d || other_settled_on_vns s (not b)) ≡ true → ⊥
      refuse true x y = true≢false x
      refuse false x y = back b w y

  -- ## Each accepted step

  module _ (n2 : 2 ≤ c.posts) (s : Section) (ds : List AcceptedStep) (r : Reached c s) where
    module _ (g : Reversing s ds) where
      abbrev Under : DecodedStep c g.track → Type 0
      Under i = UpTo s ds g g.post i

      -- the last set or key joins first and late
      closes : (x : DecodedStep c g.track) → AcceptedIn c s (step_of c g.track x) → said_in c s (step_of c g.track x) ≡ x.as_accepted.said
          → (after s ds g x).walk ≡ Settled → NoTrain c.posts (track_of s g.track) → Onward s ds g.track x
      closes x h said ew free =
          settled ((g.first ++ all_accepted c g.track g.late) ++ x.as_accepted ∷ [])
          (performed_append c (x.as_accepted ∷ []) (performed_append c (all_accepted c g.track g.late) g.performed late)
          (performed_one c s (step_of c g.track x) x.as_accepted x.says h said ws))
          (reordered_last ds (g.first ++ all_accepted c g.track g.late) x.as_accepted g.kept) ws
        where
          late : Performed c g.base (all_accepted c g.track g.late) s
          late = late_performed c g.track g.late g.base s g.held (g.settled_before (not g.track)) free

          ws : (d : Bool) → (track_of (section_after_step c s (step_of c g.track x)) d).walk ≡ Settled
          ws = by_track (λ d. (track_of (section_after_step c s (step_of c g.track x)) d).walk ≡ Settled) g.track
              (ap (λ t. t.walk) (here_after c s g.track x.post x.kind) ∙ ew)
              (ap (λ t. t.walk) (there_after c s g.track x.post x.kind)
              ∙ other_settled s g.track (other_vns s g.track g.post g.act r g.turns))

      -- a step on the track that reverses
      same_track : (x : DecodedStep c g.track) → AcceptedIn c s (step_of c g.track x) → said_in c s (step_of c g.track x) ≡ x.as_accepted.said
          → Onward s ds g.track x
      unfolding AcceptedIn
      same_track x h said =
          go (does (line c s) (other_settled_on_vns s g.track) g.track n2 (track_of s g.track) g.post g.act g.turns (r.sound g.track)
          x.kind x.post h)
        where
          q : ℕ
          q = x.post

          differ : rk s ds g g.post < rk s ds g q → (i : DecodedStep c g.track) → Under i → i.post ≢ q
          differ lt i u e = omega (arith, ap (rk s ds g) e)

          -- a step of the kind k may go before the late step i
          May : View → Section → DecodedStep c g.track → Type 0
          May k s₀ i =
              AcceptedIn c (section_after_step c s₀ (step_of c g.track i)) (on g.track q k) → Exchanged c s₀ (step_of c g.track i) (on g.track q k)

          before : (k : View) → x.kind ≡ k → keeps_running k ≡ true → rk s ds g g.post < rk s ds g q
              → ((s₀ : Section) (i : DecodedStep c g.track) → Under i → LateStep c g.track s₀ i → May k s₀ i) → Onward s ds g.track x
          before k e j lt f =
              goes_before s ds g g.track x (rw e j) said
              (all_map Under (Apart g.track x g.track) g.late (λ i u. apart_post g.track x i (differ lt i u)) g.under)
              (goes_first c g.track g.track x.post x.kind Under (rw e j) (λ s₀ i u st. subst (λ l. May l s₀ i) (sym e) (f s₀ i u st))
              g.late g.base s g.under g.held h)

          go : Does (line c s) (other_settled_on_vns s g.track) g.track (track_of s g.track) g.post q x.kind → Onward s ds g.track x
          go (moves_on m z e o lt) =
              before (runs m z) e refl lt
              (λ s₀ i u st. exchange_onward c n2 g.track s₀ i.post i.kind q m z o st.moves_none (differ lt i u) st.cvt_kept st.ok)
          go (notes_condition n e) = decide (dec_le (rk s ds g q) (rk s ds g g.post))
            where
              decide : Dec (rk s ds g q ≤ rk s ds g g.post) → Onward s ds g.track x
              decide (yes le) =
                  held_back s ds g x (rw e refl) h said g.post g.act
                  (walk_kept (line c s) g.track q x.kind (track_of s g.track) (rw e refl) ∙ g.turns)
                  (cvt_kept (line c s) g.track q x.kind (track_of s g.track) (rw e refl)) (omega arith) le
              decide (no nle) =
                  before (notes n) e refl (omega arith)
                  (λ s₀ i u st. exchange_note c g.track s₀ i.post i.kind q n (differ (omega arith) i u) st.cvt_kept st.ok)
          go (acts_in_turn j eq p' a' ew ec le) = held_back s ds g x j h said p' a' ew ec le (omega (arith, ap (rk s ds g) eq))
          go (ends_reversal ew free) = closes x h said ew free

      -- a step on the other track
      other_track : (x : DecodedStep c (not g.track)) → AcceptedIn c s (step_of c (not g.track) x)
          → said_in c s (step_of c (not g.track) x) ≡ x.as_accepted.said
          → Onward s ds (not g.track) x
      unfolding AcceptedIn
      other_track x h said =
          go (settled_kind (line c s) (other_settled_on_vns s (not g.track)) (not g.track) x.post x.kind (track_of s (not g.track)) h
          (other_settled s g.track vns))
        where
          vns : other_settled_on_vns s g.track ≡ true
          vns = other_vns s g.track g.post g.act r g.turns

          go : (keeps_running x.kind ≡ true) ⊎ (x.kind ≡ walks order) → Onward s ds (not g.track) x
          go (inl j) =
              goes_before s ds g (not g.track) x j said
              (all_map Under (Apart (not g.track) x g.track) g.late (λ i u. apart_track g.track x i) g.under)
              (goes_first c g.track (not g.track) x.post x.kind Under j
              (λ s₀ i u st hx. exchange_other c g.track s₀ i.post i.kind x.post x.kind j st.ok hx)
              g.late g.base s g.under g.held h)
          go (inr e) = absurd (no_second s g.track g.post g.act x.post x.kind e g.turns vns h)

    -- an order
    begins : (first : List AcceptedStep) → Performed c (fresh_section c) first s → Reordered ds first → ((b : Bool) → (track_of s b).walk ≡ Settled)
        → (b : Bool) (x : DecodedStep c b) → x.kind ≡ walks order → AcceptedIn c s (step_of c b x) → said_in c s (step_of c b x) ≡ x.as_accepted.said
        → Onward s ds b x
    begins first pf kp ws b x e h said = reversing (record {
      track = b;
      post = x.post;
      act = act.Set;
      first = first;
      late = x ∷ [];
      base = s;
      performed = pf;
      settled_before = ws;
      held = (record { ok = h; said = said; moves_none = rw e refl; cvt_kept = cvt_same }, refl);
      turns = ap (λ t. t.walk) (here_after c s b x.post x.kind) ∙ rw e (order_moves (line c s) b x.post (track_of s b)).0;
      under = (omega arith, tt);
      kept = reordered_last ds first x.as_accepted kp;
    })
      where
        cvt_same : (track_of (section_after_step c s (step_of c b x)) b).cvt ≡ (track_of s b).cvt
        cvt_same = ap (λ t. t.cvt) (here_after c s b x.post x.kind) ∙ rw e (order_moves (line c s) b x.post (track_of s b)).1

    unfoldable pub progress : (b : Bool) (x : DecodedStep c b) → AcceptedIn c s (step_of c b x) → said_in c s (step_of c b x) ≡ x.as_accepted.said
        → Progress s ds →
        Onward s ds b x
    unfolding AcceptedIn by_track settled_kind begins same_track other_track does does_set does_onward goes_before held_back closes
    progress b x h said (settled first pf kp ws) = go (settled_kind (line c s) (other_settled_on_vns s b) b x.post x.kind (track_of s b) h (ws b))
      where
        still_settled : keeps_running x.kind ≡ true → (d : Bool) → (track_of (section_after_step c s (step_of c b x)) d).walk ≡ Settled
        still_settled j d = walks_kept c s b x.post x.kind j d ∙ ws d

        go : (keeps_running x.kind ≡ true) ⊎ (x.kind ≡ walks order) → Onward s ds b x
        go (inl j) =
            settled (first ++ x.as_accepted ∷ [])
            (performed_append c (x.as_accepted ∷ []) pf (performed_one c s (step_of c b x) x.as_accepted x.says h said (still_settled j)))
            (reordered_last ds first x.as_accepted kp) (still_settled j)
        go (inr e) = begins first pf kp ws b x e h said
    progress b x h said (reversing g) =
        by_track (λ d. (x : DecodedStep c d) → AcceptedIn c s (step_of c d x) → said_in c s (step_of c d x) ≡ x.as_accepted.said → Onward s ds d x) g.track
        (same_track g) (other_track g) b x h said

  -- ## The new order

  pub record Sorted (s : Section) (ds : List AcceptedStep) : Type 0 where
    pub order : List AcceptedStep
    pub performed : Performed c (fresh_section c) order s
    pub kept : Reordered ds order

  -- with no reversal under way
  unfoldable pub sorted : (s : Section) (ds : List AcceptedStep) → Progress s ds → ((b : Bool) → is_settled (track_of s b).walk ≡ true) → Sorted s ds
  sorted s ds (settled first pf kp ws) h = record { order = first; performed = pf; kept = kp }
  sorted s ds (reversing g) h = absurd (no_turn (track_of s g.track).walk g.turns (h g.track))
    where
      no_turn : (w : Walk) → w ≡ Turn g.post g.act → is_settled w ≡ true → ⊥
      no_turn w e f = false≢true (rw e at f)

  unfoldable pub fresh_progress : Progress (fresh_section c) []
  fresh_progress = settled [] done reordered_nil (fresh_settled c)
