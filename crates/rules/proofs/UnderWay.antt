-- A reversal is under way, over the accepted steps, where the walk says so. What is kept names the last post of the reversal too: an order notes
-- the far end, and the set or key there, and no other, ends it.
use Prim.Native.Nat.{ℕ, suc, ◌-◌, ◌≤◌, ◌<◌}
use mathlib.Core.Bool.{Bool, true, false, cond, not, ◌||◌, beq, false≢true}
use mathlib.Core.Path.{◌≡◌, refl, sym, ap, ap₂, ◌∙◌}
use mathlib.Core.List.{List, [], ◌∷◌, ◌++◌}
use mathlib.Core.Option.{Option, none, some}
use native.Mathlib.Omega.{arith}
use lib.Dec.{eqb}
use borrow.Author.Tests.{eq-eqb, ne_eqb}
use Rattle.section.specs.Numbers.{order_kind, set_kind, key_kind}
use Rattle.section.specs.declared.Settings.{Settings}
use Rattle.section.specs.declared.Act.{Act}
use Rattle.section.specs.declared.Act.TheVariants as act
use Rattle.section.specs.declared.Walk.{Walk}
use Rattle.section.specs.declared.Walk.TheVariants.{Settled, Turn}
use Rattle.section.specs.declared.Track.{Track}
use Rattle.section.specs.declared.Section.{Section}
use Rattle.section.specs.Fresh.{fresh_track, fresh_section}
use Rattle.section.specs.Geometry.{upward, rank, is_last}
use Rattle.section.specs.Step.{kind_of}
use Rattle.section.specs.Store.{track_of}
use Rattle.section.proofs.Laws.{rank_rank}
use Rattle.rules.specs.declared.Line.{Line}
use Rattle.rules.specs.Site.{is_settled, is_turn, site_on, other_settled_on_vns, at_receiving_end}
use Rattle.rules.specs.Table.{checks, effect, track_after}
use Rattle.rules.specs.Demand3.{AcceptedStep, is_on_track, keep, other_end, ends_at, note_reversal, reversal_from, runs?, under_way}
use Rattle.rules.proofs.Facts.{by_track, beq_same, beq_other, first_rank, last_rank, not_last_rank}
use Rattle.rules.proofs.View.{order, set_device, announce, acknowledge, key, start, pass, leave, measures, fault, caution, View, walks, runs, notes}
use Rattle.rules.proofs.View.{releases, flat, post_flat, Seen, on, as_step}
use Rattle.rules.proofs.Reading.{Says}
use Rattle.rules.proofs.Frame.{is_turn_lem, keeps_running}
use Rattle.rules.proofs.Accept.{AcceptedOn, track_after_step, line, AcceptedIn, section_after_step}
use Rattle.rules.proofs.Held.{order_held, set_held, key_held, announce_held, acknowledge_held}
use Rattle.rules.proofs.Exchange.{here_after, there_after, walk_kept, cvt_kept}
use Rattle.rules.proofs.TrainSteps.{track_test}
use Rattle.rules.proofs.Lists.{keep_append}

-- ## The ends

-- the other end post of the sending end is the receiving end
far_post : (n : ℕ) (up : Bool) (p : ℕ) → 2 ≤ n → p < n → rank n up p ≡ 0 → other_end n p ≡ rank n up (n - 1)
unfolding rank
far_post n true p n2 p<n e = rw (eq-eqb p 0 e) refl
far_post n false p n2 p<n e = rw (ne_eqb p 0 (omega arith)) (omega arith)

-- a post is the receiving end, or it is not that post
is_far_post : (n : ℕ) (up : Bool) (p : ℕ) → p < n → (last : Bool) → is_last n up p ≡ last → eqb p (rank n up (n - 1)) ≡ last
unfolding is_last
is_far_post n up p p<n true e =
    let q : suc (rank n up p) ≡ n = last_rank n up p e in
    eq-eqb p (rank n up (n - 1)) (sym (rank_rank n up p p<n) ∙ ap (rank n up) (omega arith))
is_far_post n up p p<n false e =
    let l : suc (rank n up p) < n = not_last_rank n up p p<n e in
    ne_eqb p (rank n up (n - 1)) (λ q. omega (arith, l, ap (rank n up) q, rank_rank n up (n - 1) (omega arith)))

-- ## One more step

reversal_append : (n : ℕ) (r : Option ℕ) (a b : List AcceptedStep) → reversal_from n r (a ++ b) ≡ reversal_from n (reversal_from n r a) b
reversal_append n r [] b = refl
reversal_append n r (d ∷ a) b = reversal_append n (note_reversal n d r) a b

-- a step's kind and post, noted
abbrev note_at : ℕ → ℕ → ℕ → Option ℕ → Option ℕ
note_at n k p r = cond (eqb k order_kind) (some (other_end n p)) (cond (eqb k set_kind || eqb k key_kind) (ends_at p r) r)

module _ (c : Settings) where
  -- the last post of the reversal that runs by the walk
  abbrev pub last_post : Bool → Bool → Walk → Option ℕ
  last_post b cvt Settled = none
  last_post b cvt (Turn p a) = some (rank c.posts (upward b cvt) (c.posts - 1))

  abbrev pub reversal_on : Bool → List AcceptedStep → Option ℕ
  reversal_on b ds = reversal_from c.posts none (keep (is_on_track b) ds)

  -- the accepted steps and the section agree on what is under way
  abbrev pub Agrees : Section → List AcceptedStep → Type 0
  Agrees s ds = (b : Bool) → reversal_on b ds ≡ last_post b (track_of s b).cvt (track_of s b).walk

  -- ## An accepted step on its own track

  module _ (n2 : 2 ≤ c.posts) (s : Section) (v b : Bool) (p : ℕ) (t : Track) where
    abbrev ln : Line
    ln = line c s

    abbrev far : ℕ
    far = rank c.posts (upward b t.cvt) (c.posts - 1)

    set_noted : (last : Bool) → is_last c.posts (upward b t.cvt) p ≡ last → p < c.posts
        → ends_at p (some far) ≡ last_post b (cond last (not t.cvt) t.cvt) (cond last Settled (Turn p act.Announce))
    set_noted true e p<n = rw (is_far_post c.posts (upward b t.cvt) p p<n true e) refl
    set_noted false e p<n = rw (is_far_post c.posts (upward b t.cvt) p p<n false e) refl

    turn_last : (a : Act) (w : Walk) → is_turn w p a ≡ true → last_post b t.cvt w ≡ some far
    turn_last a w h = rw (is_turn_lem w p a h) refl

    running_noted : (k : View) → keeps_running k ≡ true → note_at c.posts (kind_of (flat p k)) p (last_post b t.cvt t.walk) ≡ last_post b t.cvt t.walk
    unfolding flat kind_of
    running_noted (walks r) i = absurd (false≢true i)
    running_noted (runs start z) i = refl
    running_noted (runs pass z) i = refl
    running_noted (runs leave z) i = refl
    running_noted (notes (measures true)) i = refl
    running_noted (notes (measures false)) i = refl
    running_noted (notes (fault true f)) i = refl
    running_noted (notes (fault false f)) i = refl
    running_noted (notes (caution z)) i = refl
    running_noted (releases z) i = refl

    running_agrees : (k : View) → keeps_running k ≡ true
        → note_at c.posts (kind_of (flat p k)) p (last_post b t.cvt t.walk)
        ≡ last_post b (track_after_step ln b p k t).cvt (track_after_step ln b p k t).walk
    running_agrees k i = rw (cvt_kept ln b p k t i, walk_kept ln b p k t i) (running_noted k i)

    noted : (k : View) → AcceptedOn ln v b p k t
        → note_at c.posts (kind_of (flat p k)) p (last_post b t.cvt t.walk)
        ≡ last_post b (track_after_step ln b p k t).cvt (track_after_step ln b p k t).walk
    unfolding checks track_after effect flat kind_of
    noted (walks order) h =
        ap some (far_post c.posts (upward b t.cvt) p n2 h.fits.below (first_rank c.posts (upward b t.cvt) p (order_held h).first))
    noted (walks set_device) h =
        ap (ends_at p) (turn_last act.Set t.walk (set_held h).in_turn) ∙ set_noted (at_receiving_end ln (site_on b p t)) refl h.fits.below
    noted (walks announce) h = turn_last act.Announce t.walk (announce_held h).in_turn
    noted (walks acknowledge) h = turn_last act.Acknowledge t.walk (acknowledge_held h).in_turn
    noted (walks key) h = ap (ends_at p) (turn_last act.Set t.walk (key_held h).in_turn) ∙ set_noted (at_receiving_end ln (site_on b p t)) refl h.fits.below
    noted (runs m z) h = running_agrees (runs m z) refl
    noted (notes k) h = running_agrees (notes k) refl
    noted (releases z) h = running_agrees (releases z) refl

  -- ## The section

  reversal_one : (w : Bool) (d : AcceptedStep) (r : Option ℕ) → reversal_from c.posts r (cond w (d ∷ []) []) ≡ cond w (note_reversal c.posts d r) r
  reversal_one true d r = refl
  reversal_one false d r = refl

  reversal_last : (b : Bool) (ds : List AcceptedStep) (d : AcceptedStep)
      → reversal_on b (ds ++ d ∷ []) ≡ cond (is_on_track b d) (note_reversal c.posts d (reversal_on b ds)) (reversal_on b ds)
  reversal_last b ds d =
      ap (reversal_from c.posts none) (keep_append (is_on_track b) ds (d ∷ []))
      ∙ reversal_append c.posts none (keep (is_on_track b) ds) (keep (is_on_track b) (d ∷ []))
      ∙ reversal_one (is_on_track b d) d (reversal_on b ds)

  module _ (n2 : 2 ≤ c.posts) (s : Section) (ds : List AcceptedStep) (d : AcceptedStep) where
    one_kept : (t : Bool) (q : ℕ) (k : View) → Says c.posts d.bytes (as_step (on t q k)) → AcceptedIn c s (on t q k)
        → Agrees s ds → Agrees (section_after_step c s (on t q k)) (ds ++ d ∷ [])
    unfolding AcceptedIn
    one_kept t q k h ok a =
        by_track (λ b. reversal_on b (ds ++ d ∷ []) ≡ last_post b (track_of after b).cvt (track_of after b).walk) t
        (reversal_last t ds d ∙ whether t (beq_same t) ∙ ap (λ r. note_reversal c.posts d r) (a t)
        ∙ ap₂ (λ k p. note_at c.posts k p (last_post t (track_of s t).cvt (track_of s t).walk)) (sym h.fields.kind_is)
        (sym h.fields.post_is ∙ post_flat q k)
        ∙ noted n2 s (other_settled_on_vns s t) t q (track_of s t) k ok
        ∙ sym (ap (λ u. last_post t u.cvt u.walk) (here_after c s t q k)))
        (reversal_last (not t) ds d ∙ whether (not t) (beq_other t) ∙ a (not t)
        ∙ sym (ap (λ u. last_post (not t) u.cvt u.walk) (there_after c s t q k)))
      where
        after : Section
        after = section_after_step c s (on t q k)

        -- whether the step is of track b
        whether : (b : Bool) {w : Bool} → beq t b ≡ w
            → cond (is_on_track b d) (note_reversal c.posts d (reversal_on b ds)) (reversal_on b ds)
            ≡ cond w (note_reversal c.posts d (reversal_on b ds)) (reversal_on b ds)
        whether b e = ap (λ w. cond w (note_reversal c.posts d (reversal_on b ds)) (reversal_on b ds)) (track_test c.posts d t q k h b ∙ e)

    pub agrees_kept : (x : Seen) → Says c.posts d.bytes (as_step x) → AcceptedIn c s x → Agrees s ds
        → Agrees (section_after_step c s x) (ds ++ d ∷ [])
    agrees_kept (on t q k) h ok a = one_kept t q k h ok a

  pub fresh_agrees : Agrees (fresh_section c) []
  unfolding fresh_section fresh_track
  fresh_agrees true = refl
  fresh_agrees false = refl

  -- ## Under way

  pub under_way_lem : (s : Section) (ds : List AcceptedStep) → Agrees s ds → (b : Bool) → under_way c.posts b ds ≡ not (is_settled (track_of s b).walk)
  unfolding under_way
  under_way_lem s ds a b = ap runs? (a b) ∙ go (track_of s b).walk
    where
      go : (w : Walk) → runs? (last_post b (track_of s b).cvt w) ≡ not (is_settled w)
      go Settled = refl
      go (Turn p a) = refl
