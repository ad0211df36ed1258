-- At most one post of a track may start trains: the sending end. Only a sending end has permission or is let through by the checks of a start,
-- and only while its track is settled; a post of rank 0 is the only one.
use Prim.Native.Nat.{ℕ, ◌<◌}
use mathlib.Core.Bool.{Bool, true, false, not}
use mathlib.Core.Path.{◌≡◌, refl, sym, ap, ◌∙◌, subst}
use native.Mathlib.Omega.{arith}
use Rattle.std.specs.Prelude.{Ok, Err}
use Rattle.section.specs.Numbers.{start_kind}
use Rattle.section.specs.declared.Settings.{Settings}
use Rattle.section.specs.declared.Said.{Said}
use Rattle.section.specs.declared.Refusal.{Refusal}
use Rattle.section.specs.Refusal.{Verdict}
use Rattle.section.specs.declared.Walk.{Walk}
use Rattle.section.specs.declared.Walk.TheVariants.{Settled, Turn}
use Rattle.section.specs.declared.Track.{Track}
use Rattle.section.specs.declared.Section.{Section}
use Rattle.section.specs.Geometry.{upward, rank}
use Rattle.section.specs.Settings.{settings_in_range}
use Rattle.section.specs.Step.{kind_of}
use Rattle.section.specs.Store.{track_of}
use Rattle.section.proofs.Laws.{rank_rank, rank_inj}
use Rattle.rules.specs.declared.Line.{Line}
use Rattle.rules.specs.Site.{is_settled, other_settled_on_vns}
use Rattle.rules.specs.Table.{checks}
use Rattle.rules.specs.Judge.{judge}
use Rattle.rules.specs.Demand3.{AcceptedStep, track, post, kind, sending_end, MayStart, permission, start}
use Rattle.rules.proofs.Facts.{first_rank}
use Rattle.rules.proofs.View.{order, set_device, announce, acknowledge, key, pass, leave, measures, fault, caution, View, walks, runs, notes, releases}
use Rattle.rules.proofs.View.{flat, post_flat, Seen, on, as_step}
use Rattle.rules.proofs.View as view
use Rattle.rules.proofs.Reading.{Says, decoded_says}
use Rattle.rules.proofs.Accept.{AcceptedOn, line, AcceptedIn, Judged, refused, accepted, judged}
use Rattle.rules.proofs.Held.{start_held}
use Rattle.rules.proofs.Ranges.{rank_on}
use Rattle.rules.proofs.Invariant.{MayHold}
use Rattle.rules.proofs.Reached.{Reached, reached_in_range}

module _ (c : Line) where
  -- a step of kind 5 is a start
  start_first : (v b : Bool) (p : ℕ) (k : View) (t : Track) → kind_of (flat p k) ≡ start_kind → AcceptedOn c v b p k t
      → (rank_on c b t.cvt p ≡ 0) × (is_settled t.walk ≡ true)
  unfolding checks flat kind_of
  start_first v b p (walks order) t e h = absurd (omega arith)
  start_first v b p (walks set_device) t e h = absurd (omega arith)
  start_first v b p (walks announce) t e h = absurd (omega arith)
  start_first v b p (walks acknowledge) t e h = absurd (omega arith)
  start_first v b p (walks key) t e h = absurd (omega arith)
  start_first v b p (runs view.start z) t e h = (first_rank c.posts (upward b t.cvt) p (start_held h).first, (start_held h).settled)
  start_first v b p (runs pass z) t e h = absurd (omega arith)
  start_first v b p (runs leave z) t e h = absurd (omega arith)
  start_first v b p (notes (measures true)) t e h = absurd (omega arith)
  start_first v b p (notes (measures false)) t e h = absurd (omega arith)
  start_first v b p (notes (fault true f)) t e h = absurd (omega arith)
  start_first v b p (notes (fault false f)) t e h = absurd (omega arith)
  start_first v b p (notes (caution z)) t e h = absurd (omega arith)
  start_first v b p (releases z) t e h = absurd (omega arith)

module _ (c : Settings) where
  abbrev Sends : Section → Bool → ℕ → Type 0
  Sends s b p = (p < c.posts) × ((rank c.posts (upward b (track_of s b).cvt) p ≡ 0) × (is_settled (track_of s b).walk ≡ true))

  not_refused : (v : Verdict) (w : Said) (k : Refusal) → v ≡ Ok w → v ≡ Err k → ⊥
  not_refused v w k e f = let z : ◌≡◌ {A = ℕ} 0 1 = cc in omega arith

  start_sends : (s : Section) (d : AcceptedStep) (x : Seen) → kind d ≡ start_kind → Says c.posts d.bytes (as_step x) → AcceptedIn c s x
      → Sends s (track d) (post d)
  unfolding AcceptedIn
  start_sends s d (on b p k) e h ok =
      subst (λ t. Sends s t (post d)) h.track_is (subst (Sends s b) (sym (post_flat p k) ∙ h.fields.post_is)
      (ok.fits.below, start_first (line c s) (other_settled_on_vns s b) b p k (track_of s b) (h.fields.kind_is ∙ e) ok))

  may_start_sends : settings_in_range c ≡ true → (s : Section) (b : Bool) (p : ℕ) → Reached c s → MayStart c s b p → Sends s b p
  may_start_sends right s b p r (permission p<n h) = (p<n, go (track_of s b).walk ((r.sound b).permits p p<n h))
    where
      at : ℕ
      at = rank c.posts (upward b (track_of s b).cvt) p

      go : (w : Walk) → MayHold (line c s) b w at → (at ≡ 0) × (is_settled w ≡ true)
      go Settled e = (e, refl)
      go (Turn q a) e = absurd e
  may_start_sends right s b p r (start d ek et ep ev) =
      subst (λ b. Sends s b p) et (subst (Sends s (track d)) ep (go (judged c s r.settings (reached_in_range c right s r) d.bytes)))
    where
      go : Judged c s r.settings (reached_in_range c right s r) d.bytes → Sends s (track d) (post d)
      go (refused k e) = absurd (not_refused (judge s d.bytes).verdict d.said k ev (ap (λ a. a.verdict) e))
      go (accepted x q ok e) = start_sends s d x ek (decoded_says c.posts d.bytes (as_step x) q) ok

  pub one_starter : settings_in_range c ≡ true → (s : Section) (b : Bool) → Reached c s → (p q : ℕ) → MayStart c s b p → MayStart c s b q → p ≡ q
  one_starter right s b r p q f g =
      let a = may_start_sends right s b p r f in
      let d = may_start_sends right s b q r g in
      rank_inj c.posts (upward b (track_of s b).cvt) p q a.0 d.0 (a.1.0 ∙ sym d.1.0)

  -- the sending end, on a settled track
  pub starter : settings_in_range c ≡ true → (s : Section) (b : Bool) → Reached c s → (p : ℕ) → MayStart c s b p
      → {under : Bool} → under ≡ not (is_settled (track_of s b).walk) → (p ≡ sending_end c b (track_of s b)) × (under ≡ false)
  starter right s b r p f agrees =
      let a = may_start_sends right s b p r f in (
        sym (rank_rank c.posts (upward b (track_of s b).cvt) p a.0) ∙ ap (rank c.posts (upward b (track_of s b).cvt)) a.1.0,
        agrees ∙ ap not a.1.1,
      )
