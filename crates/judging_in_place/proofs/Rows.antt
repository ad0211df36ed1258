-- The two tracks side by side, before and after a step.
use Prim.Native.Nat.{ℕ, ◌-◌}
use mathlib.Core.Bool.{Bool, true, false, not}
use mathlib.Core.List.{List}
use mathlib.Core.Path.{◌≡◌, refl, sym, ◌∙◌, ap, subst}
use native.Mathlib.Omega.{arith}
use lib.ListN.{length, set}
use lib.Seq.{get_or-set_same, get_or-set_other}
use mir.Val.{bool_byte as from_bool}
use Rattle.std.specs.Prelude.{Some}
use Rattle.section.specs.declared.Settings.{Settings}
use Rattle.section.specs.declared.Section.{Section}
use Rattle.section.specs.declared.Track.{Track}
use Rattle.section.specs.declared.TrackStep.{TrackStep}
use Rattle.section.specs.Refusal.{Verdict}
use Rattle.section.specs.Range.{in_range}
use Rattle.section.specs.Step.{decoded, post_of}
use Rattle.section.specs.Store.{track_of, with_track}
use Rattle.rules.specs.declared.Line.{Line}
use Rattle.rules.specs.Line.{line_of}
use Rattle.rules.specs.Site.{site_on}
use Rattle.rules.specs.Judge.{judge_in_range}
use Rattle.site.specs.declared.running.Running.{Running}
use Rattle.site.specs.Running.{running_of}
use Rattle.site.specs.InItsRanges.{InItsRanges}
use Rattle.judging.specs.OnTrack.{answer_on, judged_on_track}
use Rattle.judging.proofs.at_post.OnTrack.{in_ranges}
use Rattle.judging.proofs.on_track.OnTrack.{judged}
use Rattle.judging_in_place.specs.Tracks.{no_track, track_at, section_of, answer_in}

module _ (c : Settings) (tracks : List Track) where
  abbrev s : Section
  s = section_of c tracks

  -- a track stands at its place, the other at the other
  own_row : (k : Bool) → track_at tracks (from_bool k) ≡ track_of s k
  own_row true = refl
  own_row false = refl

  other_row : (k : Bool) → track_at tracks (1 - from_bool k) ≡ track_of s (not k)
  other_row true = refl
  other_row false = refl

  -- what is written at a track's place is the section's track
  row_after : (t : Track) → length tracks ≡ 2 → (k : Bool) → section_of c (set tracks (from_bool k) t) ≡ with_track s k t
  row_after t two true =
      rw (get_or-set_other tracks 1 0 t no_track (λ e. omega arith), get_or-set_same tracks 1 t no_track (omega arith)) refl
  row_after t two false =
      rw (get_or-set_same tracks 0 t no_track (omega arith), get_or-set_other tracks 0 1 t no_track (λ e. omega arith)) refl

  -- ## A well-formed step

  module _
      (bytes : List ℕ)
      (x : TrackStep)
      (well : decoded c.posts bytes ≡ Some x)
      {k : ℕ}
      (ek : k ≡ from_bool x.track)
      {line : Line}
      (el : line ≡ line_of c) where
    here : track_at tracks k ≡ track_of s x.track
    here = ap (track_at tracks) ek ∙ own_row x.track

    pub in_ranges_at : in_range s ≡ true → InItsRanges line (site_on x.track (post_of x.step) (track_at tracks k))
    in_ranges_at h =
        subst (λ (l : Line). InItsRanges l (site_on x.track (post_of x.step) (track_at tracks k))) (sym el)
        (subst (λ (t : Track). InItsRanges (line_of c) (site_on x.track (post_of x.step) t)) (sym here) (in_ranges s bytes x well h))

    -- what the step leaves, written at its track's place
    pub judged_at :
        length tracks ≡ 2 → {other : Running} {t : Track} {v : Verdict} → other ≡ running_of (track_at tracks (1 - k))
        → answer_on t v ≡ judged_on_track line x (track_at tracks k) other → answer_in (section_of c (set tracks k t)) v ≡ judge_in_range s bytes
    judged_at two {other} {t} {v} eo told =
        let beside : other ≡ running_of (track_of s (not x.track)) =
        eo ∙ ap running_of (ap (λ (i : ℕ). track_at tracks (1 - i)) ek ∙ other_row x.track) in
        let on_it : answer_on t v ≡ judged_on_track line x (track_at tracks k) other = told in
        ap (λ (u : Section). answer_in u v) (ap (λ (i : ℕ). section_of c (set tracks i t)) ek ∙ row_after t two x.track)
        ∙ judged s bytes x well x.track refl el here beside on_it
