-- What a step judged at its site leaves, put in its places, is what judging the section says.
use Prim.Native.Nat.{ℕ}
use mathlib.Core.Bool.{Bool, true, false}
use mathlib.Core.List.{List, [], ◌∷◌}
use mathlib.Core.Path.{◌≡◌, refl, sym, ap}
use lib.Seq.{set-get_or}
use Rattle.std.specs.Prelude.{Some, None, Option}
use Rattle.section.specs.declared.Refusal.TheVariants.{Malformed as malformed_step}
use Rattle.section.specs.declared.Refusal.{Refusal}
use Rattle.section.specs.declared.Track.{Track}
use Rattle.section.specs.declared.Section.{Section}
use Rattle.section.specs.declared.TrackStep.{TrackStep}
use Rattle.section.specs.Post.{blank}
use Rattle.section.specs.Range.{in_range}
use Rattle.section.specs.Step.{decoded, post_of}
use Rattle.section.specs.Store.{track_of, with_track, post_on}
use Rattle.section.proofs.Codec.{decoded_post_below}
use Rattle.section.proofs.Laws.{settings_in_range_lem, track_in_range_lem}
use Rattle.rules.specs.declared.Effect.{Effect}
use Rattle.rules.specs.Site.{site_on, other_settled_on_vns}
use Rattle.rules.specs.Line.{line_in}
use Rattle.rules.specs.Table.{Check, ◌else◌, effect, track_after}
use Rattle.rules.specs.Judge.{verdict_of, answer_of, site_of, verdict_on, section_after, judge_step, judge_decoded, judge_in_range}
use Rattle.rules.proofs.SectionAfter.{one_track_after}
use Rattle.std.specs.Prelude.{Ok, Err}
use Rattle.site.specs.Ruling.{row_at, ruling_of}
use Rattle.site.specs.declared.running.Running.{Running}
use Rattle.site.specs.Running.{running_of, site_with}
use Rattle.site.specs.InItsRanges.{InItsRanges}
use Rattle.site.proofs.running.Laws.{in_its_ranges}
use Rattle.judging.specs.declared.at_post.PostAnswer.{PostAnswer}
use Rattle.judging.specs.AtPost.{judged_of, judged_at_post, trains_at, last_at, track_at}

-- the site at the post, and of the track, that the code has found
pub site_in :
    (x : TrackStep) (t : Track) {p : ℕ} {r : Running} → p ≡ post_of x.step → r ≡ running_of t
    → site_with x.track (post_of x.step) (post_on t p) r ≡ site_on x.track (post_of x.step) t
site_in x t ep er = rw (ep, er)

-- a track put back as it was
same_track : (s : Section) (k : Bool) → with_track s k (track_of s k) ≡ s
same_track s true = refl
same_track s false = refl

-- the ruling, and the table's verdict with it
data Ruled (ks : List Check) (f : Effect) : Type 0 where
  accepts : ruling_of ks f ≡ Ok f → verdict_of ks f.said ≡ Ok f.said → Ruled ks f
  refuses : (k : Refusal) → ruling_of ks f ≡ Err k → verdict_of ks f.said ≡ Err k → Ruled ks f

ruled_next : (b : Bool) (k : Refusal) (ks : List Check) (f : Effect) → Ruled ks f → Ruled ((b else k) ∷ ks) f
unfolding ruling_of verdict_of
ruled_next true k ks f (accepts r v) = accepts r v
ruled_next true k ks f (refuses n r v) = refuses n r v
ruled_next false k ks f past = refuses k refl refl

ruled : (ks : List Check) (f : Effect) → Ruled ks f
unfolding ruling_of verdict_of
ruled [] f = accepts refl refl
ruled (k ∷ ks) f = ruled_next k.holds k.refusal ks f (ruled ks f)

-- a step judged at its site is a step judged on the section: an accepted one leaves the table's track, a refused one the track as it was
module _ (s : Section) (x : TrackStep) where
  abbrev own : Track
  own = track_of s x.track

  abbrev judged_here : PostAnswer
  judged_here = judged_at_post (line_in s) (other_settled_on_vns s x.track) x.step (site_of s x) own.trains own.last

  abbrev after : Section
  after = with_track s x.track (track_at (line_in s) (other_settled_on_vns s x.track) x.step (site_of s x) own)

  by_ruling : Ruled (row_at (line_in s) (other_settled_on_vns s x.track) x.step (site_of s x) own.trains own.last)
      (effect (line_in s) x.step (site_of s x))
      → record { verdict = judged_here.verdict; section = after } ≡ answer_of (verdict_on s x) s (section_after s x)
  unfolding verdict_on answer_of track_at judged_at_post trains_at last_at judged_of track_after
  by_ruling (accepts r v) =
      rw (r, v)
      (ap (λ (t : Section). record { verdict = Ok (effect (line_in s) x.step (site_of s x)).said; section = t })
      (sym (one_track_after s x)))
  by_ruling (refuses k r v) =
      rw (r, v, set-get_or own.posts (post_of x.step) blank) (ap (λ (t : Section). record { verdict = Err k; section = t }) (same_track s x.track))

  pub step_judged : record { verdict = judged_here.verdict; section = after } ≡ judge_step s x
  unfolding judge_step
  step_judged = by_ruling (ruled _ _)

-- ## From bytes

module _ (s : Section) (bytes : List ℕ) where
  decodes : {d : Option TrackStep} → decoded s.settings.posts bytes ≡ d → judge_decoded s d ≡ judge_in_range s bytes
  unfolding judge_in_range
  decodes k = rw k

  pub malformed : decoded s.settings.posts bytes ≡ None → record { verdict = Err malformed_step; section = s } ≡ judge_in_range s bytes
  unfolding judge_decoded
  malformed k = decodes k

  module _ (x : TrackStep) (well : decoded s.settings.posts bytes ≡ Some x) where
    pub in_ranges : in_range s ≡ true → InItsRanges (line_in s) (site_of s x)
    in_ranges h =
        in_its_ranges
        s.settings
        x.track
        (track_of s x.track)
        (post_of x.step)
        (settings_in_range_lem s h)
        (track_in_range_lem s h x.track)
        (decoded_post_below s.settings.posts bytes x well)

    pub judged : judge_step s x ≡ judge_in_range s bytes
    unfolding judge_decoded
    judged = decodes well
