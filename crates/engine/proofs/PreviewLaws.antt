-- A step tried first. Both ways of a preview give what its definition says: judging answers 6 just where the section is out of its ranges, and
-- there every list is dark; in them judging keeps the ranges, so both tracks of the section after the step can be shown. A preview hands back the
-- section that came, so a day goes on as without it.
use Prim.Native.Nat.{ℕ}
use mathlib.Core.Bool.{Bool, true, false}
use mathlib.Core.List.{List, [], ◌∷◌}
use mathlib.Core.Path.{◌≡◌, refl, sym, ◌∙◌, ap}
use lib.ListN.{replicate}
use Rattle.std.specs.Prelude.{Err}
use Rattle.section.specs.declared.Refusal.TheVariants.{OutOfRange}
use Rattle.section.specs.declared.Answer.{Answer}
use Rattle.section.specs.declared.Indications.{Indications}
use Rattle.section.specs.declared.Section.{Section}
use Rattle.section.specs.Refusal.{Verdict, figure}
use Rattle.section.specs.Numbers.{most_posts}
use Rattle.section.specs.Range.{in_range}
use Rattle.section.specs.Words.{refusal_of}
use Rattle.rules.specs.Demand3.{state_after}
use Rattle.rules.specs.Indications.{dark, track_indications}
use Rattle.rules.specs.Judge.{judge}
use Rattle.rules.proofs.OnlyOutOfRange.{only_out_of_range, out_of_range_gives_6}
use Rattle.rules.proofs.RangeLaw.{ranges_kept}
use Rattle.indications.proofs.track.Laws.{dark_out, at_its_place}
use Rattle.engine.specs.Preview.{preview, AnswersAsJudging, ShowsTheSectionAfter, Taken, Tried, PreviewsLeaveTheDay}
use Rattle.engine.specs.Preview.{steps_taken, answers_to, section_after_day, verdicts_of}
use Rattle.engine.specs.declared.previews.Previewed.{Previewed}

-- ## The two ways of a preview

pub out_of_range_is :
    (s : Section) (bytes : List ℕ) → in_range s ≡ false
    → ◌≡◌ {A = Previewed} (record { verdict = Err OutOfRange; a = replicate most_posts dark; b = replicate most_posts dark; section = s }) (preview s bytes)
unfolding preview judge
out_of_range_is s bytes h = rw (h, ← dark_out s 0 h, ← dark_out s 1 h)

module _ (s : Section) (bytes : List ℕ) {w : Answer} {k : ℕ} (ew : w ≡ judge s bytes) (ek : k ≡ refusal_of w.verdict) where
  pub answered_6 : {n : ℕ} → n ≡ figure OutOfRange → k ≡ n → in_range s ≡ false
  unfolding figure
  answered_6 six e = only_out_of_range s bytes (ap (λ (a : Answer). refusal_of a.verdict) (sym ew) ∙ sym ek ∙ e ∙ six)

  -- with any other answer the section is in its ranges, and so is the one that judging gives
  pub after_in_range : {n : ℕ} → n ≡ figure OutOfRange → (k ≡ n → ⊥) → in_range w.section ≡ true
  unfolding figure
  after_in_range six other = rw ew (go (in_range s) refl)
    where
      go : (b : Bool) → in_range s ≡ b → in_range (judge s bytes).section ≡ true
      go true r = ranges_kept s bytes r
      go false r = absurd (other (ek ∙ (rw ew (out_of_range_gives_6 s bytes r)) ∙ sym six))

  pub tried_is :
      {a b : List Indications} → a ≡ track_indications w.section 0 → b ≡ track_indications w.section 1
      → ◌≡◌ {A = Previewed} (record { verdict = w.verdict; a = a; b = b; section = s }) (preview s bytes)
  unfolding preview
  tried_is ea eb = rw (ea, eb, ew)

-- ## The theorems

pub answers_as_judging : AnswersAsJudging
unfolding preview
answers_as_judging s bytes = (refl, refl)

pub shows_the_section_after : ShowsTheSectionAfter
unfolding preview
shows_the_section_after s bytes p = (at_its_place (judge s bytes).section 0 p, at_its_place (judge s bytes).section 1 p)

pub previews_leave_the_day : PreviewsLeaveTheDay
unfolding preview steps_taken answers_to section_after_day verdicts_of state_after
previews_leave_the_day s [] = (refl, refl)
previews_leave_the_day s (Taken bytes ∷ day) =
    let rest = previews_leave_the_day (judge s bytes).section day in
    (ap (λ (l : List Verdict). (judge s bytes).verdict ∷ l) rest.0, rest.1)
previews_leave_the_day s (Tried bytes ∷ day) = previews_leave_the_day s day
