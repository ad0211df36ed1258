-- A step tried first (document 02, request 2).
use Rattle.std.specs.Prelude.{ℕ, List, [], ◌∷◌, ◌≡◌, get_or}
use Rattle.section.specs.declared.Section.{Section}
use Rattle.section.specs.Refusal.{Verdict}
use Rattle.rules.specs.Demand3.{state_after}
use Rattle.rules.specs.Indications.{dark, indications, track_indications}
use Rattle.rules.specs.Judge.{judge}
use Rattle.engine.specs.declared.previews.Previewed.{Previewed}

-- "The preview equals taking the step on a copy of the section, refusals included, and the section itself comes back as it was."
unfoldable pub preview : Section → List ℕ → Previewed
preview s bytes = record {
  verdict = (judge s bytes).verdict;
  a = track_indications (judge s bytes).section 0;
  b = track_indications (judge s bytes).section 1;
  section = s;
}

-- the same answer, and the section as it was
abbrev pub AnswersAsJudging : Type 0
AnswersAsJudging = (s : Section) (bytes : List ℕ) → ((preview s bytes).verdict ≡ (judge s bytes).verdict) × ((preview s bytes).section ≡ s)

-- "the answer and all indications after a step": at place p what post p shows in the section that judging gives
abbrev pub ShowsTheSectionAfter : Type 0
ShowsTheSectionAfter =
    (s : Section) (bytes : List ℕ) (p : ℕ)
    → (get_or (preview s bytes).a p dark ≡ indications (judge s bytes).section 0 p)
    × (get_or (preview s bytes).b p dark ≡ indications (judge s bytes).section 1 p)

-- ## Previews among the steps of a day

-- what a tester asks: a step taken, or a step tried
pub data Request : Type 0 where
  Taken : List ℕ → Request
  Tried : List ℕ → Request

-- the steps that are taken
unfoldable pub steps_taken : List Request → List (List ℕ)
steps_taken [] = []
steps_taken (Taken bytes ∷ day) = bytes ∷ steps_taken day
steps_taken (Tried bytes ∷ day) = steps_taken day

-- the answers to the steps taken, each request made on the section that the one before handed back
unfoldable pub answers_to : Section → List Request → List Verdict
answers_to s [] = []
answers_to s (Taken bytes ∷ day) = (judge s bytes).verdict ∷ answers_to (judge s bytes).section day
answers_to s (Tried bytes ∷ day) = answers_to (preview s bytes).section day

-- the section at the end
unfoldable pub section_after_day : Section → List Request → Section
section_after_day s [] = s
section_after_day s (Taken bytes ∷ day) = section_after_day (judge s bytes).section day
section_after_day s (Tried bytes ∷ day) = section_after_day (preview s bytes).section day

-- the answers to a list of steps
unfoldable pub verdicts_of : Section → List (List ℕ) → List Verdict
verdicts_of s [] = []
verdicts_of s (bytes ∷ offered) = (judge s bytes).verdict ∷ verdicts_of (judge s bytes).section offered

-- previews in between leave a day's answers and its end as they are
abbrev pub PreviewsLeaveTheDay : Type 0
PreviewsLeaveTheDay =
    (s : Section) (day : List Request)
    → (answers_to s day ≡ verdicts_of s (steps_taken day)) × (section_after_day s day ≡ state_after s (steps_taken day))
