-- The plain words on previews, from the three statements alone: the section comes back, so taking the step after trying it is taking it; what is
-- tried takes no step; and answers and end of a day are those of its steps.
use Prim.Native.Nat.{ℕ}
use mathlib.Core.List.{List, [], ◌∷◌, map}
use mathlib.Core.Path.{◌≡◌, refl, sym, ◌∙◌, ap}
use Rattle.section.specs.declared.Section.{Section}
use Rattle.rules.specs.Demand3.{state_after}
use Rattle.rules.specs.Indications.{indications}
use Rattle.rules.specs.Judge.{judge}
use Rattle.engine.specs.Preview.{AnswersAsJudging, ShowsTheSectionAfter, Taken, Tried, PreviewsLeaveTheDay, steps_taken, verdicts_of}
use Rattle.engine.specs.PreviewInPlainWords.{PreviewInPlainWords}
use Rattle.engine.proofs.PreviewLaws.{answers_as_judging, shows_the_section_after, previews_leave_the_day}

tried_takes_none : (tried : List (List ℕ)) → steps_taken (map Tried tried) ≡ []
unfolding steps_taken
tried_takes_none [] = refl
tried_takes_none (bytes ∷ tried) = tried_takes_none tried

none_taken : (s : Section) → state_after s [] ≡ s
unfolding state_after
none_taken s = refl

module _ (answers : AnswersAsJudging) (shows : ShowsTheSectionAfter) (leaves : PreviewsLeaveTheDay) where
  from_the_statements : PreviewInPlainWords
  from_the_statements = record {
    told_then_given = λ s bytes. ap (λ (u : Section). (judge u bytes).verdict) (answers s bytes).1 ∙ sym (answers s bytes).0;
    shown_then_seen = λ s bytes p. (
      ap (λ (u : Section). indications (judge u bytes).section 0 p) (answers s bytes).1 ∙ sym (shows s bytes p).0,
      ap (λ (u : Section). indications (judge u bytes).section 1 p) (answers s bytes).1 ∙ sym (shows s bytes p).1,
    );
    trying_changes_nothing = λ s tried. (leaves s (map Tried tried)).1 ∙ ap (state_after s) (tried_takes_none tried) ∙ none_taken s;
    only_what_is_taken_counts = λ s one other same. (
      (leaves s one).0 ∙ ap (verdicts_of s) same ∙ sym (leaves s other).0,
      (leaves s one).1 ∙ ap (state_after s) same ∙ sym (leaves s other).1,
    );
  }

pub preview_in_plain_words : PreviewInPlainWords
preview_in_plain_words = from_the_statements answers_as_judging shows_the_section_after previews_leave_the_day

-- the steps that are taken, of a day that tries others before, between and after them
pub taken_among_tried :
    steps_taken (Tried (1 ∷ []) ∷ Taken (2 ∷ []) ∷ Tried (3 ∷ []) ∷ Taken (4 ∷ []) ∷ Tried (5 ∷ []) ∷ []) ≡ ((2 ∷ []) ∷ (4 ∷ []) ∷ [])
unfolding steps_taken
taken_among_tried = refl
