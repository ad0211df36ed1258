-- A run of steps in one call (document 02, request 4).
use Rattle.std.specs.Prelude.{ℕ, ◌*◌, Bool, not, ◌||◌, cond, List, ◌≡◌, ltb, length}
use Rattle.std.specs.Prelude.{Ok, Err}
use Rattle.section.specs.declared.CallRefusal.TheVariants.{MalformedStep, NoRoom, StateOutOfRange}
use Rattle.section.specs.Refusal.{Outcome}
use Rattle.section.specs.declared.Section.{Section}
use Rattle.section.specs.Outcome.{refusal_number, refusal_index, if_done}
use Rattle.section.specs.Range.{in_range}
use Rattle.layout.specs.Layout.{most_steps, step_count}
use Rattle.file_tests.specs.Tests.{first_malformed, some_malformed}
use Rattle.text.specs.Text.{written}
use Rattle.notes.specs.Note.{answer_length}
use Rattle.judging_in_place.specs.Offered.{section_before}
use Rattle.judging_in_place.specs.Entries.{answers, entries_of}
use Rattle.run.specs.declared.RunAnswer.{RunAnswer}

-- ## The outcome

-- "up to 4,096 steps and a buffer for their answers"
unfoldable pub too_much : ℕ → ℕ → Bool
too_much count room = ltb most_steps count || ltb room (answer_length * count)

-- "In this order, before the first is taken: 6, a malformed step (an incomplete last one too) 4 with its index, a short buffer or too many
-- steps 5." Else how many steps are taken.
unfoldable pub outcome_of : Section → List ℕ → ℕ → Outcome
outcome_of s steps room =
    cond (not (in_range s)) (Err StateOutOfRange)
    (cond (some_malformed s.settings.posts steps) (Err (MalformedStep (first_malformed s.settings.posts steps)))
    (cond (too_much (step_count steps) room) (Err NoRoom)
    (Ok (step_count steps))))

-- 4 is not given without the index of the first malformed step
abbrev pub IndexOfTheFirst : Type 0
IndexOfTheFirst =
    (s : Section) (steps : List ℕ) (room : ℕ) → refusal_number (outcome_of s steps room) ≡ 4 →
    refusal_index (outcome_of s steps room) ≡ first_malformed s.settings.posts steps

-- ## The section and the buffer afterwards

-- "Result, answers and state equal offering them singly": each step judged on the section that the one before left. A refused call leaves the
-- section as it came.
unfoldable pub run_of : Section → List ℕ → ℕ → RunAnswer
run_of s steps room = record {
  outcome = outcome_of s steps room;
  section = if_done (outcome_of s steps room) (section_before s steps (step_count steps)) s;
}

-- the answers at the buffer's front: "bytes past them stay". A refused call leaves the buffer as it came.
unfoldable pub answers_after : Section → List ℕ → List ℕ → List ℕ
answers_after s steps buffer =
    if_done (outcome_of s steps (length buffer)) (written buffer 0 (entries_of answers s steps (step_count steps))) buffer
