-- Examples of a run, by computation: a refused step does not end it, what is said stands in its answer, and each refusal of a call with the buffer
-- as it came.
use Prim.Native.Nat.{ℕ}
use mathlib.Core.Path.{refl}
use mathlib.Core.List.{List, [], ◌∷◌, ◌++◌}
use lib.ListN.{replicate}
use Rattle.section.specs.declared.Section.{Section}
use Rattle.section.specs.Outcome.{refusal_number, refusal_index, if_done}
use Rattle.section.specs.Words.{said_by, said_number, track_letter, letter}
use Rattle.rules.proofs.Days.{telephone, fresh, refusals}
use Rattle.rules.proofs.Rows.{◌gives◌, Holds}
use Rattle.layout.specs.Layout.{step_at, step_count}
use Rattle.file_tests.specs.Tests.{well_at, leading, first_malformed, some_malformed}
use Rattle.text.specs.Text.{written, first_texts}
use Rattle.notes.specs.Note.{answer_by}
use Rattle.judging_in_place.specs.Offered.{section_before, answer_to}
use Rattle.judging_in_place.specs.Entries.{entry_of, entry_on, entries_of}
use Rattle.section.specs.Refusal.{call_figure, index_of, refusal_by}
use Rattle.run.specs.Run.{too_much, outcome_of, answers_after}

-- the refusal of the call, its index, and the buffer afterwards, every byte of which was 255
unfoldable pub ran : Section → List ℕ → ℕ → List ℕ
unfolding refusals too_much outcome_of refusal_by call_figure refusal_index index_of if_done answers_after section_before answer_to entry_of
    entry_on entries_of answer_by
    said_by said_number track_letter letter step_at step_count well_at leading first_malformed some_malformed written first_texts
ran s steps room =
    refusal_number (outcome_of s steps room) ∷ (refusal_index (outcome_of s steps room) ∷ answers_after s steps (replicate room 255))

-- a step of that kind at that post of A, without a number
abbrev at : ℕ → ℕ → List ℕ
at kind post = kind ∷ 0 ∷ post ∷ 0 ∷ 0 ∷ 0 ∷ 0 ∷ 0 ∷ []

-- start of train 7 at that post of A
abbrev start_at : ℕ → List ℕ
start_at post = 5 ∷ 0 ∷ post ∷ 0 ∷ 7 ∷ 0 ∷ 0 ∷ 0 ∷ []

-- three posts, all signalled, and a line whose end post is not
abbrev line : Section
line = fresh (telephone 3 7)

abbrev wrong_line : Section
wrong_line = fresh (telephone 3 3)

pub runs :
    Holds
    -- "a refused step does not end the run, and alters nothing but its own answer"; "bytes past them stay"
    ((ran line (start_at 1 ++ start_at 0 ++ start_at 0) 7 gives 0 ∷ 0 ∷ 12 ∷ 0 ∷ 0 ∷ 0 ∷ 17 ∷ 0 ∷ 255 ∷ [])
    -- "0 or the refusal, then what is said": measures on, order, set and announce CVT
    ∷ (ran line (at 8 0 ++ at 1 0 ++ at 2 0 ++ at 3 0) 8 gives 0 ∷ 0 ∷ 0 ∷ 0 ∷ 0 ∷ 0 ∷ 0 ∷ 0 ∷ 0 ∷ 1 ∷ [])
    -- no steps, no answers
    ∷ (ran line [] 1 gives 0 ∷ 0 ∷ 255 ∷ [])
    -- "6" before "a malformed step"
    ∷ (ran wrong_line (at 0 0) 0 gives 6 ∷ 0 ∷ [])
    -- "a malformed step .. 4 with its index", before "a short buffer"
    ∷ (ran line (start_at 0 ++ at 0 0) 3 gives 4 ∷ 1 ∷ 255 ∷ 255 ∷ 255 ∷ [])
    -- "an incomplete last one too"
    ∷ (ran line (start_at 0 ++ (5 ∷ 0 ∷ [])) 4 gives 4 ∷ 1 ∷ 255 ∷ 255 ∷ 255 ∷ 255 ∷ [])
    -- "a short buffer .. 5"
    ∷ (ran line (start_at 1 ++ start_at 0) 3 gives 5 ∷ 0 ∷ 255 ∷ 255 ∷ 255 ∷ [])
    ∷ [])
unfolding ran fresh
runs = refl
