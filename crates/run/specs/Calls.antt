-- Calls one after another, each on the section that the one before left: what two calls give that one would, and demand 3 along them. The proofs
-- are in proofs/Calls.antt.
use Rattle.std.specs.Prelude.{ℕ, ◌+◌, ◌*◌, ◌≤◌, true, List, [], ◌∷◌, ◌++◌, ◌≡◌, length}
use Rattle.std.specs.Prelude.{Ok}
use Rattle.section.specs.Refusal.{Outcome}
use Rattle.section.specs.declared.Section.{Section}
use Rattle.section.specs.declared.Settings.{Settings}
use Rattle.section.specs.Fresh.{fresh_section}
use Rattle.section.specs.Numbers.{step_length}
use Rattle.section.specs.Outcome.{if_done}
use Rattle.section.specs.Settings.{settings_in_range}
use Rattle.rules.specs.Demand3.{accepted_steps, Claim}
use Rattle.layout.specs.Layout.{most_steps, step_count}
use Rattle.notes.specs.Note.{answer_length}
use Rattle.judging_in_place.specs.Offered.{offered_of}
use Rattle.judging_in_place.specs.Entries.{answers, entries_of}
use Rattle.run.specs.Run.{outcome_of, run_of}

-- ## Two calls are one

-- Two calls that are done, one on the section that the other left, are one call with all steps, where it has not too many and its buffer is long
-- enough: as many steps, the same section, and the answers one after another.
abbrev pub TwoCallsAreOne : Type 0
TwoCallsAreOne =
    (s : Section) (one other : List ℕ) (room rest whole k m : ℕ) → outcome_of s one room ≡ Ok k →
    outcome_of (run_of s one room).section other rest ≡ Ok m → k + m ≤ most_steps → answer_length * (k + m) ≤ whole →
    (outcome_of s (one ++ other) whole ≡ Ok (k + m))
    × (((run_of s (one ++ other) whole).section ≡ (run_of (run_of s one room).section other rest).section)
    × (entries_of answers s (one ++ other) (k + m) ≡ entries_of answers s one k ++ entries_of answers (run_of s one room).section other m))

-- A call that is done can be made in two, at any step, with room for the answers of each: both are done.
abbrev pub OneCallIsTwo : Type 0
OneCallIsTwo =
    (s : Section) (one other : List ℕ) (room rest whole k m : ℕ) → outcome_of s (one ++ other) whole ≡ Ok (k + m) →
    length one ≡ step_length * k → answer_length * k ≤ room → answer_length * m ≤ rest →
    (outcome_of s one room ≡ Ok k) × (outcome_of (run_of s one room).section other rest ≡ Ok m)

-- ## Demand 3 along calls

-- a call: the steps handed over, and how long the buffer is
pub record Call : Type 0 where
  pub steps : List ℕ
  pub room : ℕ

-- the section at the end, each call made on the one that the call before left
unfoldable pub section_after_calls : Section → List Call → Section
section_after_calls s [] = s
section_after_calls s (call ∷ calls) = section_after_calls (run_of s call.steps call.room).section calls

-- the steps that a call offers: none if it is refused
unfoldable pub steps_of_call : Outcome → List ℕ → List (List ℕ)
steps_of_call outcome steps = if_done outcome (offered_of steps (step_count steps)) []

unfoldable pub steps_of_calls : Section → List Call → List (List ℕ)
steps_of_calls s [] = []
steps_of_calls s (call ∷ calls) =
    steps_of_call (outcome_of s call.steps call.room) call.steps ++ steps_of_calls (run_of s call.steps call.room).section calls

-- demand 3 speaks of calls from fresh, refused ones too, as of their steps
abbrev pub Demand3OfCalls : Type 0
Demand3OfCalls =
    (c : Settings) → settings_in_range c ≡ true → (calls : List Call) →
    Claim c (section_after_calls (fresh_section c) calls) (accepted_steps (fresh_section c) (steps_of_calls (fresh_section c) calls))
