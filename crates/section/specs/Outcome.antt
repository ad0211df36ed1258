-- The outcome of a call, whatever it gives where it is done: the paper's number and index (document 01, "Refusals from the input").
use Rattle.std.specs.Prelude.{ℕ, ◌≡◌, Result, Ok, Err}
use Rattle.section.specs.declared.CallRefusal.{CallRefusal}
use Rattle.section.specs.Refusal.{Outcome, call_figure, index_of, refusal_by}

-- the refusal, 0 for none; "4: a step outside the above"
abbrev pub refusal_number : {A : Type 0} → Result A CallRefusal → ℕ
refusal_number answer = refusal_by call_figure answer

-- "with the index of the first malformed step for 4 and zero otherwise"
unfoldable pub refusal_index : {A : Type 0} → Result A CallRefusal → ℕ
refusal_index (Ok done) = 0
refusal_index (Err refusal) = index_of refusal

-- what is told beside the number: how much was done, else the index
unfoldable pub told_by : {R : Type 0} → (R → ℕ) → Result ℕ R → ℕ
told_by index (Ok figure) = figure
told_by index (Err refusal) = index refusal

abbrev pub told : Outcome → ℕ
told outcome = told_by index_of outcome

-- by cases: the one where the call is done, the other where it is refused
unfoldable pub if_done : {A B R : Type 0} → Result A R → B → B → B
if_done (Ok done) one other = one
if_done (Err refusal) one other = other

-- whatever the call, and whatever it gives where it is done, there is an index for 4 alone
abbrev pub IndexOnlyForFour : Type 0 → Type 0
IndexOnlyForFour A = (answer : Result A CallRefusal) → (refusal_number answer ≡ 4 → ⊥) → refusal_index answer ≡ 0
