-- Steps offered one after another, from any section.
use Rattle.std.specs.Prelude.{ℕ, zero, suc, ◌<◌, true, ◌≡◌, List, [], ◌∷◌, ◌++◌}
use Rattle.section.specs.declared.Answer.{Answer}
use Rattle.section.specs.declared.Section.{Section}
use Rattle.section.specs.Step.{well_formed}
use Rattle.rules.specs.Demand3.{state_after}
use Rattle.rules.specs.Judge.{judge}
use Rattle.layout.specs.Layout.{step_at}

-- the section that step i is judged on: the first, then the one that the step before left
unfoldable pub section_before : Section → List ℕ → ℕ → Section
section_before first steps zero = first
section_before first steps (suc i) = (judge (section_before first steps i) (step_at steps i)).section

unfoldable pub answer_to : Section → List ℕ → ℕ → Answer
answer_to first steps i = judge (section_before first steps i) (step_at steps i)

-- the first i steps, as the list that demand 3 speaks of
unfoldable pub offered_of : List ℕ → ℕ → List (List ℕ)
offered_of steps zero = []
offered_of steps (suc i) = offered_of steps i ++ (step_at steps i ∷ [])

-- so the theorems over lists hold along them (`steps_are_offered`, proofs/Laws.antt)
abbrev pub StepsAreOffered : Type 0
StepsAreOffered = (first : Section) (steps : List ℕ) (i : ℕ) → section_before first steps i ≡ state_after first (offered_of steps i)

-- the first so many steps are well formed, on a line of n posts
abbrev pub AllWellFormed : ℕ → List ℕ → ℕ → Type 0
AllWellFormed n steps count = (i : ℕ) → i < count → well_formed n (step_at steps i) ≡ true
