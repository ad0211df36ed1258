-- Annex 5 of Title X, which needs the new order of demand 3: a train is still on the track when the reversal begins. What is shown of the day is
-- proved in proofs/Annex5.antt.
use Rattle.std.specs.Prelude.{ℕ, List, [], ◌∷◌}
use Rattle.section.specs.declared.Settings.{Settings}
use Rattle.section.specs.declared.Said.{Said}
use Rattle.section.specs.declared.Said.TheVariants.{Nothing, Cvt, Cvtz}
use Rattle.section.specs.declared.Step.{Step}
use Rattle.section.specs.declared.Step.TheVariants.{Order, Set, Announce, Acknowledge, Start, Pass, Leave, MeasuresOn}
use Rattle.section.specs.Step.{encoded}
use Rattle.rules.specs.Demand3.{AcceptedStep}
use Rattle.rules.proofs.Days.{A, materialised, step_on, on, offered_as}

-- materialised, n = 3, mask 7
unfoldable pub settings : Settings
settings = materialised 3 7

-- with the measures on first, which set to CVT asks for; all of it on track A
unfoldable pub steps : List Step
steps =
    MeasuresOn 0 ∷ MeasuresOn 1 ∷ MeasuresOn 2 ∷ Start 0 2410 ∷ Order 0 ∷ Pass 1 2410 ∷ Order 0 ∷ Set 0 ∷ Announce 0 ∷ Acknowledge 1 ∷ Set 1
    ∷ Leave 2 2410 ∷ Set 1 ∷ Announce 1 ∷ Acknowledge 2 ∷ Set 2 ∷ []

unfoldable pub day : List (List ℕ)
day = offered_as (on A steps)

-- two steps are refused with 13: the first order, with the train in the block section ahead, and the first set at post 1
unfoldable pub answers : List ℕ
answers = 0 ∷ 0 ∷ 0 ∷ 0 ∷ 13 ∷ 0 ∷ 0 ∷ 0 ∷ 0 ∷ 0 ∷ 13 ∷ 0 ∷ 0 ∷ 0 ∷ 0 ∷ 0 ∷ []

abbrev pub says : Said → Step → AcceptedStep
says said x = record { bytes = encoded (step_on A x); said = said }

abbrev pub quiet : Step → AcceptedStep
quiet x = says Nothing x

-- the others, in the day's own order
unfoldable pub accepted : List AcceptedStep
accepted =
    quiet (MeasuresOn 0) ∷ quiet (MeasuresOn 1) ∷ quiet (MeasuresOn 2) ∷ quiet (Start 0 2410) ∷ quiet (Pass 1 2410) ∷ quiet (Order 0)
    ∷ quiet (Set 0) ∷ says Cvt (Announce 0) ∷ says Cvtz (Acknowledge 1) ∷ quiet (Leave 2 2410)
    ∷ quiet (Set 1) ∷ says Cvt (Announce 1) ∷ says Cvtz (Acknowledge 2) ∷ quiet (Set 2) ∷ []

-- in the new order the train leaves before the order
unfoldable pub reordered : List AcceptedStep
reordered =
    quiet (MeasuresOn 0) ∷ quiet (MeasuresOn 1) ∷ quiet (MeasuresOn 2) ∷ quiet (Start 0 2410) ∷ quiet (Pass 1 2410) ∷ quiet (Leave 2 2410)
    ∷ quiet (Order 0) ∷ quiet (Set 0) ∷ says Cvt (Announce 0) ∷ says Cvtz (Acknowledge 1)
    ∷ quiet (Set 1) ∷ says Cvt (Announce 1) ∷ says Cvtz (Acknowledge 2) ∷ quiet (Set 2) ∷ []
