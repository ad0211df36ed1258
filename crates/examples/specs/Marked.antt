-- The ten marked instances of document 01 ("Marked instances"), as one table. `marked_instances` (proofs/Marked.antt) proves it.
use Rattle.std.specs.Prelude.{ℕ, ◌-◌, List, [], ◌∷◌, length, get_or}
use Rattle.section.specs.declared.Fault.TheVariants.{Two}
use Rattle.section.specs.declared.Section.{Section}
use Rattle.section.specs.declared.Step.{Step}
use Rattle.section.specs.declared.Step.TheVariants.{Order, Set, Start, Pass, MeasuresOn, FaultOn, Key}
use Rattle.section.specs.Outcome.{refusal_number}
use Rattle.dayfile.specs.Answers.{read_of}
use Rattle.rules.proofs.Days.{A, telephone, materialised, fresh, sealed_at, on, offered_as, refusals}
use Rattle.rules.proofs.Rows.{Row, ◌gives◌}

-- ## What is asked

-- a file given to the reader: 0 where it is read, or the refusal
unfoldable pub reading : List ℕ → ℕ
reading file = refusal_number (read_of file)

-- the trailer of a day with no step: "BSR1", 24, 24, 0
abbrev pub trailer_of_none : List ℕ
trailer_of_none = 66 ∷ 83 ∷ 82 ∷ 49 ∷ 24 ∷ 0 ∷ 0 ∷ 0 ∷ 24 ∷ 0 ∷ 0 ∷ 0 ∷ 0 ∷ 0 ∷ 0 ∷ 0 ∷ []

-- a day with no step: n posts, telephone form, the mask in two bytes, line 1
abbrev pub day_of_none : ℕ → ℕ → ℕ → List ℕ
day_of_none n low high = n ∷ 0 ∷ low ∷ high ∷ 1 ∷ 0 ∷ 0 ∷ 0 ∷ trailer_of_none

-- steps on track A offered one after another: what the last one is answered, 0 or the refusal
unfoldable pub answer : Section → List Step → ℕ
answer s day = get_or (refusals s (offered_as (on A day))) (length day - 1) 0

-- ## The table

unfoldable pub instances : List (Row ℕ)
instances =
    -- (1) "an empty file gives 1"
    (reading [] gives 1)
    -- (2) "24 bytes, count 0, n = 2 is read"
    ∷ (length (day_of_none 2 3 0) gives 24)
    ∷ (reading (day_of_none 2 3 0) gives 0)
    -- (3) "n = 17 gives 3"
    ∷ (reading (day_of_none 17 255 255) gives 3)
    -- (4) "number 9,999 starts, 10,000 gives 4"; "Marked instance 4 takes 59,999 and 60,000 as its two numbers."
    ∷ (answer (fresh (telephone 3 7)) (Start 0 59999 ∷ []) gives 0)
    ∷ (answer (fresh (telephone 3 7)) (Start 0 60000 ∷ []) gives 4)
    -- (5) "a second start before the first train passes gives 13"
    ∷ (answer (fresh (telephone 3 7)) (Start 0 1 ∷ Start 0 2 ∷ []) gives 13)
    -- (6) "that start with the first train's number gives 17"
    ∷ (answer (fresh (telephone 3 7)) (Start 0 1 ∷ Start 0 1 ∷ []) gives 17)
    -- (7) "order by post 1 on fresh A gives 12"
    ∷ (answer (fresh (telephone 3 7)) (Order 1 ∷ []) gives 12)
    -- (8) "set to CVT without measures gives 16"
    ∷ (answer (fresh (telephone 3 7)) (Order 0 ∷ Set 0 ∷ []) gives 16)
    -- (9) "n = 3, mask 7, train in block section 1 of A: order gives 13 by telephone, is accepted when materialised"
    ∷ (answer (fresh (telephone 3 7)) (Start 0 1 ∷ Pass 1 1 ∷ Order 0 ∷ []) gives 13)
    ∷ (answer (fresh (materialised 3 7)) (Start 0 1 ∷ Pass 1 1 ∷ Order 0 ∷ []) gives 0)
    -- (10) "key at count 998 is accepted, at 999 gives 20"
    ∷ (answer (sealed_at A 0 998 (fresh (telephone 3 7))) (MeasuresOn 0 ∷ FaultOn 0 Two ∷ Order 0 ∷ Key 0 ∷ []) gives 0)
    ∷ (answer (sealed_at A 0 999 (fresh (telephone 3 7))) (MeasuresOn 0 ∷ FaultOn 0 Two ∷ Order 0 ∷ Key 0 ∷ []) gives 20)
    ∷ []
