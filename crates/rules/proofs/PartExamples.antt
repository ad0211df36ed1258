-- Examples of the parts (document 02, request 3): on materialised lines a signalled post looks at all block sections up to the next signalled
-- post ahead, and a post without signals at none. Three posts with mask 5: post 1 has no signals; four with mask 13: post 1; with 11: post 2.
use Prim.Native.Nat.{ℕ}
use mathlib.Core.Bool.{Bool}
use mathlib.Core.Path.{refl}
use mathlib.Core.List.{List, [], ◌∷◌, ◌++◌}
use mathlib.Core.Option.{some}
use Rattle.section.specs.declared.Settings.{Settings}
use Rattle.section.specs.declared.Section.{Section}
use Rattle.section.specs.declared.Act.TheVariants as act
use Rattle.section.specs.declared.Walk.TheVariants.{Turn}
use Rattle.section.specs.declared.Fault.TheVariants.{One, Two}
use Rattle.section.specs.declared.Step.{Step}
use Rattle.section.specs.declared.Step.TheVariants.{Order, Set, Announce, Acknowledge, Start, Pass, Leave, MeasuresOn, FaultOn, FaultOff, Release, Key}
use Rattle.rules.proofs.Days.{A, B, VNS, CVT, telephone, materialised, fresh, changed_track, running, holding, holding_last, on, reversal_to_cvt}
use Rattle.rules.proofs.Rows.{◌gives◌, Holds, judged, judged_from, accepted, refused, ◌before◌}
use Rattle.rules.proofs.IndicationExamples.{lamps, shown_after}

-- an order at post p, its set to CVT, and the announcement, which post q acknowledges
abbrev up_to : ℕ → ℕ → List Step
up_to p q = MeasuresOn p ∷ Order p ∷ Set p ∷ Announce p ∷ Acknowledge q ∷ []

-- post 1 is to set, with these trains on the track: no day reaches it with one in the part in which post 1 lies
unfoldable pub to_set : Settings → Bool → Bool → List ℕ → Section
unfolding fresh
to_set c track cvt trains = changed_track track (λ t. holding trains (running cvt (Turn 1 act.Set) t)) (fresh c)

-- ## Order: 13 while a train is in the part, not once it has left it

pub order_behind_a_train :
    Holds
    ((judged (materialised 4 13) (on A (Start 0 7 ∷ Pass 1 7 ∷ Order 0 ∷ [])) gives refused 13)
    ∷ (judged (materialised 4 13) (on A (Start 0 7 ∷ Pass 1 7 ∷ Pass 2 7 ∷ Order 0 ∷ [])) gives accepted)
    ∷ (judged (materialised 4 11) (on B (Start 3 7 ∷ Pass 2 7 ∷ Order 3 ∷ [])) gives refused 13)
    ∷ (judged (materialised 4 11) (on B (Start 3 7 ∷ Pass 2 7 ∷ Pass 1 7 ∷ Order 3 ∷ [])) gives accepted)
    -- the part is longer than a stretch of VNS: the second train may start, and stops the order
    ∷ (judged (materialised 4 11) (on B (Start 3 7 ∷ Pass 2 7 ∷ Start 3 8 ∷ Pass 1 7 ∷ Pass 2 8 ∷ Order 3 ∷ [])) gives refused 13)
    -- back to VNS
    ∷ (judged (materialised 4 11) (on A (reversal_to_cvt (0 ∷ 1 ∷ 2 ∷ 3 ∷ []) ++ Start 3 7 ∷ Pass 2 7 ∷ Order 3 ∷ [])) gives refused 13)
    ∷ (judged (materialised 4 11) (on A (reversal_to_cvt (0 ∷ 1 ∷ 2 ∷ 3 ∷ []) ++ Start 3 7 ∷ Pass 2 7 ∷ Pass 1 7 ∷ Order 3 ∷ [])) gives accepted)
    ∷ (judged (materialised 4 13) (on B (reversal_to_cvt (3 ∷ 2 ∷ 1 ∷ 0 ∷ []) ++ Start 0 7 ∷ Pass 1 7 ∷ Order 0 ∷ [])) gives refused 13)
    ∷ (judged (materialised 3 5) (on B (reversal_to_cvt (2 ∷ 1 ∷ 0 ∷ []) ++ Start 0 7 ∷ Pass 1 7 ∷ Leave 2 7 ∷ Order 0 ∷ [])) gives accepted)
    -- by telephone anywhere on the track
    ∷ (judged (telephone 4 13) (on A (Start 0 7 ∷ Pass 1 7 ∷ Pass 2 7 ∷ Order 0 ∷ [])) gives refused 13)
    ∷ [])
unfolding judged
order_behind_a_train = refl

-- ## Set and key

-- at a signalled post, with a train two block sections ahead, and once it has left
pub signalled_post_checks_its_part :
    Holds
    ((judged (materialised 4 11) (on A (Start 0 7 ∷ Pass 1 7 ∷ Pass 2 7 ∷ MeasuresOn 1 ∷ up_to 0 1 ++ Set 1 ∷ [])) gives refused 13)
    ∷ (judged (materialised 4 11) (on A (Start 0 7 ∷ Pass 1 7 ∷ Pass 2 7 ∷ MeasuresOn 1 ∷ up_to 0 1 ++ Leave 3 7 ∷ Set 1 ∷ [])) gives accepted)
    ∷ (judged (materialised 4 13) (on B (Start 3 7 ∷ Pass 2 7 ∷ Pass 1 7 ∷ MeasuresOn 2 ∷ up_to 3 2 ++ Set 2 ∷ [])) gives refused 13)
    ∷ (judged (materialised 4 11) (on A (Start 0 7 ∷ Pass 1 7 ∷ Pass 2 7 ∷ MeasuresOn 1 ∷ FaultOn 1 Two ∷ up_to 0 1 ++ Key 1 ∷ [])) gives refused 13)
    ∷ (judged (materialised 4 13) (on B (Start 3 7 ∷ Pass 2 7 ∷ Pass 1 7 ∷ MeasuresOn 2 ∷ FaultOn 2 Two ∷ up_to 3 2 ++ Leave 0 7 ∷ Key 2 ∷ [])) gives accepted)
    -- past the next signalled post
    ∷ (judged_from (to_set (materialised 4 15) A VNS (0 ∷ 0 ∷ 7 ∷ [])) (on A (MeasuresOn 1 ∷ Set 1 ∷ [])) gives accepted)
    ∷ (judged_from (to_set (materialised 4 11) A VNS (0 ∷ 0 ∷ 7 ∷ [])) (on A (MeasuresOn 1 ∷ Set 1 ∷ [])) gives refused 13)
    ∷ (judged_from (to_set (materialised 4 11) B CVT (0 ∷ 0 ∷ 7 ∷ [])) (on B (Set 1 ∷ [])) gives refused 13)
    ∷ [])
unfolding to_set judged
signalled_post_checks_its_part = refl

-- at a post without signals no track is checked, and fault 1 is disregarded
pub post_without_signals_checks_none :
    Holds
    ((judged_from (to_set (materialised 3 5) A VNS (0 ∷ 7 ∷ [])) (on A (MeasuresOn 1 ∷ FaultOn 1 One ∷ Set 1 ∷ [])) gives accepted)
    ∷ (judged_from (to_set (materialised 3 5) A CVT (7 ∷ [])) (on A (FaultOn 1 One ∷ Set 1 ∷ [])) gives accepted)
    ∷ (judged_from (to_set (materialised 3 5) B VNS (7 ∷ [])) (on B (MeasuresOn 1 ∷ FaultOn 1 One ∷ FaultOn 1 Two ∷ Key 1 ∷ [])) gives accepted)
    ∷ (judged (materialised 3 5) (on B (FaultOn 1 One ∷ reversal_to_cvt (2 ∷ 1 ∷ 0 ∷ []))) gives accepted)
    -- its other checks stay
    ∷ (judged_from (to_set (materialised 3 5) A VNS (0 ∷ 7 ∷ [])) (on A (FaultOn 1 One ∷ FaultOn 1 Two ∷ Set 1 ∷ [])) gives 16 before (19 ∷ []))
    -- at one with signals, and by telephone, both are
    ∷ (judged_from (to_set (materialised 3 7) A VNS (0 ∷ 7 ∷ [])) (on A (MeasuresOn 1 ∷ FaultOn 1 One ∷ Set 1 ∷ [])) gives 13 before (18 ∷ []))
    ∷ (judged_from (to_set (telephone 3 5) A VNS (0 ∷ 7 ∷ [])) (on A (MeasuresOn 1 ∷ FaultOn 1 One ∷ Set 1 ∷ [])) gives 13 before (18 ∷ []))
    ∷ (judged_from (to_set (telephone 3 5) B VNS (7 ∷ [])) (on B (MeasuresOn 1 ∷ FaultOn 1 One ∷ FaultOn 1 Two ∷ Key 1 ∷ [])) gives 13 before (18 ∷ []))
    -- by telephone the block section ahead
    ∷ (judged_from (to_set (telephone 4 11) A VNS (0 ∷ 0 ∷ 7 ∷ [])) (on A (MeasuresOn 1 ∷ Set 1 ∷ [])) gives accepted)
    ∷ [])
unfolding to_set judged
post_without_signals_checks_none = refl

-- "pass keeps its check of the stretch"
pub pass_keeps_its_check :
    Holds
    ((judged (materialised 3 5) (on A (Start 0 7 ∷ Pass 1 7 ∷ Start 0 8 ∷ Pass 1 8 ∷ [])) gives refused 13)
    ∷ (judged (materialised 3 5) (on A (Start 0 7 ∷ Pass 1 7 ∷ Start 0 8 ∷ Leave 2 7 ∷ Pass 1 8 ∷ [])) gives accepted)
    ∷ [])
unfolding judged
pass_keeps_its_check = refl

-- ## Release

pub release_of_a_part :
    Holds
    -- a post without signals: 12, and out of turn 15 before it
    ((judged (materialised 3 5) (on A (FaultOn 1 One ∷ up_to 0 1 ++ Release 1 0 ∷ [])) gives refused 12)
    ∷ (judged (materialised 4 11) (on B (FaultOn 2 One ∷ up_to 3 2 ++ Release 2 0 ∷ [])) gives refused 12)
    ∷ (judged (materialised 3 5) (on A (FaultOn 1 One ∷ Release 1 0 ∷ [])) gives 15 before (12 ∷ []))
    -- a signalled one
    ∷ (judged (materialised 4 11) (on A (FaultOn 1 One ∷ up_to 0 1 ++ Release 1 0 ∷ [])) gives accepted)
    ∷ (judged (materialised 4 11) (on A (Start 0 7 ∷ Pass 1 7 ∷ Pass 2 7 ∷ FaultOn 1 One ∷ up_to 0 1 ++ Release 1 7 ∷ [])) gives refused 13)
    ∷ (judged (materialised 4 11) (on A (Start 0 7 ∷ Pass 1 7 ∷ Pass 2 7 ∷ FaultOn 1 One ∷ up_to 0 1 ++ Leave 3 7 ∷ Release 1 7 ∷ [])) gives accepted)
    ∷ (judged (materialised 3 5) (on B (Start 2 7 ∷ Pass 1 7 ∷ FaultOn 2 One ∷ Release 2 7 ∷ [])) gives refused 13)
    -- 17 stays with the block section directly ahead: train 7 entered that last, train 8 the next one
    ∷ (judged_from (changed_track A (holding_last (7 ∷ 8 ∷ [])) (fresh (materialised 3 5))) (on A (FaultOn 0 One ∷ Release 0 7 ∷ [])) gives accepted)
    ∷ (judged_from (changed_track A (holding_last (7 ∷ 8 ∷ [])) (fresh (materialised 3 5))) (on A (FaultOn 0 One ∷ Release 0 8 ∷ [])) gives refused 17)
    -- by telephone
    ∷ (judged (telephone 3 5) (on A (FaultOn 1 One ∷ up_to 0 1 ++ Release 1 0 ∷ [])) gives accepted)
    ∷ (judged (telephone 3 5) (on B (Start 2 7 ∷ Pass 1 7 ∷ FaultOn 2 One ∷ Release 2 7 ∷ [])) gives accepted)
    ∷ [])
unfolding judged
release_of_a_part = refl

-- kinds 10 and 11 with fault 1 stay accepted at a post without signals
pub fault_1_without_signals : Holds ((judged (materialised 3 5) (on A (FaultOn 1 One ∷ FaultOff 1 One ∷ [])) gives accepted) ∷ [])
unfolding judged
fault_1_without_signals = refl

-- ## TRONÇON

pub troncon_of_a_part :
    Holds
    -- 0 at a post without signals, with a train ahead of it, or under fault 1
    ((shown_after (materialised 3 5) [] A 1 gives some (lamps 1 0 0))
    ∷ (shown_after (materialised 3 5) (on A (Start 0 7 ∷ Pass 1 7 ∷ [])) A 1 gives some (lamps 1 0 0))
    ∷ (shown_after (materialised 4 11) (on B (FaultOn 2 One ∷ [])) B 2 gives some (lamps 1 0 0))
    -- at a signalled post: red by a train two block sections ahead, not by one past the next signalled post or a fault 1 of the post between
    ∷ (shown_after (materialised 3 5) (on A (Start 0 7 ∷ Pass 1 7 ∷ [])) A 0 gives some (lamps 1 2 1))
    ∷ (shown_after (materialised 4 13) (on A (Start 0 7 ∷ Pass 1 7 ∷ Pass 2 7 ∷ [])) A 0 gives some (lamps 1 1 1))
    ∷ (shown_after (materialised 4 13) (on B (Start 3 7 ∷ Pass 2 7 ∷ Pass 1 7 ∷ [])) B 2 gives some (lamps 1 2 0))
    ∷ (shown_after (materialised 3 5) (on A (FaultOn 1 One ∷ [])) A 0 gives some (lamps 1 1 1))
    ∷ (shown_after (materialised 3 5) (on A (FaultOn 0 One ∷ [])) A 0 gives some (lamps 1 2 1))
    -- in CVT
    ∷ (shown_after (materialised 4 11) (on A (reversal_to_cvt (0 ∷ 1 ∷ 2 ∷ 3 ∷ []) ++ Start 3 7 ∷ Pass 2 7 ∷ [])) A 3 gives some (lamps 2 2 1))
    ∷ (shown_after (materialised 4 11) (on A (reversal_to_cvt (0 ∷ 1 ∷ 2 ∷ 3 ∷ []) ++ Start 3 7 ∷ Pass 2 7 ∷ [])) A 2 gives some (lamps 2 0 0))
    ∷ (shown_after (materialised 4 13) (on B (reversal_to_cvt (3 ∷ 2 ∷ 1 ∷ 0 ∷ []) ++ Start 0 7 ∷ Pass 1 7 ∷ [])) B 0 gives some (lamps 2 2 1))
    -- by telephone
    ∷ (shown_after (telephone 3 5) (on A (FaultOn 1 One ∷ [])) A 1 gives some (lamps 1 2 0))
    ∷ (shown_after (telephone 3 5) (on A (Start 0 7 ∷ Pass 1 7 ∷ [])) A 1 gives some (lamps 1 2 0))
    ∷ (shown_after (telephone 3 5) (on A (Start 0 7 ∷ Pass 1 7 ∷ [])) A 0 gives some (lamps 1 1 1))
    ∷ [])
unfolding shown_after
troncon_of_a_part = refl
