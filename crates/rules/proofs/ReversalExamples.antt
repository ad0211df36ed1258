-- Examples of the steps of a reversal: order, set, announce, acknowledge. For each check of each kind there are days on which it alone
-- refuses the last step, and days on which none does.
use mathlib.Core.Path.{refl}
use mathlib.Core.List.{[], ◌∷◌, ◌++◌}
use Rattle.section.specs.declared.Section.{Section}
use Rattle.section.specs.declared.Act.TheVariants as act
use Rattle.section.specs.declared.Walk.TheVariants.{Settled, Turn}
use Rattle.section.specs.declared.Fault.TheVariants.{One, Two, Three, Four}
use Rattle.section.specs.declared.Step.TheVariants.{Order, Set, Announce, Acknowledge, Start, Pass, Leave, MeasuresOn, FaultOn, Release}
use Rattle.section.specs.declared.Said.TheVariants.{Cvt, Cvtz, Vns, Vnsz}
use Rattle.rules.proofs.Days.{A, B, VNS, CVT, telephone, materialised, fresh, changed_track, running, holding, on, reversal, reversal_to_cvt}
use Rattle.rules.proofs.Rows.{◌gives◌, Holds, judged, judged_from, accepted, says, refused, ◌before◌}

-- ## Kind 1, order: "11; 12 not the sending end; 14; 13"

-- "reversal begins": to CVT, and back to VNS
pub order_accepted :
    Holds
    ((judged (telephone 2 3) (on A (Order 0 ∷ [])) gives accepted)
    ∷ (judged (materialised 4 15) (on B (Order 3 ∷ [])) gives accepted)
    ∷ (judged (telephone 2 3) (on A (reversal_to_cvt (0 ∷ 1 ∷ []) ++ Order 1 ∷ [])) gives accepted)
    ∷ (judged (materialised 3 5) (on B (reversal_to_cvt (2 ∷ 1 ∷ 0 ∷ []) ++ Order 0 ∷ [])) gives accepted)
    ∷ [])
unfolding judged
order_accepted = refl

-- "a reversal is under way on this track"
pub order_refused_11 :
    Holds
    ((judged (telephone 3 7) (on B (Order 2 ∷ Order 2 ∷ [])) gives refused 11)
    ∷ (judged (materialised 2 3) (on A (reversal_to_cvt (0 ∷ 1 ∷ []) ++ Order 1 ∷ Order 1 ∷ [])) gives refused 11)
    ∷ [])
unfolding judged
order_refused_11 = refl

-- "not the sending end"
pub order_refused_12 :
    Holds
    ((judged (materialised 3 7) (on B (Order 0 ∷ [])) gives refused 12)
    ∷ (judged (telephone 4 9) (on A (Order 2 ∷ [])) gives refused 12)
    ∷ (judged (telephone 3 7) (on A (reversal_to_cvt (0 ∷ 1 ∷ 2 ∷ []) ++ Order 0 ∷ [])) gives refused 12)
    ∷ (judged (materialised 2 3) (on B (reversal_to_cvt (1 ∷ 0 ∷ []) ++ Order 1 ∷ [])) gives refused 12)
    ∷ [])
unfolding judged
order_refused_12 = refl

-- "order to CVT while the other track isn't settled on VNS (art. 915)": it reverses to CVT, is settled on CVT, or reverses back
pub order_refused_14 :
    Holds
    ((judged (telephone 3 7) (on A (Order 0 ∷ []) ++ on B (Order 2 ∷ [])) gives refused 14)
    ∷ (judged (materialised 3 7) (on B (reversal_to_cvt (2 ∷ 1 ∷ 0 ∷ [])) ++ on A (Order 0 ∷ [])) gives refused 14)
    ∷ (judged (telephone 2 3) (on A (reversal_to_cvt (0 ∷ 1 ∷ []) ++ Order 1 ∷ []) ++ on B (Order 1 ∷ [])) gives refused 14)
    -- and not once it is back on VNS
    ∷ (judged (telephone 2 3) (on A (reversal_to_cvt (0 ∷ 1 ∷ []) ++ reversal (1 ∷ 0 ∷ [])) ++ on B (Order 1 ∷ [])) gives accepted)
    ∷ [])
unfolding judged
order_refused_14 = refl

-- both tracks settled on CVT, every device at VNS, no measures: no day reaches it
unfoldable pub both_on_cvt : Section
unfolding fresh
both_on_cvt = changed_track A (running CVT Settled) (changed_track B (running CVT Settled) (fresh (telephone 3 7)))

-- 14 is of an order to CVT only
pub order_to_vns :
    Holds
    ((judged_from both_on_cvt (on A (Order 2 ∷ [])) gives accepted)
    ∷ (judged_from both_on_cvt (on B (Order 0 ∷ [])) gives accepted)
    ∷ [])
unfolding both_on_cvt judged
order_to_vns = refl

-- "telephone form: a train anywhere on the track (art. 907)"
pub order_refused_13_by_telephone :
    Holds
    ((judged (telephone 3 7) (on A (Start 0 7 ∷ Order 0 ∷ [])) gives refused 13)
    ∷ (judged (telephone 3 7) (on A (Start 0 7 ∷ Pass 1 7 ∷ Order 0 ∷ [])) gives refused 13)
    ∷ (judged (telephone 4 15) (on B (Start 3 7 ∷ Pass 2 7 ∷ Pass 1 7 ∷ Order 3 ∷ [])) gives refused 13)
    ∷ (judged (telephone 3 7) (on A (reversal_to_cvt (0 ∷ 1 ∷ 2 ∷ []) ++ Start 2 7 ∷ Pass 1 7 ∷ Order 2 ∷ [])) gives refused 13)
    -- a train on the other track is none on this one
    ∷ (judged (telephone 3 7) (on B (Start 2 7 ∷ []) ++ on A (Order 0 ∷ [])) gives accepted)
    ∷ [])
unfolding judged
order_refused_13_by_telephone = refl

-- "materialised: one in the block section ahead"; request 3: in the part, here the block section where every post is signalled
pub order_refused_13_materialised :
    Holds
    ((judged (materialised 3 7) (on A (Start 0 7 ∷ Order 0 ∷ [])) gives refused 13)
    ∷ (judged (materialised 3 7) (on A (Start 0 7 ∷ Pass 1 7 ∷ Order 0 ∷ [])) gives accepted)
    ∷ (judged (materialised 4 15) (on B (Start 3 7 ∷ Pass 2 7 ∷ Pass 1 7 ∷ Order 3 ∷ [])) gives accepted)
    ∷ (judged (materialised 3 7) (on A (reversal_to_cvt (0 ∷ 1 ∷ 2 ∷ []) ++ Start 2 7 ∷ Order 2 ∷ [])) gives refused 13)
    -- and over post 1, which is not signalled
    ∷ (judged (materialised 3 5) (on A (reversal_to_cvt (0 ∷ 1 ∷ 2 ∷ []) ++ Start 2 7 ∷ Pass 1 7 ∷ Order 2 ∷ [])) gives refused 13)
    ∷ [])
unfolding judged
order_refused_13_materialised = refl

-- "checks in order"
pub order_checks_in_order :
    Holds
    ((judged (telephone 3 7) (on A (Order 0 ∷ Order 1 ∷ [])) gives 11 before (12 ∷ []))
    ∷ (judged (telephone 3 7) (on B (Order 2 ∷ []) ++ on A (Order 1 ∷ [])) gives 12 before (14 ∷ []))
    ∷ (judged (telephone 3 7) (on B (Order 2 ∷ []) ++ on A (Start 0 7 ∷ Order 0 ∷ [])) gives 14 before (13 ∷ []))
    ∷ [])
unfolding judged
order_checks_in_order = refl

-- ## Kind 2, set: "15; 13; 18; 16; 19"

-- "device turned": to CVT, and back to VNS
pub set_accepted :
    Holds
    ((judged (telephone 2 3) (on A (MeasuresOn 0 ∷ Order 0 ∷ Set 0 ∷ [])) gives accepted)
    ∷ (judged (materialised 3 7) (on B (reversal_to_cvt (2 ∷ 1 ∷ 0 ∷ []))) gives accepted)
    ∷ (judged (telephone 2 3) (on A (reversal_to_cvt (0 ∷ 1 ∷ []) ++ reversal (1 ∷ 0 ∷ []))) gives accepted)
    ∷ [])
unfolding judged
set_accepted = refl

-- "not this post's turn for it"
pub set_refused_15 :
    Holds
    -- no reversal is under way
    ((judged (telephone 3 7) (on A (MeasuresOn 0 ∷ Set 0 ∷ [])) gives refused 15)
    -- another post's turn
    ∷ (judged (materialised 3 7) (on B (MeasuresOn 1 ∷ Order 2 ∷ Set 1 ∷ [])) gives refused 15)
    -- this post's turn to announce
    ∷ (judged (telephone 2 3) (on A (MeasuresOn 0 ∷ Order 0 ∷ Set 0 ∷ Set 0 ∷ [])) gives refused 15)
    -- this post's turn to acknowledge
    ∷ (judged (telephone 2 3) (on B (MeasuresOn 1 ∷ MeasuresOn 0 ∷ Order 1 ∷ Set 1 ∷ Announce 1 ∷ Set 0 ∷ [])) gives refused 15)
    ∷ [])
unfolding judged
set_refused_15 = refl

-- "one in the block section ahead", the part where every post is signalled
pub set_refused_13 :
    Holds
    ((judged (materialised 3 7)
    (on A (Start 0 7 ∷ Pass 1 7 ∷ MeasuresOn 0 ∷ MeasuresOn 1 ∷ Order 0 ∷ Set 0 ∷ Announce 0 ∷ Acknowledge 1 ∷ Set 1 ∷ []))
    gives refused 13)
    ∷ (judged (materialised 3 7)
    (on B (Start 2 7 ∷ Pass 1 7 ∷ MeasuresOn 2 ∷ MeasuresOn 1 ∷ Order 2 ∷ Set 2 ∷ Announce 2 ∷ Acknowledge 1 ∷ Set 1 ∷ []))
    gives refused 13)
    -- not one that has left, or is further ahead
    ∷ (judged (materialised 3 7)
    (on A (Start 0 7 ∷ Pass 1 7 ∷ MeasuresOn 0 ∷ MeasuresOn 1 ∷ Order 0 ∷ Set 0 ∷ Announce 0 ∷ Acknowledge 1 ∷ Leave 2 7 ∷ Set 1 ∷ []))
    gives accepted)
    ∷ (judged (materialised 4 15)
    (on A (Start 0 7 ∷ Pass 1 7 ∷ Pass 2 7 ∷ MeasuresOn 0 ∷ MeasuresOn 1 ∷ Order 0 ∷ Set 0 ∷ Announce 0 ∷ Acknowledge 1 ∷ Set 1 ∷ []))
    gives accepted)
    -- back to VNS
    ∷ (judged (materialised 3 7) (on A (reversal_to_cvt (0 ∷ 1 ∷ 2 ∷ []) ++ Start 2 7 ∷ Pass 1 7 ∷ Order 2 ∷ Set 2 ∷ [])) gives accepted)
    ∷ [])
unfolding judged
set_refused_13 = refl

-- the last post's turn to set, with a train in the block section before it: no day reaches it
unfoldable pub train_before_the_last_post : Section
unfolding fresh
train_before_the_last_post = changed_track B (λ t. holding (7 ∷ []) (running VNS (Turn 0 act.Set) t)) (fresh (telephone 3 7))

-- "the last post has none"
pub set_at_the_last_post : Holds ((judged_from train_before_the_last_post (on B (MeasuresOn 0 ∷ Set 0 ∷ [])) gives accepted) ∷ [])
unfolding train_before_the_last_post judged
set_at_the_last_post = refl

-- "fault 1 without a mark (never at the last post)"
pub set_refused_18 :
    Holds
    ((judged (telephone 3 7) (on A (MeasuresOn 0 ∷ FaultOn 0 One ∷ Order 0 ∷ Set 0 ∷ [])) gives refused 18)
    ∷ (judged (telephone 2 3) (on B (reversal_to_cvt (1 ∷ 0 ∷ []) ++ FaultOn 0 One ∷ Order 0 ∷ Set 0 ∷ [])) gives refused 18)
    -- with the mark, which an order does not take
    ∷ (judged (telephone 3 7) (on A (MeasuresOn 0 ∷ FaultOn 0 One ∷ Order 0 ∷ Release 0 0 ∷ Set 0 ∷ [])) gives accepted)
    ∷ (judged (materialised 3 7) (on B (MeasuresOn 2 ∷ FaultOn 2 One ∷ Release 2 0 ∷ Order 2 ∷ Set 2 ∷ [])) gives accepted)
    -- the last post
    ∷ (judged (telephone 2 3) (on A (FaultOn 1 One ∷ reversal_to_cvt (0 ∷ 1 ∷ []))) gives accepted)
    ∷ (judged (materialised 3 7) (on B (FaultOn 0 One ∷ reversal_to_cvt (2 ∷ 1 ∷ 0 ∷ []))) gives accepted)
    ∷ [])
unfolding judged
set_refused_18 = refl

-- "set or key to CVT without measures"
pub set_refused_16 :
    Holds
    ((judged (telephone 3 7) (on B (Order 2 ∷ Set 2 ∷ [])) gives refused 16)
    -- those of another post do not serve
    ∷ (judged (materialised 2 3) (on A (MeasuresOn 1 ∷ Order 0 ∷ Set 0 ∷ [])) gives refused 16)
    -- and to VNS none are asked for
    ∷ (judged_from both_on_cvt (on A (Order 2 ∷ Set 2 ∷ [])) gives accepted)
    ∷ [])
unfolding both_on_cvt judged
set_refused_16 = refl

-- "fault 2 stops set"; faults 3 and 4 do not
pub set_refused_19 :
    Holds
    ((judged (telephone 3 7) (on A (MeasuresOn 0 ∷ FaultOn 0 Two ∷ Order 0 ∷ Set 0 ∷ [])) gives refused 19)
    ∷ (judged (materialised 2 3) (on B (reversal_to_cvt (1 ∷ 0 ∷ []) ++ FaultOn 0 Two ∷ Order 0 ∷ Set 0 ∷ [])) gives refused 19)
    ∷ (judged (telephone 3 7) (on A (MeasuresOn 0 ∷ FaultOn 0 Three ∷ FaultOn 0 Four ∷ Order 0 ∷ Set 0 ∷ [])) gives accepted)
    ∷ [])
unfolding judged
set_refused_19 = refl

-- "checks in order"
pub set_checks_in_order :
    Holds
    ((judged (telephone 3 7) (on A (Start 0 7 ∷ FaultOn 0 One ∷ FaultOn 0 Two ∷ Set 0 ∷ [])) gives 15 before (13 ∷ 18 ∷ 16 ∷ 19 ∷ []))
    ∷ (judged (telephone 3 7) (on B (FaultOn 2 One ∷ FaultOn 2 Two ∷ Order 2 ∷ Set 2 ∷ [])) gives 18 before (16 ∷ 19 ∷ []))
    ∷ [])
unfolding judged
set_checks_in_order = refl

-- ## Kind 3, announce: "15"

-- "says CVT or VNS, the new direction"
pub announce_says :
    Holds
    ((judged (telephone 2 3) (on A (MeasuresOn 0 ∷ Order 0 ∷ Set 0 ∷ Announce 0 ∷ [])) gives says Cvt)
    ∷ (judged (materialised 3 7)
    (on B (MeasuresOn 2 ∷ MeasuresOn 1 ∷ Order 2 ∷ Set 2 ∷ Announce 2 ∷ Acknowledge 1 ∷ Set 1 ∷ Announce 1 ∷ []))
    gives says Cvt)
    ∷ (judged (materialised 3 7) (on A (reversal_to_cvt (0 ∷ 1 ∷ 2 ∷ []) ++ Order 2 ∷ Set 2 ∷ Announce 2 ∷ [])) gives says Vns)
    ∷ (judged (telephone 2 3) (on B (reversal_to_cvt (1 ∷ 0 ∷ []) ++ Order 0 ∷ Set 0 ∷ Announce 0 ∷ [])) gives says Vns)
    ∷ [])
unfolding judged
announce_says = refl

-- "not this post's turn for it"
pub announce_refused_15 :
    Holds
    -- no reversal is under way
    ((judged (telephone 2 3) (on A (Announce 0 ∷ [])) gives refused 15)
    -- it has not set
    ∷ (judged (telephone 2 3) (on B (Order 1 ∷ Announce 1 ∷ [])) gives refused 15)
    -- another post's turn, and its own to acknowledge
    ∷ (judged (telephone 3 7) (on A (MeasuresOn 0 ∷ Order 0 ∷ Set 0 ∷ Announce 1 ∷ [])) gives refused 15)
    ∷ (judged (telephone 3 7) (on A (MeasuresOn 0 ∷ Order 0 ∷ Set 0 ∷ Announce 0 ∷ Announce 1 ∷ [])) gives refused 15)
    -- "the last post only sets"
    ∷ (judged (telephone 2 3) (on A (reversal_to_cvt (0 ∷ 1 ∷ []) ++ Announce 1 ∷ [])) gives refused 15)
    ∷ [])
unfolding judged
announce_refused_15 = refl

-- ## Kind 4, acknowledge: "15"

-- "says CVTz or VNSz"
pub acknowledge_says :
    Holds
    ((judged (telephone 2 3) (on A (MeasuresOn 0 ∷ Order 0 ∷ Set 0 ∷ Announce 0 ∷ Acknowledge 1 ∷ [])) gives says Cvtz)
    ∷ (judged (materialised 4 15) (on B (MeasuresOn 3 ∷ Order 3 ∷ Set 3 ∷ Announce 3 ∷ Acknowledge 2 ∷ [])) gives says Cvtz)
    ∷ (judged (materialised 3 7) (on A (reversal_to_cvt (0 ∷ 1 ∷ 2 ∷ []) ++ Order 2 ∷ Set 2 ∷ Announce 2 ∷ Acknowledge 1 ∷ [])) gives says Vnsz)
    ∷ (judged (telephone 2 3) (on B (reversal_to_cvt (1 ∷ 0 ∷ []) ++ Order 0 ∷ Set 0 ∷ Announce 0 ∷ Acknowledge 1 ∷ [])) gives says Vnsz)
    -- the new direction, whatever the device stands at
    ∷ (judged_from both_on_cvt (on A (Order 2 ∷ Set 2 ∷ Announce 2 ∷ Acknowledge 1 ∷ [])) gives says Vnsz)
    ∷ [])
unfolding both_on_cvt judged
acknowledge_says = refl

-- "not this post's turn for it"
pub acknowledge_refused_15 :
    Holds
    -- no reversal is under way
    ((judged (telephone 2 3) (on A (Acknowledge 1 ∷ [])) gives refused 15)
    -- nothing is announced to it
    ∷ (judged (telephone 2 3) (on B (MeasuresOn 1 ∷ Order 1 ∷ Set 1 ∷ Acknowledge 0 ∷ [])) gives refused 15)
    -- the announcer, and a post beyond the next
    ∷ (judged (telephone 3 7) (on A (MeasuresOn 0 ∷ Order 0 ∷ Set 0 ∷ Announce 0 ∷ Acknowledge 0 ∷ [])) gives refused 15)
    ∷ (judged (telephone 3 7) (on A (MeasuresOn 0 ∷ Order 0 ∷ Set 0 ∷ Announce 0 ∷ Acknowledge 2 ∷ [])) gives refused 15)
    -- its own turn to set, and to announce
    ∷ (judged (telephone 3 7) (on B (MeasuresOn 2 ∷ Order 2 ∷ Set 2 ∷ Announce 2 ∷ Acknowledge 1 ∷ Acknowledge 1 ∷ [])) gives refused 15)
    ∷ (judged (telephone 3 7) (on B (MeasuresOn 2 ∷ Order 2 ∷ Set 2 ∷ Acknowledge 2 ∷ [])) gives refused 15)
    ∷ [])
unfolding judged
acknowledge_refused_15 = refl
