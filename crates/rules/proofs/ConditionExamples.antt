-- Examples of what a post notes of itself: measures on and off, fault on and off, a caution form. For each check of each kind there are days
-- on which it alone refuses the last step, and days on which none does.
use mathlib.Core.Path.{refl}
use mathlib.Core.List.{[], ◌∷◌, ◌++◌}
use Rattle.section.specs.declared.Fault.TheVariants.{One, Two, Three, Four}
use Rattle.section.specs.declared.Step.TheVariants.{Order, Set, MeasuresOn, MeasuresOff, FaultOn, FaultOff, Caution}
use Rattle.rules.proofs.Days.{A, B, telephone, materialised, with_crossings, on, reversal_to_cvt}
use Rattle.rules.proofs.Rows.{◌gives◌, Holds, judged, accepted, refused}

-- ## Kinds 8 and 9, measures on and off: "21", and "21; 16"

-- "already so"
pub measures_on_refused_21 :
    Holds
    ((judged (telephone 2 3) (on A (MeasuresOn 1 ∷ [])) gives accepted)
    ∷ (judged (telephone 2 3) (on A (MeasuresOn 1 ∷ MeasuresOn 1 ∷ [])) gives refused 21)
    ∷ (judged (materialised 4 9) (on B (MeasuresOn 3 ∷ MeasuresOn 3 ∷ [])) gives refused 21)
    -- those of another post or the other track are not this post's; lifted, they may be put back
    ∷ (judged (telephone 3 7) (on A (MeasuresOn 1 ∷ []) ++ on B (MeasuresOn 1 ∷ [])) gives accepted)
    ∷ (judged (telephone 3 7) (on A (MeasuresOn 1 ∷ MeasuresOn 2 ∷ [])) gives accepted)
    ∷ (judged (telephone 3 7) (on A (MeasuresOn 1 ∷ MeasuresOff 1 ∷ MeasuresOn 1 ∷ [])) gives accepted)
    ∷ [])
unfolding judged
measures_on_refused_21 = refl

-- "not so"
pub measures_off_refused_21 :
    Holds
    ((judged (telephone 2 3) (on A (MeasuresOn 0 ∷ MeasuresOff 0 ∷ [])) gives accepted)
    ∷ (judged (telephone 2 3) (on A (MeasuresOff 0 ∷ [])) gives refused 21)
    ∷ (judged (materialised 3 5) (on B (MeasuresOn 1 ∷ MeasuresOff 1 ∷ MeasuresOff 1 ∷ [])) gives refused 21)
    ∷ (judged (materialised 3 5) (on B (MeasuresOn 1 ∷ MeasuresOff 2 ∷ [])) gives refused 21)
    ∷ [])
unfolding judged
measures_off_refused_21 = refl

-- "measures off with the device at CVT": the device's position, not the running direction
pub measures_off_refused_16 :
    Holds
    ((judged (telephone 3 7) (on A (MeasuresOn 0 ∷ Order 0 ∷ Set 0 ∷ MeasuresOff 0 ∷ [])) gives refused 16)
    ∷ (judged (telephone 3 7) (on A (MeasuresOn 0 ∷ MeasuresOn 1 ∷ Order 0 ∷ Set 0 ∷ MeasuresOff 1 ∷ [])) gives accepted)
    ∷ (judged (materialised 2 3) (on B (reversal_to_cvt (1 ∷ 0 ∷ []) ++ MeasuresOff 0 ∷ [])) gives refused 16)
    ∷ (judged (materialised 2 3) (on B (reversal_to_cvt (1 ∷ 0 ∷ []) ++ Order 0 ∷ Set 0 ∷ MeasuresOff 0 ∷ [])) gives accepted)
    ∷ [])
unfolding judged
measures_off_refused_16 = refl

-- ## Kinds 10 and 11, fault on and off: "21"

-- "already so"
pub fault_on_refused_21 :
    Holds
    ((judged (telephone 2 3) (on A (FaultOn 0 One ∷ [])) gives accepted)
    ∷ (judged (telephone 2 3) (on A (FaultOn 0 One ∷ FaultOn 0 One ∷ [])) gives refused 21)
    ∷ (judged (materialised 3 7) (on B (FaultOn 1 Two ∷ [])) gives accepted)
    ∷ (judged (materialised 3 7) (on B (FaultOn 1 Two ∷ FaultOn 1 Two ∷ [])) gives refused 21)
    ∷ (judged (telephone 4 9) (on A (FaultOn 3 Three ∷ [])) gives accepted)
    ∷ (judged (telephone 4 9) (on A (FaultOn 3 Three ∷ FaultOn 3 Three ∷ [])) gives refused 21)
    -- "Kinds 10 and 11 take fault 4 too", with crossings or without, also at the receiving end
    ∷ (judged (telephone 4 9) (on A (FaultOn 3 Four ∷ [])) gives accepted)
    ∷ (judged (with_crossings (0 ∷ []) (materialised 2 3)) (on B (FaultOn 0 Four ∷ FaultOn 0 Four ∷ [])) gives refused 21)
    -- one fault is not another, nor another post's
    ∷ (judged (telephone 2 3) (on B (FaultOn 0 One ∷ FaultOn 0 Two ∷ FaultOn 0 Three ∷ [])) gives accepted)
    ∷ (judged (telephone 2 3) (on B (FaultOn 0 Three ∷ FaultOn 0 One ∷ FaultOn 0 Two ∷ [])) gives accepted)
    ∷ (judged (telephone 2 3) (on B (FaultOn 0 One ∷ FaultOn 0 Two ∷ FaultOn 0 Three ∷ FaultOn 0 Four ∷ [])) gives accepted)
    ∷ (judged (telephone 2 3) (on B (FaultOn 0 Four ∷ FaultOn 0 Three ∷ [])) gives accepted)
    ∷ (judged (telephone 2 3) (on B (FaultOn 0 One ∷ FaultOn 1 One ∷ [])) gives accepted)
    ∷ [])
unfolding judged
fault_on_refused_21 = refl

-- "not so"
pub fault_off_refused_21 :
    Holds
    ((judged (telephone 2 3) (on A (FaultOff 0 One ∷ [])) gives refused 21)
    ∷ (judged (telephone 2 3) (on A (FaultOn 0 One ∷ FaultOff 0 One ∷ [])) gives accepted)
    ∷ (judged (materialised 3 7) (on B (FaultOff 1 Two ∷ [])) gives refused 21)
    ∷ (judged (materialised 3 7) (on B (FaultOn 1 Two ∷ FaultOff 1 Two ∷ [])) gives accepted)
    ∷ (judged (telephone 4 9) (on A (FaultOff 3 Three ∷ [])) gives refused 21)
    ∷ (judged (telephone 4 9) (on A (FaultOn 3 Three ∷ FaultOff 3 Three ∷ [])) gives accepted)
    ∷ (judged (telephone 4 9) (on A (FaultOn 3 Three ∷ FaultOff 3 Four ∷ [])) gives refused 21)
    ∷ (judged (telephone 4 9) (on A (FaultOn 3 Four ∷ FaultOff 3 Four ∷ [])) gives accepted)
    -- it is gone, and the others stay
    ∷ (judged (telephone 2 3) (on B (FaultOn 0 Two ∷ FaultOff 0 Two ∷ FaultOff 0 Two ∷ [])) gives refused 21)
    ∷ (judged (telephone 2 3) (on B (FaultOn 0 Four ∷ FaultOff 0 Four ∷ FaultOff 0 Four ∷ [])) gives refused 21)
    ∷ (judged (telephone 2 3) (on B (FaultOn 0 One ∷ FaultOn 0 Two ∷ FaultOff 0 One ∷ FaultOff 0 Two ∷ [])) gives accepted)
    ∷ (judged (telephone 2 3) (on B (FaultOn 0 One ∷ FaultOn 0 Three ∷ FaultOff 0 Three ∷ FaultOff 0 One ∷ [])) gives accepted)
    ∷ [])
unfolding judged
fault_off_refused_21 = refl

-- ## Kind 14, a caution form: "given 12 where no crossing lies in the block section ahead"

-- with zones or without, needed or not, for any number, the same again
pub caution_accepted :
    Holds
    ((judged (with_crossings (0 ∷ []) (telephone 2 3)) (on A (Caution 0 1 ∷ [])) gives accepted)
    ∷ (judged (with_crossings (128 ∷ []) (telephone 2 3)) (on B (Caution 1 9999 ∷ [])) gives accepted)
    ∷ (judged (with_crossings (1 ∷ []) (materialised 4 9)) (on A (Caution 1 7 ∷ Caution 1 7 ∷ [])) gives accepted)
    -- A runs downward in CVT
    ∷ (judged (with_crossings (0 ∷ []) (telephone 3 7)) (on A (reversal_to_cvt (0 ∷ 1 ∷ 2 ∷ []) ++ Caution 1 7 ∷ [])) gives accepted)
    -- in a reversal, and at a post that has set in it
    ∷ (judged (with_crossings (0 ∷ []) (telephone 3 7)) (on A (MeasuresOn 0 ∷ Order 0 ∷ Caution 0 7 ∷ [])) gives accepted)
    ∷ (judged (with_crossings (0 ∷ []) (telephone 3 7)) (on A (MeasuresOn 0 ∷ Order 0 ∷ Set 0 ∷ Caution 0 7 ∷ [])) gives accepted)
    ∷ [])
unfolding judged
caution_accepted = refl

pub caution_refused_12 :
    Holds
    ((judged (telephone 3 7) (on A (Caution 0 7 ∷ [])) gives refused 12)
    -- a crossing further ahead, one before the post
    ∷ (judged (with_crossings (1 ∷ 129 ∷ []) (telephone 3 7)) (on A (Caution 0 7 ∷ [])) gives refused 12)
    ∷ (judged (with_crossings (0 ∷ []) (telephone 3 7)) (on A (Caution 1 7 ∷ [])) gives refused 12)
    ∷ (judged (with_crossings (1 ∷ []) (materialised 3 7)) (on B (Caution 1 7 ∷ [])) gives refused 12)
    -- the receiving end, upward and downward, and the end that sends in VNS when the track is settled on CVT
    ∷ (judged (with_crossings (0 ∷ 1 ∷ []) (telephone 3 7)) (on A (FaultOn 2 Four ∷ Caution 2 7 ∷ [])) gives refused 12)
    ∷ (judged (with_crossings (0 ∷ 1 ∷ []) (telephone 3 7)) (on B (Caution 0 7 ∷ [])) gives refused 12)
    ∷ (judged (with_crossings (0 ∷ []) (telephone 2 3)) (on A (reversal_to_cvt (0 ∷ 1 ∷ []) ++ Caution 0 7 ∷ [])) gives refused 12)
    ∷ [])
unfolding judged
caution_refused_12 = refl
