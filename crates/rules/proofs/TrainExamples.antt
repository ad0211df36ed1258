-- Examples of a train's own steps: start, pass, leave. For each check of each kind there are days on which it alone refuses the last step,
-- and days on which none does.
use mathlib.Core.Path.{refl}
use mathlib.Core.List.{[], ◌∷◌, ◌++◌}
use Rattle.section.specs.declared.Section.{Section}
use Rattle.section.specs.declared.Walk.TheVariants.{Settled}
use Rattle.section.specs.declared.Fault.TheVariants.{One, Two, Three, Four}
use Rattle.section.specs.declared.Step.TheVariants.{Order, Start, Pass, Leave, FaultOn, FaultOff, Release, Caution}
use Rattle.rules.proofs.Days.{A, B, CVT, telephone, materialised, with_crossings, fresh, changed_track, running, holding, on, reversal_to_cvt}
use Rattle.rules.proofs.Rows.{◌gives◌, Holds, judged, judged_from, accepted, refused, ◌before◌}

-- ## Kind 5, start: "11; 12 not the sending end; 17; 13; 18", then 22, "last check of start and pass"

-- "train enters", at the sending end of each track in each direction
pub start_accepted :
    Holds
    ((judged (telephone 2 3) (on A (Start 0 7 ∷ [])) gives accepted)
    ∷ (judged (materialised 4 9) (on B (Start 3 9999 ∷ [])) gives accepted)
    ∷ (judged (telephone 3 7) (on A (reversal_to_cvt (0 ∷ 1 ∷ 2 ∷ []) ++ Start 2 1 ∷ [])) gives accepted)
    ∷ (judged (telephone 2 3) (on B (reversal_to_cvt (1 ∷ 0 ∷ []) ++ Start 0 7 ∷ [])) gives accepted)
    ∷ [])
unfolding judged
start_accepted = refl

-- "a reversal is under way on this track"
pub start_refused_11 :
    Holds
    ((judged (telephone 3 7) (on A (Order 0 ∷ Start 0 7 ∷ [])) gives refused 11)
    ∷ (judged (materialised 2 3) (on B (reversal_to_cvt (1 ∷ 0 ∷ []) ++ Order 0 ∷ Start 0 7 ∷ [])) gives refused 11)
    -- one on the other track stops no train
    ∷ (judged (telephone 3 7) (on B (Order 2 ∷ []) ++ on A (Start 0 7 ∷ [])) gives accepted)
    ∷ [])
unfolding judged
start_refused_11 = refl

-- "not the sending end"
pub start_refused_12 :
    Holds
    ((judged (telephone 3 7) (on B (Start 0 7 ∷ [])) gives refused 12)
    ∷ (judged (materialised 3 5) (on A (Start 1 7 ∷ [])) gives refused 12)
    ∷ (judged (telephone 3 7) (on A (reversal_to_cvt (0 ∷ 1 ∷ 2 ∷ []) ++ Start 0 7 ∷ [])) gives refused 12)
    ∷ (judged (telephone 2 3) (on B (reversal_to_cvt (1 ∷ 0 ∷ []) ++ Start 1 7 ∷ [])) gives refused 12)
    ∷ [])
unfolding judged
start_refused_12 = refl

-- "number already on this track"
pub start_refused_17 :
    Holds
    ((judged (telephone 3 7) (on A (Start 0 7 ∷ Pass 1 7 ∷ Start 0 7 ∷ [])) gives refused 17)
    ∷ (judged (materialised 4 15) (on B (Start 3 7 ∷ Pass 2 7 ∷ Pass 1 7 ∷ Start 3 7 ∷ [])) gives refused 17)
    ∷ (judged (telephone 3 7) (on A (reversal_to_cvt (0 ∷ 1 ∷ 2 ∷ []) ++ Start 2 7 ∷ Pass 1 7 ∷ Start 2 7 ∷ [])) gives refused 17)
    -- on the other track, or gone
    ∷ (judged (telephone 3 7) (on A (Start 0 7 ∷ []) ++ on B (Start 2 7 ∷ [])) gives accepted)
    ∷ (judged (telephone 2 3) (on A (Start 0 7 ∷ Leave 1 7 ∷ Start 0 7 ∷ [])) gives accepted)
    ∷ [])
unfolding judged
start_refused_17 = refl

-- "a train in that stretch": "for VNS, one block section", also over a post that is not signalled
pub start_refused_13_in_vns :
    Holds
    ((judged (telephone 3 5) (on A (Start 0 7 ∷ Start 0 8 ∷ [])) gives refused 13)
    ∷ (judged (telephone 3 5) (on A (Start 0 7 ∷ Pass 1 7 ∷ Start 0 8 ∷ [])) gives accepted)
    ∷ (judged (materialised 4 9) (on B (Start 3 7 ∷ Start 3 8 ∷ [])) gives refused 13)
    ∷ (judged (materialised 4 9) (on B (Start 3 7 ∷ Pass 2 7 ∷ Start 3 8 ∷ [])) gives accepted)
    ∷ [])
unfolding judged
start_refused_13_in_vns = refl

-- "For CVT it reaches from one signalled post to the next (art. 903)."
pub start_refused_13_in_cvt :
    Holds
    -- post 1 of three is not signalled, and is signalled
    ((judged (telephone 3 5) (on A (reversal_to_cvt (0 ∷ 1 ∷ 2 ∷ []) ++ Start 2 7 ∷ Pass 1 7 ∷ Start 2 8 ∷ [])) gives refused 13)
    ∷ (judged (telephone 3 7) (on A (reversal_to_cvt (0 ∷ 1 ∷ 2 ∷ []) ++ Start 2 7 ∷ Pass 1 7 ∷ Start 2 8 ∷ [])) gives accepted)
    ∷ [])
unfolding judged
start_refused_13_in_cvt = refl

-- four posts, of which post 2 is not signalled, or post 1: A runs downward in CVT, B upward
pub start_from_signalled_to_signalled :
    Holds
    ((judged (materialised 4 11) (on A (reversal_to_cvt (0 ∷ 1 ∷ 2 ∷ 3 ∷ []) ++ Start 3 7 ∷ Pass 2 7 ∷ Start 3 8 ∷ [])) gives refused 13)
    ∷ (judged (materialised 4 13) (on A (reversal_to_cvt (0 ∷ 1 ∷ 2 ∷ 3 ∷ []) ++ Start 3 7 ∷ Pass 2 7 ∷ Start 3 8 ∷ [])) gives accepted)
    ∷ (judged (materialised 4 11) (on B (reversal_to_cvt (3 ∷ 2 ∷ 1 ∷ 0 ∷ []) ++ Start 0 7 ∷ Pass 1 7 ∷ Start 0 8 ∷ [])) gives accepted)
    ∷ (judged (materialised 4 13) (on B (reversal_to_cvt (3 ∷ 2 ∷ 1 ∷ 0 ∷ []) ++ Start 0 7 ∷ Pass 1 7 ∷ Start 0 8 ∷ [])) gives refused 13)
    ∷ [])
unfolding judged
start_from_signalled_to_signalled = refl

-- train 8 in the stretch from post 2 over post 1, which is not signalled, in CVT, with the devices at VNS: no day reaches it
unfoldable pub devices_at_vns : Section
unfolding fresh
devices_at_vns = changed_track A (λ t. holding (8 ∷ []) (running CVT Settled t)) (fresh (telephone 3 5))

-- the stretch is of the running direction, not of the device
pub start_looks_at_no_device : Holds ((judged_from devices_at_vns (on A (Start 2 7 ∷ [])) gives refused 13) ∷ [])
unfolding devices_at_vns judged
start_looks_at_no_device = refl

-- "Fault 1 stops set, key and start until the train last sent is confirmed"
pub start_refused_18 :
    Holds
    ((judged (telephone 3 7) (on B (FaultOn 2 One ∷ Start 2 7 ∷ [])) gives refused 18)
    ∷ (judged (telephone 2 3) (on A (reversal_to_cvt (0 ∷ 1 ∷ []) ++ FaultOn 1 One ∷ Start 1 7 ∷ [])) gives refused 18)
    ∷ (judged (telephone 3 7) (on B (FaultOn 2 One ∷ Release 2 0 ∷ Start 2 7 ∷ [])) gives accepted)
    -- the start takes the mark
    ∷ (judged (telephone 3 7) (on B (FaultOn 2 One ∷ Release 2 0 ∷ Start 2 7 ∷ Pass 1 7 ∷ Start 2 8 ∷ [])) gives refused 18)
    ∷ (judged (telephone 3 7) (on B (FaultOn 2 One ∷ Release 2 0 ∷ Start 2 7 ∷ Pass 1 7 ∷ Release 2 7 ∷ Start 2 8 ∷ [])) gives accepted)
    -- fault 1 at another post, faults 2 and 3
    ∷ (judged (materialised 3 7) (on A (FaultOn 1 One ∷ FaultOn 2 One ∷ Start 0 7 ∷ [])) gives accepted)
    ∷ (judged (materialised 3 7) (on A (FaultOn 0 Two ∷ FaultOn 0 Three ∷ Start 0 7 ∷ [])) gives accepted)
    ∷ [])
unfolding judged
start_refused_18 = refl

-- "fault gone; for fault 1 the mark too"
pub start_after_a_fault :
    Holds
    ((judged (telephone 2 3) (on A (FaultOn 0 One ∷ FaultOff 0 One ∷ Start 0 7 ∷ [])) gives accepted)
    ∷ (judged (telephone 2 3) (on A (FaultOn 0 One ∷ Release 0 0 ∷ FaultOff 0 One ∷ FaultOn 0 One ∷ Start 0 7 ∷ [])) gives refused 18)
    -- the end of fault 2 or 3 leaves it
    ∷ (judged (telephone 2 3) (on B (FaultOn 1 One ∷ FaultOn 1 Two ∷ Release 1 0 ∷ FaultOff 1 Two ∷ Start 1 7 ∷ [])) gives accepted)
    ∷ (judged (telephone 2 3) (on B (FaultOn 1 One ∷ FaultOn 1 Three ∷ Release 1 0 ∷ FaultOff 1 Three ∷ Start 1 7 ∷ [])) gives accepted)
    ∷ [])
unfolding judged
start_after_a_fault = refl

-- "Start or pass into a block section with a crossing, under fault 4 .., needs an E.S. 379 form for that train": upward and downward, in VNS
-- and in CVT
pub start_refused_22_under_fault_4 :
    Holds
    ((judged (with_crossings (0 ∷ []) (telephone 3 7)) (on A (FaultOn 0 Four ∷ Start 0 7 ∷ [])) gives refused 22)
    ∷ (judged (with_crossings (1 ∷ []) (materialised 3 7)) (on B (FaultOn 2 Four ∷ Start 2 7 ∷ [])) gives refused 22)
    ∷ (judged (with_crossings (0 ∷ []) (telephone 2 3)) (on A (reversal_to_cvt (0 ∷ 1 ∷ []) ++ FaultOn 1 Four ∷ Start 1 7 ∷ [])) gives refused 22)
    ∷ (judged (with_crossings (0 ∷ []) (telephone 3 7)) (on A (FaultOn 0 Four ∷ Caution 0 7 ∷ Start 0 7 ∷ [])) gives accepted)
    ∷ (judged (with_crossings (1 ∷ []) (materialised 3 7)) (on B (Caution 2 7 ∷ FaultOn 2 Four ∷ Start 2 7 ∷ [])) gives accepted)
    -- the form of another train, of another post, of the other track
    ∷ (judged (with_crossings (0 ∷ []) (telephone 3 7)) (on A (FaultOn 0 Four ∷ Caution 0 8 ∷ Start 0 7 ∷ [])) gives refused 22)
    ∷ (judged (with_crossings (0 ∷ 1 ∷ []) (telephone 3 7)) (on A (FaultOn 0 Four ∷ Caution 1 7 ∷ Start 0 7 ∷ [])) gives refused 22)
    ∷ (judged (with_crossings (0 ∷ []) (telephone 2 3)) (on B (Caution 1 7 ∷ []) ++ on A (FaultOn 0 Four ∷ Start 0 7 ∷ [])) gives refused 22)
    ∷ [])
unfolding judged
start_refused_22_under_fault_4 = refl

-- without fault 4, or without a crossing ahead, none is needed
pub start_without_a_caution_form :
    Holds
    ((judged (with_crossings (0 ∷ []) (telephone 3 7)) (on A (FaultOn 0 Two ∷ FaultOn 0 Three ∷ Start 0 7 ∷ [])) gives accepted)
    ∷ (judged (with_crossings (0 ∷ []) (telephone 3 7)) (on A (FaultOn 0 Four ∷ FaultOff 0 Four ∷ Start 0 7 ∷ [])) gives accepted)
    -- fault 4 of another post, of the other track
    ∷ (judged (with_crossings (0 ∷ 1 ∷ []) (telephone 3 7)) (on A (FaultOn 1 Four ∷ FaultOn 2 Four ∷ Start 0 7 ∷ [])) gives accepted)
    ∷ (judged (with_crossings (0 ∷ []) (telephone 2 3)) (on B (FaultOn 0 Four ∷ []) ++ on A (Start 0 7 ∷ [])) gives accepted)
    -- no crossing, or one further ahead
    ∷ (judged (telephone 3 7) (on A (FaultOn 0 Four ∷ Start 0 7 ∷ [])) gives accepted)
    ∷ (judged (with_crossings (1 ∷ []) (telephone 3 7)) (on A (FaultOn 0 Four ∷ Start 0 7 ∷ [])) gives accepted)
    ∷ (judged (with_crossings (0 ∷ 128 ∷ []) (materialised 3 7)) (on B (FaultOn 2 Four ∷ Start 2 7 ∷ [])) gives accepted)
    ∷ [])
unfolding judged
start_without_a_caution_form = refl

-- "or in CVT without zones": A runs downward in CVT, B upward
pub start_refused_22_without_zones :
    Holds
    ((judged (with_crossings (129 ∷ []) (telephone 3 7)) (on A (reversal_to_cvt (0 ∷ 1 ∷ 2 ∷ []) ++ Start 2 7 ∷ [])) gives refused 22)
    ∷ (judged (with_crossings (128 ∷ []) (materialised 3 7)) (on B (reversal_to_cvt (2 ∷ 1 ∷ 0 ∷ []) ++ Start 0 7 ∷ [])) gives refused 22)
    ∷ (judged (with_crossings (129 ∷ []) (telephone 3 7)) (on A (reversal_to_cvt (0 ∷ 1 ∷ 2 ∷ []) ++ Caution 2 7 ∷ Start 2 7 ∷ [])) gives accepted)
    -- two crossings in one block section, of which the second is without
    ∷ (judged (with_crossings (1 ∷ 129 ∷ []) (telephone 3 7)) (on A (reversal_to_cvt (0 ∷ 1 ∷ 2 ∷ []) ++ Start 2 7 ∷ [])) gives refused 22)
    -- with zones, or without them elsewhere
    ∷ (judged (with_crossings (1 ∷ 1 ∷ []) (telephone 3 7)) (on A (reversal_to_cvt (0 ∷ 1 ∷ 2 ∷ []) ++ Start 2 7 ∷ [])) gives accepted)
    ∷ (judged (with_crossings (128 ∷ 1 ∷ []) (telephone 3 7)) (on A (reversal_to_cvt (0 ∷ 1 ∷ 2 ∷ []) ++ Start 2 7 ∷ [])) gives accepted)
    -- in VNS they are not asked for
    ∷ (judged (with_crossings (128 ∷ []) (telephone 3 7)) (on A (Start 0 7 ∷ [])) gives accepted)
    ∷ (judged (with_crossings (128 ∷ 129 ∷ []) (materialised 3 7)) (on B (Start 2 7 ∷ [])) gives accepted)
    ∷ [])
unfolding judged
start_refused_22_without_zones = refl

-- A in CVT with the devices at VNS, a crossing without zones in block section 1: no day reaches it
unfoldable pub without_zones : Section
unfolding fresh
without_zones = changed_track A (running CVT Settled) (fresh (with_crossings (129 ∷ []) (telephone 3 7)))

-- the running direction asks for the form, not the device
pub caution_form_looks_at_no_device : Holds ((judged_from without_zones (on A (Start 2 7 ∷ [])) gives refused 22) ∷ [])
unfolding without_zones judged
caution_form_looks_at_no_device = refl

-- "checks in order"
pub start_checks_in_order :
    Holds
    ((judged (telephone 3 7) (on A (Order 0 ∷ Start 1 7 ∷ [])) gives 11 before (12 ∷ []))
    ∷ (judged (telephone 3 7) (on A (Start 0 7 ∷ Start 2 7 ∷ [])) gives 12 before (17 ∷ []))
    ∷ (judged (telephone 3 7) (on B (Start 2 7 ∷ FaultOn 2 One ∷ Start 2 7 ∷ [])) gives 17 before (13 ∷ 18 ∷ []))
    ∷ (judged (telephone 3 7) (on B (Start 2 7 ∷ FaultOn 2 One ∷ Start 2 8 ∷ [])) gives 13 before (18 ∷ []))
    ∷ (judged (with_crossings (0 ∷ []) (telephone 3 7)) (on A (Start 0 7 ∷ FaultOn 0 Four ∷ Start 0 8 ∷ [])) gives 13 before (22 ∷ []))
    ∷ (judged (with_crossings (0 ∷ []) (telephone 3 7)) (on A (FaultOn 0 One ∷ FaultOn 0 Four ∷ Start 0 7 ∷ [])) gives 18 before (22 ∷ []))
    ∷ [])
unfolding judged
start_checks_in_order = refl

-- ## Kind 6, pass: "12 an end post; 17; 13", then 22

-- "train moves one block section on"
pub pass_accepted :
    Holds
    ((judged (telephone 3 7) (on A (Start 0 7 ∷ Pass 1 7 ∷ [])) gives accepted)
    ∷ (judged (materialised 4 9) (on B (Start 3 7 ∷ Pass 2 7 ∷ Pass 1 7 ∷ [])) gives accepted)
    ∷ (judged (telephone 3 5) (on A (reversal_to_cvt (0 ∷ 1 ∷ 2 ∷ []) ++ Start 2 7 ∷ Pass 1 7 ∷ [])) gives accepted)
    ∷ [])
unfolding judged
pass_accepted = refl

-- "an end post"
pub pass_refused_12 :
    Holds
    -- the receiving end
    ((judged (telephone 2 3) (on A (Start 0 7 ∷ Pass 1 7 ∷ [])) gives refused 12)
    ∷ (judged (materialised 3 7) (on B (Start 2 7 ∷ Pass 1 7 ∷ Pass 0 7 ∷ [])) gives refused 12)
    ∷ (judged (telephone 2 3) (on A (reversal_to_cvt (0 ∷ 1 ∷ []) ++ Start 1 7 ∷ Pass 0 7 ∷ [])) gives refused 12)
    -- the sending end
    ∷ (judged (telephone 2 3) (on A (Start 0 7 ∷ Pass 0 7 ∷ [])) gives 12 before (17 ∷ 13 ∷ []))
    ∷ (judged (telephone 3 7) (on B (Pass 2 7 ∷ [])) gives 12 before (17 ∷ []))
    ∷ [])
unfolding judged
pass_refused_12 = refl

-- "that train isn't in the block section before the post"
pub pass_refused_17 :
    Holds
    ((judged (telephone 3 7) (on A (Start 0 7 ∷ Pass 1 8 ∷ [])) gives refused 17)
    ∷ (judged (materialised 4 15) (on B (Start 3 7 ∷ Pass 1 7 ∷ [])) gives refused 17)
    ∷ (judged (telephone 3 7) (on A (reversal_to_cvt (0 ∷ 1 ∷ 2 ∷ []) ++ Pass 1 7 ∷ [])) gives refused 17)
    -- the other track's train
    ∷ (judged (telephone 3 7) (on A (Start 0 7 ∷ []) ++ on B (Pass 1 7 ∷ [])) gives refused 17)
    -- a train that is further ahead
    ∷ (judged (telephone 4 15) (on A (Start 0 7 ∷ Pass 1 7 ∷ Pass 1 7 ∷ [])) gives 17 before (13 ∷ []))
    ∷ [])
unfolding judged
pass_refused_17 = refl

-- "pass at a post that begins a stretch: a train in that stretch": in VNS one block section
pub pass_refused_13_in_vns :
    Holds
    ((judged (telephone 3 5) (on A (Start 0 7 ∷ Pass 1 7 ∷ Start 0 8 ∷ Pass 1 8 ∷ [])) gives refused 13)
    ∷ (judged (materialised 3 7) (on B (Start 2 7 ∷ Pass 1 7 ∷ Start 2 8 ∷ Pass 1 8 ∷ [])) gives refused 13)
    -- four posts, post 2 not signalled: block section 1 is free
    ∷ (judged (telephone 4 11) (on A (Start 0 7 ∷ Pass 1 7 ∷ Pass 2 7 ∷ Start 0 8 ∷ Pass 1 8 ∷ [])) gives accepted)
    ∷ [])
unfolding judged
pass_refused_13_in_vns = refl

-- in CVT from one signalled post to the next: B runs upward from post 0, post 2 of four is not signalled, or is
pub pass_refused_13_in_cvt :
    Holds
    ((judged (telephone 4 11)
    (on B (reversal_to_cvt (3 ∷ 2 ∷ 1 ∷ 0 ∷ []) ++ Start 0 7 ∷ Pass 1 7 ∷ Pass 2 7 ∷ Start 0 8 ∷ Pass 1 8 ∷ []))
    gives refused 13)
    ∷ (judged (telephone 4 15)
    (on B (reversal_to_cvt (3 ∷ 2 ∷ 1 ∷ 0 ∷ []) ++ Start 0 7 ∷ Pass 1 7 ∷ Pass 2 7 ∷ Start 0 8 ∷ Pass 1 8 ∷ []))
    gives accepted)
    ∷ [])
unfolding judged
pass_refused_13_in_cvt = refl

-- trains 7 and 8 on either side of post 1, which is not signalled, in CVT: no day reaches it
unfoldable pub two_in_one_stretch : Section
unfolding fresh
two_in_one_stretch = changed_track A (λ t. holding (8 ∷ 7 ∷ []) (running CVT Settled t)) (fresh (telephone 3 5))

-- "Pass elsewhere: never."
pub pass_elsewhere : Holds ((judged_from two_in_one_stretch (on A (Pass 1 7 ∷ [])) gives accepted) ∷ [])
unfolding two_in_one_stretch judged
pass_elsewhere = refl

-- "Start or pass into a block section with a crossing, under fault 4 .."
pub pass_refused_22_under_fault_4 :
    Holds
    ((judged (with_crossings (1 ∷ []) (telephone 3 7)) (on A (FaultOn 1 Four ∷ Start 0 7 ∷ Pass 1 7 ∷ [])) gives refused 22)
    ∷ (judged (with_crossings (0 ∷ []) (materialised 3 7)) (on B (FaultOn 1 Four ∷ Start 2 7 ∷ Pass 1 7 ∷ [])) gives refused 22)
    ∷ (judged (with_crossings (0 ∷ []) (telephone 3 5)) (on A (reversal_to_cvt (0 ∷ 1 ∷ 2 ∷ []) ++ Start 2 7 ∷ FaultOn 1 Four ∷ Pass 1 7 ∷ []))
    gives refused 22)
    ∷ (judged (with_crossings (1 ∷ []) (telephone 3 7)) (on A (FaultOn 1 Four ∷ Start 0 7 ∷ Caution 1 7 ∷ Pass 1 7 ∷ [])) gives accepted)
    -- the form of another train, of another post
    ∷ (judged (with_crossings (1 ∷ []) (telephone 3 7)) (on A (FaultOn 1 Four ∷ Start 0 7 ∷ Caution 1 8 ∷ Pass 1 7 ∷ [])) gives refused 22)
    ∷ (judged (with_crossings (0 ∷ 1 ∷ []) (telephone 3 7)) (on A (FaultOn 1 Four ∷ Start 0 7 ∷ Caution 0 7 ∷ Pass 1 7 ∷ [])) gives refused 22)
    -- no crossing ahead, or one behind the train
    ∷ (judged (telephone 3 7) (on A (FaultOn 1 Four ∷ Start 0 7 ∷ Pass 1 7 ∷ [])) gives accepted)
    ∷ (judged (with_crossings (0 ∷ []) (telephone 3 7)) (on A (FaultOn 1 Four ∷ Start 0 7 ∷ Pass 1 7 ∷ [])) gives accepted)
    ∷ [])
unfolding judged
pass_refused_22_under_fault_4 = refl

-- "or in CVT without zones": at a post that begins no stretch too
pub pass_refused_22_without_zones :
    Holds
    ((judged (with_crossings (128 ∷ []) (telephone 3 5)) (on A (reversal_to_cvt (0 ∷ 1 ∷ 2 ∷ []) ++ Start 2 7 ∷ Pass 1 7 ∷ [])) gives refused 22)
    ∷ (judged (with_crossings (129 ∷ []) (materialised 3 7)) (on B (reversal_to_cvt (2 ∷ 1 ∷ 0 ∷ []) ++ Start 0 7 ∷ Pass 1 7 ∷ [])) gives refused 22)
    ∷ (judged (with_crossings (128 ∷ []) (telephone 3 5)) (on A (reversal_to_cvt (0 ∷ 1 ∷ 2 ∷ []) ++ Start 2 7 ∷ Caution 1 7 ∷ Pass 1 7 ∷ [])) gives accepted)
    -- two crossings in one block section, of which the second is without
    ∷ (judged (with_crossings (0 ∷ 128 ∷ []) (telephone 3 7)) (on A (reversal_to_cvt (0 ∷ 1 ∷ 2 ∷ []) ++ Start 2 7 ∷ Pass 1 7 ∷ [])) gives refused 22)
    -- with zones, and in VNS
    ∷ (judged (with_crossings (0 ∷ []) (telephone 3 7)) (on A (reversal_to_cvt (0 ∷ 1 ∷ 2 ∷ []) ++ Start 2 7 ∷ Pass 1 7 ∷ [])) gives accepted)
    ∷ (judged (with_crossings (129 ∷ []) (telephone 3 7)) (on A (Start 0 7 ∷ Pass 1 7 ∷ [])) gives accepted)
    ∷ [])
unfolding judged
pass_refused_22_without_zones = refl

-- "checks in order"
pub pass_checks_in_order :
    Holds
    ((judged (with_crossings (0 ∷ []) (telephone 3 7)) (on A (FaultOn 0 Four ∷ Pass 0 7 ∷ [])) gives 12 before (17 ∷ 22 ∷ []))
    ∷ (judged (with_crossings (1 ∷ []) (telephone 3 7)) (on A (FaultOn 1 Four ∷ Start 0 7 ∷ Pass 1 8 ∷ [])) gives 17 before (22 ∷ []))
    ∷ (judged (with_crossings (1 ∷ []) (telephone 3 7)) (on A (Start 0 7 ∷ Pass 1 7 ∷ Start 0 8 ∷ FaultOn 1 Four ∷ Pass 1 8 ∷ [])) gives 13 before (22 ∷ []))
    ∷ [])
unfolding judged
pass_checks_in_order = refl

-- ## A caution form is "used up by that train's entry, needed or not"

pub caution_form_serves_once :
    Holds
    ((judged (with_crossings (0 ∷ []) (telephone 2 3)) (on A (FaultOn 0 Four ∷ Caution 0 7 ∷ Start 0 7 ∷ Leave 1 7 ∷ Start 0 7 ∷ [])) gives refused 22)
    ∷ (judged (with_crossings (0 ∷ []) (telephone 2 3)) (on A (Caution 0 7 ∷ Start 0 7 ∷ Leave 1 7 ∷ FaultOn 0 Four ∷ Start 0 7 ∷ [])) gives refused 22)
    -- the entry of another train leaves it
    ∷ (judged (with_crossings (0 ∷ []) (telephone 2 3)) (on A (Caution 0 8 ∷ Start 0 7 ∷ Leave 1 7 ∷ FaultOn 0 Four ∷ Start 0 8 ∷ [])) gives accepted)
    -- "A newer form replaces the older"
    ∷ (judged (with_crossings (0 ∷ []) (telephone 2 3)) (on A (FaultOn 0 Four ∷ Caution 0 7 ∷ Caution 0 8 ∷ Start 0 7 ∷ [])) gives refused 22)
    ∷ (judged (with_crossings (0 ∷ []) (telephone 2 3)) (on A (FaultOn 0 Four ∷ Caution 0 7 ∷ Caution 0 8 ∷ Start 0 8 ∷ [])) gives accepted)
    ∷ [])
unfolding judged
caution_form_serves_once = refl

-- a pass looks at no walk and no device, and of the faults at fault 4 alone: a train runs on in a reversal behind it
pub pass_in_a_reversal :
    Holds
    ((judged (materialised 4 15) (on A (FaultOn 2 One ∷ Start 0 7 ∷ Pass 1 7 ∷ Order 0 ∷ Pass 2 7 ∷ [])) gives accepted)
    ∷ (judged (materialised 3 7) (on B (Start 2 7 ∷ Pass 1 7 ∷ Order 2 ∷ Leave 0 7 ∷ [])) gives accepted)
    -- under fault 4 with a caution form, which may be handed out in the reversal
    ∷ (judged (with_crossings (2 ∷ []) (materialised 4 15)) (on A (FaultOn 2 Four ∷ Start 0 7 ∷ Pass 1 7 ∷ Order 0 ∷ Pass 2 7 ∷ [])) gives refused 22)
    ∷ (judged (with_crossings (2 ∷ []) (materialised 4 15)) (on A (FaultOn 2 Four ∷ Start 0 7 ∷ Pass 1 7 ∷ Order 0 ∷ Caution 2 7 ∷ Pass 2 7 ∷ []))
    gives accepted)
    ∷ [])
unfolding judged
pass_in_a_reversal = refl

-- ## Kind 7, leave: "12 not the receiving end; 17"

-- "train gone"
pub leave_accepted :
    Holds
    ((judged (telephone 2 3) (on A (Start 0 7 ∷ Leave 1 7 ∷ [])) gives accepted)
    ∷ (judged (materialised 3 7) (on B (Start 2 7 ∷ Pass 1 7 ∷ Leave 0 7 ∷ [])) gives accepted)
    ∷ (judged (telephone 2 3) (on A (reversal_to_cvt (0 ∷ 1 ∷ []) ++ Start 1 7 ∷ Leave 0 7 ∷ [])) gives accepted)
    ∷ [])
unfolding judged
leave_accepted = refl

-- "not the receiving end"
pub leave_refused_12 :
    Holds
    ((judged (telephone 3 7) (on A (Start 0 7 ∷ Leave 1 7 ∷ [])) gives refused 12)
    ∷ (judged (materialised 4 9) (on B (Start 3 7 ∷ Pass 2 7 ∷ Leave 1 7 ∷ [])) gives refused 12)
    ∷ (judged (telephone 3 7) (on A (reversal_to_cvt (0 ∷ 1 ∷ 2 ∷ []) ++ Start 2 7 ∷ Leave 1 7 ∷ [])) gives refused 12)
    -- in CVT the end that receives in VNS, before which there is no block section
    ∷ (judged (telephone 2 3) (on B (reversal_to_cvt (1 ∷ 0 ∷ []) ++ Start 0 7 ∷ Leave 0 7 ∷ [])) gives 12 before (17 ∷ []))
    ∷ [])
unfolding judged
leave_refused_12 = refl

-- "that train isn't in the block section before the post"
pub leave_refused_17 :
    Holds
    ((judged (telephone 3 7) (on A (Start 0 7 ∷ Pass 1 7 ∷ Leave 2 8 ∷ [])) gives refused 17)
    ∷ (judged (materialised 3 7) (on B (Start 2 7 ∷ Leave 0 7 ∷ [])) gives refused 17)
    ∷ (judged (telephone 2 3) (on A (reversal_to_cvt (0 ∷ 1 ∷ []) ++ Leave 0 7 ∷ [])) gives refused 17)
    ∷ (judged (telephone 3 7) (on A (Start 0 7 ∷ Leave 1 8 ∷ [])) gives 12 before (17 ∷ []))
    ∷ [])
unfolding judged
leave_refused_17 = refl
