-- Examples of release and key. For each check of each kind there are days on which it alone refuses the last step, and days on which none
-- does.
use mathlib.Core.Path.{refl}
use mathlib.Core.List.{[], ◌∷◌, ◌++◌}
use Rattle.section.specs.declared.Section.{Section}
use Rattle.section.specs.declared.Fault.TheVariants.{One, Two, Three, Four}
use Rattle.section.specs.declared.Step.TheVariants.{Order, Set, Announce, Acknowledge, Start, Pass, Leave, MeasuresOn, FaultOn, FaultOff, Release, Key}
use Rattle.rules.proofs.Days.{A, B, telephone, materialised, fresh, changed_track, holding_last, sealed_at, on, reversal_to_cvt}
use Rattle.rules.proofs.Rows.{◌gives◌, Holds, judged, judged_from, accepted, refused, ◌before◌}

-- ## Kind 12, release: "15; 12 the last post; 21; 13; 17"

-- "in turn where set is, or at the sending end with no reversal under way"
pub release_accepted :
    Holds
    ((judged (telephone 2 3) (on A (FaultOn 0 One ∷ Release 0 0 ∷ [])) gives accepted)
    ∷ (judged (telephone 2 3) (on B (reversal_to_cvt (1 ∷ 0 ∷ []) ++ FaultOn 0 One ∷ Release 0 0 ∷ [])) gives accepted)
    ∷ (judged (materialised 3 7) (on B (FaultOn 2 One ∷ Order 2 ∷ Release 2 0 ∷ [])) gives accepted)
    ∷ (judged (telephone 3 7) (on A (MeasuresOn 0 ∷ Order 0 ∷ Set 0 ∷ Announce 0 ∷ Acknowledge 1 ∷ FaultOn 1 One ∷ Release 1 0 ∷ [])) gives accepted)
    -- "with a mark already there it is accepted"
    ∷ (judged (telephone 2 3) (on A (FaultOn 0 One ∷ Release 0 0 ∷ Release 0 0 ∷ [])) gives accepted)
    ∷ [])
unfolding judged
release_accepted = refl

-- "not this post's turn for it"
pub release_refused_15 :
    Holds
    -- settled, not at the sending end
    ((judged (telephone 3 7) (on A (FaultOn 1 One ∷ Release 1 0 ∷ [])) gives refused 15)
    -- the sending end, in a reversal after its set
    ∷ (judged (materialised 3 7) (on B (MeasuresOn 2 ∷ Order 2 ∷ Set 2 ∷ FaultOn 2 One ∷ Release 2 0 ∷ [])) gives refused 15)
    -- a post that is to acknowledge
    ∷ (judged (telephone 3 7) (on A (MeasuresOn 0 ∷ FaultOn 1 One ∷ Order 0 ∷ Set 0 ∷ Announce 0 ∷ Release 1 0 ∷ [])) gives refused 15)
    -- the end that sends in VNS, which is the last post too, when the track is settled on CVT
    ∷ (judged (telephone 2 3) (on A (reversal_to_cvt (0 ∷ 1 ∷ []) ++ FaultOn 0 One ∷ Release 0 0 ∷ [])) gives 15 before (12 ∷ []))
    ∷ [])
unfolding judged
release_refused_15 = refl

-- "the last post"
pub release_refused_12 :
    Holds
    ((judged (telephone 2 3) (on A (MeasuresOn 0 ∷ FaultOn 1 One ∷ Order 0 ∷ Set 0 ∷ Announce 0 ∷ Acknowledge 1 ∷ Release 1 0 ∷ [])) gives refused 12)
    ∷ (judged (materialised 2 3) (on B (MeasuresOn 1 ∷ FaultOn 0 One ∷ Order 1 ∷ Set 1 ∷ Announce 1 ∷ Acknowledge 0 ∷ Release 0 0 ∷ [])) gives refused 12)
    ∷ [])
unfolding judged
release_refused_12 = refl

-- "release: no fault 1, and nothing else"
pub release_refused_21 :
    Holds
    ((judged (telephone 2 3) (on A (Release 0 0 ∷ [])) gives refused 21)
    ∷ (judged (materialised 3 7) (on B (FaultOn 2 Two ∷ FaultOn 2 Three ∷ FaultOn 2 Four ∷ Release 2 0 ∷ [])) gives refused 21)
    ∷ (judged (telephone 2 3) (on A (FaultOn 0 One ∷ Release 0 0 ∷ FaultOff 0 One ∷ Release 0 0 ∷ [])) gives refused 21)
    ∷ [])
unfolding judged
release_refused_21 = refl

-- "one in the block section ahead"
pub release_refused_13 :
    Holds
    ((judged (telephone 3 7) (on A (FaultOn 0 One ∷ Release 0 0 ∷ Start 0 7 ∷ Release 0 7 ∷ [])) gives refused 13)
    ∷ (judged (materialised 3 7) (on B (Start 2 7 ∷ FaultOn 2 One ∷ Release 2 7 ∷ [])) gives refused 13)
    ∷ (judged (telephone 2 3) (on A (reversal_to_cvt (0 ∷ 1 ∷ []) ++ Start 1 7 ∷ FaultOn 1 One ∷ Release 1 7 ∷ [])) gives refused 13)
    -- not one that is further ahead
    ∷ (judged (telephone 3 5) (on A (Start 0 7 ∷ FaultOn 0 One ∷ Pass 1 7 ∷ Release 0 7 ∷ [])) gives accepted)
    -- the block section, not the stretch
    ∷ (judged (telephone 3 5) (on A (reversal_to_cvt (0 ∷ 1 ∷ 2 ∷ []) ++ Start 2 7 ∷ Pass 1 7 ∷ FaultOn 2 One ∷ Release 2 7 ∷ [])) gives accepted)
    ∷ [])
unfolding judged
release_refused_13 = refl

-- "not the last train that entered the block section ahead"; "0 for none yet"
pub release_refused_17 :
    Holds
    ((judged (telephone 2 3) (on A (FaultOn 0 One ∷ Release 0 7 ∷ [])) gives refused 17)
    ∷ (judged (telephone 2 3) (on A (Start 0 7 ∷ Leave 1 7 ∷ FaultOn 0 One ∷ Release 0 0 ∷ [])) gives refused 17)
    ∷ (judged (telephone 2 3) (on A (Start 0 7 ∷ Leave 1 7 ∷ FaultOn 0 One ∷ Release 0 7 ∷ [])) gives accepted)
    -- the last of two
    ∷ (judged (materialised 3 7) (on B (Start 2 7 ∷ Pass 1 7 ∷ Start 2 8 ∷ Leave 0 7 ∷ Pass 1 8 ∷ FaultOn 2 One ∷ Release 2 7 ∷ [])) gives refused 17)
    ∷ (judged (materialised 3 7) (on B (Start 2 7 ∷ Pass 1 7 ∷ Start 2 8 ∷ Leave 0 7 ∷ Pass 1 8 ∷ FaultOn 2 One ∷ Release 2 8 ∷ [])) gives accepted)
    -- the last that entered from the other end
    ∷ (judged (telephone 2 3) (on A (Start 0 7 ∷ Leave 1 7 ∷ reversal_to_cvt (0 ∷ 1 ∷ []) ++ FaultOn 1 One ∷ Release 1 7 ∷ [])) gives accepted)
    ∷ [])
unfolding judged
release_refused_17 = refl

-- train 7 entered block section 0 last, train 8 block section 1: no day reaches it with both free
unfoldable pub seven_and_eight : Section
unfolding fresh
seven_and_eight = changed_track A (holding_last (7 ∷ 8 ∷ [])) (fresh (telephone 3 7))

-- the block section ahead of the post, not the one before it
pub release_of_the_train_ahead :
    Holds
    ((judged_from seven_and_eight (on A (MeasuresOn 0 ∷ Order 0 ∷ Set 0 ∷ Announce 0 ∷ Acknowledge 1 ∷ FaultOn 1 One ∷ Release 1 7 ∷ [])) gives refused 17)
    ∷ (judged_from seven_and_eight (on A (MeasuresOn 0 ∷ Order 0 ∷ Set 0 ∷ Announce 0 ∷ Acknowledge 1 ∷ FaultOn 1 One ∷ Release 1 8 ∷ [])) gives accepted)
    ∷ [])
unfolding seven_and_eight judged
release_of_the_train_ahead = refl

-- "checks in order"
pub release_checks_in_order :
    Holds
    ((judged (telephone 2 3) (on A (Release 1 7 ∷ [])) gives 15 before (12 ∷ 21 ∷ 17 ∷ []))
    ∷ (judged (telephone 3 7) (on A (Start 0 7 ∷ Release 0 8 ∷ [])) gives 21 before (13 ∷ 17 ∷ []))
    ∷ [])
unfolding judged
release_checks_in_order = refl

-- ## Kind 13, key: "15; 21; 13; 18; 16; 20"

-- "fault 2 stops set, and key is its emergency button": at the first post, at the last, and back to VNS
pub key_accepted :
    Holds
    ((judged (telephone 3 7) (on A (MeasuresOn 0 ∷ FaultOn 0 Two ∷ Order 0 ∷ Key 0 ∷ [])) gives accepted)
    ∷ (judged (materialised 2 3)
    (on B (MeasuresOn 1 ∷ MeasuresOn 0 ∷ FaultOn 0 Two ∷ Order 1 ∷ Set 1 ∷ Announce 1 ∷ Acknowledge 0 ∷ Key 0 ∷ []))
    gives accepted)
    ∷ (judged (telephone 2 3) (on A (reversal_to_cvt (0 ∷ 1 ∷ []) ++ FaultOn 1 Two ∷ Order 1 ∷ Key 1 ∷ [])) gives accepted)
    ∷ [])
unfolding judged
key_accepted = refl

-- "not this post's turn for it"
pub key_refused_15 :
    Holds
    ((judged (telephone 3 7) (on A (MeasuresOn 0 ∷ FaultOn 0 Two ∷ Key 0 ∷ [])) gives refused 15)
    ∷ (judged (materialised 3 7) (on B (MeasuresOn 1 ∷ FaultOn 1 Two ∷ Order 2 ∷ Key 1 ∷ [])) gives refused 15)
    ∷ (judged (telephone 3 7) (on A (MeasuresOn 0 ∷ Order 0 ∷ Set 0 ∷ FaultOn 0 Two ∷ Key 0 ∷ [])) gives refused 15)
    ∷ [])
unfolding judged
key_refused_15 = refl

-- "key: no fault 2"
pub key_refused_21 :
    Holds
    ((judged (telephone 3 7) (on A (MeasuresOn 0 ∷ Order 0 ∷ Key 0 ∷ [])) gives refused 21)
    ∷ (judged (materialised 3 7) (on B (MeasuresOn 2 ∷ FaultOn 2 Three ∷ FaultOn 2 Four ∷ FaultOn 1 Two ∷ Order 2 ∷ Key 2 ∷ [])) gives refused 21)
    ∷ [])
unfolding judged
key_refused_21 = refl

-- "one in the block section ahead", the part where every post is signalled
pub key_refused_13 :
    Holds
    ((judged (materialised 3 7)
    (on A (Start 0 7 ∷ Pass 1 7 ∷ MeasuresOn 0 ∷ MeasuresOn 1 ∷ FaultOn 1 Two ∷ Order 0 ∷ Set 0 ∷ Announce 0 ∷ Acknowledge 1 ∷ Key 1 ∷ []))
    gives refused 13)
    ∷ (judged (materialised 3 7)
    (on B (Start 2 7 ∷ Pass 1 7 ∷ MeasuresOn 2 ∷ MeasuresOn 1 ∷ FaultOn 1 Two ∷ Order 2 ∷ Set 2 ∷ Announce 2 ∷ Acknowledge 1 ∷ Key 1 ∷ []))
    gives refused 13)
    -- not one that is further ahead, back to VNS
    ∷ (judged (materialised 3 7) (on A (reversal_to_cvt (0 ∷ 1 ∷ 2 ∷ []) ++ Start 2 7 ∷ Pass 1 7 ∷ FaultOn 2 Two ∷ Order 2 ∷ Key 2 ∷ [])) gives accepted)
    ∷ [])
unfolding judged
key_refused_13 = refl

-- "Fault 1 overruled by the key; only release does that." (of the slips); "never at the last post"
pub key_refused_18 :
    Holds
    ((judged (telephone 3 7) (on A (MeasuresOn 0 ∷ FaultOn 0 One ∷ FaultOn 0 Two ∷ Order 0 ∷ Key 0 ∷ [])) gives refused 18)
    ∷ (judged (telephone 3 7) (on A (MeasuresOn 0 ∷ FaultOn 0 One ∷ FaultOn 0 Two ∷ Order 0 ∷ Release 0 0 ∷ Key 0 ∷ [])) gives accepted)
    ∷ (judged (telephone 2 3) (on B (reversal_to_cvt (1 ∷ 0 ∷ []) ++ FaultOn 0 One ∷ FaultOn 0 Two ∷ Order 0 ∷ Key 0 ∷ [])) gives refused 18)
    ∷ (judged (telephone 2 3)
    (on A (MeasuresOn 0 ∷ MeasuresOn 1 ∷ FaultOn 1 One ∷ FaultOn 1 Two ∷ Order 0 ∷ Set 0 ∷ Announce 0 ∷ Acknowledge 1 ∷ Key 1 ∷ []))
    gives accepted)
    ∷ [])
unfolding judged
key_refused_18 = refl

-- "set or key to CVT without measures"
pub key_refused_16 :
    Holds
    ((judged (telephone 3 7) (on A (FaultOn 0 Two ∷ Order 0 ∷ Key 0 ∷ [])) gives refused 16)
    ∷ (judged (materialised 2 3) (on B (MeasuresOn 0 ∷ FaultOn 1 Two ∷ Order 1 ∷ Key 1 ∷ [])) gives refused 16)
    ∷ [])
unfolding judged
key_refused_16 = refl

-- "seal count is 999"
pub key_refused_20 :
    Holds
    ((judged_from (sealed_at B 2 998 (fresh (materialised 3 7))) (on B (MeasuresOn 2 ∷ FaultOn 2 Two ∷ Order 2 ∷ Key 2 ∷ [])) gives accepted)
    ∷ (judged_from (sealed_at B 2 999 (fresh (materialised 3 7))) (on B (MeasuresOn 2 ∷ FaultOn 2 Two ∷ Order 2 ∷ Key 2 ∷ [])) gives refused 20)
    -- set is no key
    ∷ (judged_from (sealed_at B 2 999 (fresh (materialised 3 7))) (on B (MeasuresOn 2 ∷ Order 2 ∷ Set 2 ∷ [])) gives accepted)
    ∷ [])
unfolding sealed_at judged
key_refused_20 = refl

-- "checks in order"
pub key_checks_in_order :
    Holds
    ((judged_from (sealed_at B 2 999 (fresh (materialised 3 7))) (on B (Start 2 7 ∷ FaultOn 2 One ∷ Key 2 ∷ [])) gives 15 before (21 ∷ 13 ∷ 18 ∷ 16 ∷ 20 ∷ []))
    ∷ (judged_from (sealed_at B 2 999 (fresh (materialised 3 7))) (on B (FaultOn 2 One ∷ Order 2 ∷ Key 2 ∷ [])) gives 21 before (18 ∷ 16 ∷ 20 ∷ []))
    ∷ [])
unfolding sealed_at judged
key_checks_in_order = refl
