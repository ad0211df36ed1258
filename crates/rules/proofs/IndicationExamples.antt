-- Examples of what a post shows (document 01, "What a post shows"): CIRCULATION, TRONÇON, the start permission.
use Prim.Native.Nat.{ℕ}
use mathlib.Core.Bool.{Bool}
use mathlib.Core.Path.{refl}
use mathlib.Core.List.{List, [], ◌∷◌, ◌++◌}
use mathlib.Core.Option.{Option, some}
use Rattle.section.specs.declared.Settings.{Settings}
use Rattle.section.specs.declared.Section.{Section}
use Rattle.section.specs.declared.Indications.{Indications}
use Rattle.section.specs.declared.TrackStep.{TrackStep}
use Rattle.section.specs.declared.Fault.TheVariants.{One, Two, Three, Four}
use Rattle.section.specs.declared.Step.TheVariants.{Order, Set, Announce, Acknowledge, Start, Pass, MeasuresOn, FaultOn, Release}
use Rattle.section.specs.Bytes.{truth_number}
use Rattle.rules.specs.Site.{last_before}
use Rattle.rules.specs.Indications.{set_count, is_next_to_set, circulation, troncon, shown, lamps_at, dark, indications_on, indications}
use Rattle.rules.proofs.Days.{A, B, telephone, materialised, fresh, sealed_at, on, reversal_to_cvt}
use Rattle.rules.proofs.Rows.{◌gives◌, Holds, seen}

-- CIRCULATION, TRONÇON, permission
abbrev pub lamps : ℕ → ℕ → ℕ → Indications
lamps circulation troncon permission = record { circulation = circulation; troncon = troncon; permission = permission }

-- what a post shows after a day all of whose steps are accepted
unfoldable pub shown_after : Settings → List TrackStep → Bool → ℕ → Option Indications
unfolding seen indications indications_on lamps_at shown circulation troncon last_before is_next_to_set set_count dark
shown_after c day track p = seen (λ (s : Section). indications s (truth_number track) p) c day

-- ## CIRCULATION

-- "1 VNS or 2 CVT as the device stands"
pub steady :
    Holds
    ((shown_after (telephone 2 3) [] A 0 gives some (lamps 1 1 1))
    ∷ (shown_after (telephone 2 3) [] A 1 gives some (lamps 1 0 0))
    ∷ (shown_after (telephone 2 3) [] B 0 gives some (lamps 1 0 0))
    ∷ (shown_after (telephone 2 3) [] B 1 gives some (lamps 1 1 1))
    ∷ (shown_after (materialised 3 7) (on A (reversal_to_cvt (0 ∷ 1 ∷ 2 ∷ []))) A 0 gives some (lamps 2 0 0))
    ∷ (shown_after (materialised 3 7) (on A (reversal_to_cvt (0 ∷ 1 ∷ 2 ∷ []))) A 1 gives some (lamps 2 1 0))
    ∷ (shown_after (materialised 3 7) (on A (reversal_to_cvt (0 ∷ 1 ∷ 2 ∷ []))) A 2 gives some (lamps 2 1 1))
    ∷ [])
unfolding shown_after
steady = refl

-- "flashing, .. in the materialised form when the post before has set in this reversal and this one hasn't": from the set of the post before
pub flashes_to_cvt :
    Holds
    ((shown_after (materialised 3 7) (on A (MeasuresOn 0 ∷ Order 0 ∷ [])) A 1 gives some (lamps 1 1 0))
    ∷ (shown_after (materialised 3 7) (on A (MeasuresOn 0 ∷ Order 0 ∷ Set 0 ∷ [])) A 1 gives some (lamps 4 1 0))
    ∷ (shown_after (materialised 3 7) (on A (MeasuresOn 0 ∷ Order 0 ∷ Set 0 ∷ Announce 0 ∷ [])) A 1 gives some (lamps 4 1 0))
    ∷ (shown_after (materialised 3 7) (on A (MeasuresOn 0 ∷ Order 0 ∷ Set 0 ∷ Announce 0 ∷ Acknowledge 1 ∷ [])) A 1 gives some (lamps 4 1 0))
    -- to its own set, after which the next flashes
    ∷ (shown_after (materialised 3 7) (on A (MeasuresOn 0 ∷ MeasuresOn 1 ∷ Order 0 ∷ Set 0 ∷ Announce 0 ∷ Acknowledge 1 ∷ Set 1 ∷ [])) A 1
    gives some (lamps 2 1 0))
    ∷ (shown_after (materialised 3 7) (on A (MeasuresOn 0 ∷ MeasuresOn 1 ∷ Order 0 ∷ Set 0 ∷ Announce 0 ∷ Acknowledge 1 ∷ Set 1 ∷ [])) A 2
    gives some (lamps 4 0 0))
    ∷ [])
unfolding shown_after
flashes_to_cvt = refl

-- only the next post does: not the one that has set, not one further on; not the sending end before its set
pub no_other_post_flashes :
    Holds
    ((shown_after (materialised 3 7) (on A (Order 0 ∷ [])) A 0 gives some (lamps 1 1 0))
    ∷ (shown_after (materialised 3 7) (on A (MeasuresOn 0 ∷ Order 0 ∷ Set 0 ∷ [])) A 0 gives some (lamps 2 1 0))
    ∷ (shown_after (materialised 3 7) (on A (MeasuresOn 0 ∷ Order 0 ∷ Set 0 ∷ [])) A 2 gives some (lamps 1 0 0))
    ∷ (shown_after (materialised 3 7) (on A (MeasuresOn 0 ∷ Order 0 ∷ Set 0 ∷ [])) B 1 gives some (lamps 1 1 0))
    ∷ [])
unfolding shown_after
no_other_post_flashes = refl

-- "3 VNS or 4 CVT flashing, the direction its device does not stand at": back to VNS on A, to CVT and back on B
pub flashes_the_other_direction :
    Holds
    ((shown_after (materialised 2 3) (on A (reversal_to_cvt (0 ∷ 1 ∷ []) ++ Order 1 ∷ Set 1 ∷ [])) A 0 gives some (lamps 3 0 0))
    ∷ (shown_after (materialised 2 3) (on A (reversal_to_cvt (0 ∷ 1 ∷ []) ++ Order 1 ∷ Set 1 ∷ [])) A 1 gives some (lamps 1 1 0))
    ∷ (shown_after (materialised 4 9) (on B (MeasuresOn 3 ∷ Order 3 ∷ Set 3 ∷ [])) B 2 gives some (lamps 4 0 0))
    ∷ (shown_after (materialised 2 3) (on B (reversal_to_cvt (1 ∷ 0 ∷ []) ++ Order 0 ∷ Set 0 ∷ [])) B 1 gives some (lamps 3 0 0))
    ∷ [])
unfolding shown_after
flashes_the_other_direction = refl

-- in the telephone form none flashes
pub steady_by_telephone :
    Holds
    ((shown_after (telephone 3 7) (on A (MeasuresOn 0 ∷ Order 0 ∷ Set 0 ∷ [])) A 1 gives some (lamps 1 1 0))
    ∷ (shown_after (telephone 2 3) (on B (reversal_to_cvt (1 ∷ 0 ∷ []) ++ Order 0 ∷ Set 0 ∷ [])) B 1 gives some (lamps 2 0 0))
    ∷ [])
unfolding shown_after
steady_by_telephone = refl

-- "0 dark (fault 3)", steady or flashing; no other fault darkens it
pub dark_by_fault_3 :
    Holds
    ((shown_after (telephone 2 3) (on A (FaultOn 0 Three ∷ [])) A 0 gives some (lamps 0 1 1))
    ∷ (shown_after (materialised 3 7) (on B (FaultOn 1 Three ∷ MeasuresOn 2 ∷ Order 2 ∷ Set 2 ∷ [])) B 1 gives some (lamps 0 1 0))
    ∷ (shown_after (telephone 2 3) (on A (FaultOn 0 Two ∷ [])) A 0 gives some (lamps 1 1 1))
    ∷ (shown_after (telephone 2 3) (on A (FaultOn 1 One ∷ FaultOn 1 Two ∷ FaultOn 1 Four ∷ [])) A 1 gives some (lamps 1 0 0))
    ∷ [])
unfolding shown_after
dark_by_fault_3 = refl

-- ## TRONÇON

-- "2 red if fault 1 or the block section ahead holds a train; else 1 white"
pub red :
    Holds
    ((shown_after (telephone 3 7) (on A (FaultOn 0 One ∷ [])) A 0 gives some (lamps 1 2 1))
    -- a release mark does not whiten it
    ∷ (shown_after (telephone 3 7) (on A (FaultOn 0 One ∷ Release 0 0 ∷ [])) A 0 gives some (lamps 1 2 1))
    ∷ (shown_after (telephone 3 7) (on A (Start 0 7 ∷ [])) A 0 gives some (lamps 1 2 1))
    -- a train before the post, or further ahead, over a post that is signalled or not
    ∷ (shown_after (telephone 3 7) (on A (Start 0 7 ∷ [])) A 1 gives some (lamps 1 1 0))
    ∷ (shown_after (telephone 3 5) (on A (Start 0 7 ∷ Pass 1 7 ∷ [])) A 0 gives some (lamps 1 1 1))
    ∷ (shown_after (telephone 3 5) (on A (Start 0 7 ∷ Pass 1 7 ∷ [])) A 1 gives some (lamps 1 2 0))
    ∷ (shown_after (telephone 3 7) (on A (FaultOn 0 Two ∷ FaultOn 0 Three ∷ FaultOn 0 Four ∷ [])) A 0 gives some (lamps 0 1 1))
    ∷ [])
unfolding shown_after
red = refl

-- downward: on B, and on A in CVT
pub red_downward :
    Holds
    ((shown_after (materialised 3 7) (on B (Start 2 7 ∷ [])) B 2 gives some (lamps 1 2 1))
    ∷ (shown_after (materialised 3 7) (on B (Start 2 7 ∷ [])) B 1 gives some (lamps 1 1 0))
    ∷ (shown_after (materialised 3 7) (on B (Start 2 7 ∷ Pass 1 7 ∷ [])) B 1 gives some (lamps 1 2 0))
    ∷ (shown_after (telephone 3 5) (on A (reversal_to_cvt (0 ∷ 1 ∷ 2 ∷ []) ++ Start 2 7 ∷ Pass 1 7 ∷ [])) A 2 gives some (lamps 2 1 1))
    ∷ (shown_after (telephone 3 5) (on A (reversal_to_cvt (0 ∷ 1 ∷ 2 ∷ []) ++ Start 2 7 ∷ Pass 1 7 ∷ [])) A 1 gives some (lamps 2 2 0))
    ∷ [])
unfolding shown_after
red_downward = refl

-- "0 none at the receiving end", under fault 1 and with a train before it too
pub none_at_the_receiving_end :
    Holds
    ((shown_after (telephone 2 3) (on A (FaultOn 1 One ∷ Start 0 7 ∷ [])) A 1 gives some (lamps 1 0 0))
    ∷ (shown_after (materialised 3 7) (on B (FaultOn 0 One ∷ [])) B 0 gives some (lamps 1 0 0))
    ∷ (shown_after (telephone 2 3) (on A (reversal_to_cvt (0 ∷ 1 ∷ []) ++ FaultOn 0 One ∷ [])) A 0 gives some (lamps 2 0 0))
    -- the running direction changes at the last set
    ∷ (shown_after (telephone 2 3) (on A (MeasuresOn 0 ∷ Order 0 ∷ Set 0 ∷ Announce 0 ∷ Acknowledge 1 ∷ [])) A 1 gives some (lamps 1 0 0))
    ∷ [])
unfolding shown_after
none_at_the_receiving_end = refl

-- ## What is not there

-- all 0 for a track or a post that the section has not, and for a state that gives 6
pub nothing_shown :
    Holds
    ((indications (fresh (telephone 3 7)) 0 0 gives lamps 1 1 1)
    ∷ (indications (fresh (telephone 3 7)) 1 2 gives lamps 1 1 1)
    ∷ (indications (fresh (telephone 3 7)) 2 0 gives lamps 0 0 0)
    ∷ (indications (fresh (telephone 3 7)) 0 3 gives lamps 0 0 0)
    ∷ (indications (fresh (telephone 3 3)) 0 0 gives lamps 0 0 0)
    ∷ (indications (sealed_at B 2 1000 (fresh (telephone 3 7))) 0 0 gives lamps 0 0 0)
    ∷ [])
unfolding shown_after sealed_at
nothing_shown = refl
