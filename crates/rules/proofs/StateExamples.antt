-- Examples of what accepted steps leave: the whole record of a post, and what the track keeps beside its posts.
use Prim.Native.Nat.{ℕ}
use mathlib.Core.Bool.{Bool, true}
use mathlib.Core.Path.{refl}
use mathlib.Core.List.{List, [], ◌∷◌, ◌++◌}
use mathlib.Core.Option.{Option, some}
use Rattle.section.specs.declared.Settings.{Settings}
use Rattle.section.specs.declared.Post.{Post}
use Rattle.section.specs.declared.Act.TheVariants as act
use Rattle.section.specs.declared.Walk.{Walk}
use Rattle.section.specs.declared.Walk.TheVariants.{Settled, Turn}
use Rattle.section.specs.declared.Section.{Section}
use Rattle.section.specs.declared.Step.{Step}
use Rattle.section.specs.declared.TrackStep.{TrackStep}
use Rattle.section.specs.declared.Fault.TheVariants.{One, Two, Three, Four}
use Rattle.section.specs.declared.Step.TheVariants.{Order, Set, Announce, Acknowledge, Start, Pass, Leave, MeasuresOn, MeasuresOff}
use Rattle.section.specs.declared.Step.TheVariants.{FaultOn, FaultOff, Release, Key, Caution}
use Rattle.section.specs.Post.{blank, turned, permitted, measured, faulty, marked, sealed, cautioned}
use Rattle.section.specs.Store.{track_of, post_on}
use Rattle.rules.specs.Demand3.{state_after}
use Rattle.rules.proofs.Days.{A, B, VNS, CVT, telephone, materialised, with_crossings, fresh, changed_post, cells, on, reversal, reversal_to_cvt}
use Rattle.rules.proofs.Days.{offered_as}
use Rattle.rules.proofs.Rows.{◌gives◌, Holds, seen_from, seen}
use Rattle.rules.proofs.ReversalExamples.{both_on_cvt}
use Rattle.rules.proofs.TrainExamples.{two_in_one_stretch}

-- ## What a post keeps

abbrev pub own_of : Bool → ℕ → Section → Post
own_of track p s = post_on (track_of s track) p

abbrev pub post_after : Settings → List TrackStep → Bool → ℕ → Option Post
post_after c day track p = seen (own_of track p) c day

-- "permission gone" at the order
pub order_takes_the_permission :
    Holds
    ((post_after (telephone 2 3) [] A 0 gives some (permitted true blank))
    ∷ (post_after (telephone 2 3) (on A (Order 0 ∷ [])) A 0 gives some blank)
    ∷ (post_after (materialised 3 7) [] B 2 gives some (permitted true blank))
    ∷ (post_after (materialised 3 7) (on B (Order 2 ∷ [])) B 2 gives some blank)
    -- that of the other track stays
    ∷ (post_after (materialised 3 7) (on B (Order 2 ∷ [])) A 0 gives some (permitted true blank))
    ∷ [])
unfolding seen
order_takes_the_permission = refl

-- "The running direction changes, and the last post gets permission, at that last set": not at the acknowledgement
pub last_set_gives_the_permission :
    Holds
    ((post_after (telephone 2 3) (on A (MeasuresOn 0 ∷ Order 0 ∷ Set 0 ∷ Announce 0 ∷ Acknowledge 1 ∷ [])) A 1 gives some blank)
    ∷ (post_after (telephone 2 3) (on A (reversal_to_cvt (0 ∷ 1 ∷ []))) A 1 gives some (permitted true (turned CVT (measured true blank))))
    ∷ (post_after (telephone 2 3) (on A (reversal_to_cvt (0 ∷ 1 ∷ []))) A 0 gives some (turned CVT (measured true blank)))
    ∷ (post_after (materialised 3 7) (on B (reversal_to_cvt (2 ∷ 1 ∷ 0 ∷ []))) B 1 gives some (turned CVT (measured true blank)))
    ∷ (post_after (materialised 3 7) (on B (reversal_to_cvt (2 ∷ 1 ∷ 0 ∷ []))) B 0 gives some (permitted true (turned CVT (measured true blank))))
    ∷ [])
unfolding seen
last_set_gives_the_permission = refl

-- "device turned": to CVT and back to VNS
pub set_turns_the_device :
    Holds
    ((post_after (telephone 2 3) (on A (MeasuresOn 0 ∷ Order 0 ∷ Set 0 ∷ [])) A 0 gives some (turned CVT (measured true blank)))
    ∷ (post_after (telephone 2 3) (on A (reversal_to_cvt (0 ∷ 1 ∷ []) ++ Order 1 ∷ Set 1 ∷ [])) A 1 gives some (measured true blank))
    ∷ (post_after (telephone 2 3) (on A (reversal_to_cvt (0 ∷ 1 ∷ []) ++ reversal (1 ∷ 0 ∷ []))) A 0 gives some (permitted true (measured true blank)))
    -- the order, announce and acknowledge do not
    ∷ (post_after (telephone 2 3) (on A (MeasuresOn 0 ∷ Order 0 ∷ [])) A 0 gives some (measured true blank))
    ∷ (post_after (telephone 2 3) (on B (MeasuresOn 1 ∷ Order 1 ∷ Set 1 ∷ Announce 1 ∷ Acknowledge 0 ∷ [])) B 0 gives some blank)
    ∷ [])
unfolding seen
set_turns_the_device = refl

-- "release mark": release makes it, whatever else the post keeps
pub release_makes_the_mark :
    Holds
    ((post_after (telephone 2 3) (on A (FaultOn 0 One ∷ Release 0 0 ∷ [])) A 0 gives some (marked true (faulty One true (permitted true blank))))
    ∷ (post_after (materialised 3 7) (on B (FaultOn 2 One ∷ Order 2 ∷ Release 2 0 ∷ [])) B 2 gives some (marked true (faulty One true blank)))
    ∷ [])
unfolding seen
release_makes_the_mark = refl

-- "release mark gone" at set and key; "mark gone" at start; "for fault 1 the mark too"
pub mark_taken :
    Holds
    ((post_after (telephone 2 3) (on A (MeasuresOn 0 ∷ FaultOn 0 One ∷ Order 0 ∷ Release 0 0 ∷ Set 0 ∷ [])) A 0
    gives some (turned CVT (faulty One true (measured true blank))))
    ∷ (post_after (telephone 2 3) (on B (MeasuresOn 1 ∷ FaultOn 1 One ∷ FaultOn 1 Two ∷ Order 1 ∷ Release 1 0 ∷ Key 1 ∷ [])) B 1
    gives some (sealed (turned CVT (faulty Two true (faulty One true (measured true blank))))))
    ∷ (post_after (telephone 2 3) (on A (FaultOn 0 One ∷ Release 0 0 ∷ Start 0 7 ∷ [])) A 0 gives some (faulty One true (permitted true blank)))
    ∷ (post_after (telephone 2 3) (on B (FaultOn 1 One ∷ Release 1 0 ∷ FaultOff 1 One ∷ [])) B 1 gives some (permitted true blank))
    ∷ [])
unfolding seen
mark_taken = refl

-- a mark at post 1, which the train passes: no day reaches it
unfoldable pub marked_at_one : Section
unfolding fresh
marked_at_one = changed_post A 1 (marked true) (fresh (telephone 3 7))

-- order, pass, leave and the end of another fault leave the mark
pub mark_left :
    Holds
    ((post_after (telephone 2 3) (on A (FaultOn 0 One ∷ Release 0 0 ∷ Order 0 ∷ [])) A 0 gives some (marked true (faulty One true blank)))
    ∷ (seen_from (own_of A 1) marked_at_one (on A (Start 0 7 ∷ Pass 1 7 ∷ Leave 2 7 ∷ [])) gives some (marked true blank))
    ∷ (post_after (telephone 2 3) (on B (FaultOn 1 Two ∷ FaultOn 1 One ∷ Release 1 0 ∷ FaultOff 1 Two ∷ [])) B 1
    gives some (marked true (faulty One true (permitted true blank))))
    ∷ (post_after (telephone 2 3) (on B (FaultOn 1 Three ∷ FaultOn 1 One ∷ Release 1 0 ∷ FaultOff 1 Three ∷ [])) B 1
    gives some (marked true (faulty One true (permitted true blank))))
    ∷ [])
unfolding seen marked_at_one
mark_left = refl

-- key: "as set, seal count one more"; the fault stays
pub key_adds_a_seal :
    Holds
    ((post_after (telephone 2 3) (on A (MeasuresOn 0 ∷ FaultOn 0 Two ∷ Order 0 ∷ Key 0 ∷ [])) A 0
    gives some (sealed (turned CVT (faulty Two true (measured true blank)))))
    -- the last post, and then back: two seals
    ∷ (post_after (materialised 2 3)
    (on B (MeasuresOn 1 ∷ MeasuresOn 0 ∷ FaultOn 0 Two ∷ Order 1 ∷ Set 1 ∷ Announce 1 ∷ Acknowledge 0 ∷ Key 0 ∷ [])) B 0
    gives some (permitted true (sealed (turned CVT (faulty Two true (measured true blank))))))
    ∷ (post_after (materialised 2 3)
    (on B (MeasuresOn 1 ∷ MeasuresOn 0 ∷ FaultOn 0 Two ∷ Order 1 ∷ Set 1 ∷ Announce 1 ∷ Acknowledge 0 ∷ Key 0 ∷ Order 0 ∷ Key 0 ∷ [])) B 0
    gives some (sealed (sealed (faulty Two true (measured true blank)))))
    ∷ [])
unfolding seen
key_adds_a_seal = refl

-- measures "in place" and "lifted", "fault stands" and "fault gone"
pub conditions_kept :
    Holds
    ((post_after (telephone 2 3) (on A (MeasuresOn 1 ∷ [])) A 1 gives some (measured true blank))
    ∷ (post_after (telephone 2 3) (on A (MeasuresOn 1 ∷ MeasuresOff 1 ∷ [])) A 1 gives some blank)
    ∷ (post_after (telephone 3 7) (on B (FaultOn 1 One ∷ [])) B 1 gives some (faulty One true blank))
    ∷ (post_after (telephone 3 7) (on B (FaultOn 1 Two ∷ [])) B 1 gives some (faulty Two true blank))
    ∷ (post_after (telephone 3 7) (on B (FaultOn 1 Three ∷ [])) B 1 gives some (faulty Three true blank))
    ∷ (post_after (telephone 3 7) (on B (FaultOn 1 One ∷ FaultOn 1 Two ∷ FaultOn 1 Three ∷ FaultOff 1 One ∷ [])) B 1
    gives some (faulty Two true (faulty Three true blank)))
    ∷ (post_after (telephone 3 7) (on B (FaultOn 1 One ∷ FaultOn 1 Two ∷ FaultOn 1 Three ∷ FaultOff 1 Two ∷ [])) B 1
    gives some (faulty One true (faulty Three true blank)))
    ∷ (post_after (telephone 3 7) (on B (FaultOn 1 One ∷ FaultOn 1 Two ∷ FaultOn 1 Three ∷ FaultOff 1 Three ∷ [])) B 1
    gives some (faulty One true (faulty Two true blank)))
    ∷ (post_after (telephone 3 7) (on B (FaultOn 1 Three ∷ FaultOn 1 Four ∷ [])) B 1 gives some (faulty Three true (faulty Four true blank)))
    ∷ (post_after (telephone 3 7) (on B (FaultOn 1 Three ∷ FaultOn 1 Four ∷ FaultOff 1 Four ∷ [])) B 1 gives some (faulty Three true blank))
    ∷ [])
unfolding seen
conditions_kept = refl

-- a caution form "for that train, handed out at that post": "A newer form replaces the older"; it changes nothing else
pub caution_form_kept :
    Holds
    ((post_after (with_crossings (0 ∷ []) (telephone 3 7)) (on A (Caution 0 7 ∷ [])) A 0 gives some (cautioned 7 (permitted true blank)))
    ∷ (post_after (with_crossings (0 ∷ []) (telephone 3 7)) (on A (Caution 0 7 ∷ [])) B 0 gives some blank)
    ∷ (post_after (with_crossings (1 ∷ []) (telephone 3 7)) (on A (Caution 1 7 ∷ MeasuresOn 1 ∷ FaultOn 1 Four ∷ [])) A 1
    gives some (cautioned 7 (faulty Four true (measured true blank))))
    ∷ (post_after (with_crossings (1 ∷ []) (telephone 3 7)) (on A (Caution 1 7 ∷ Caution 1 9999 ∷ [])) A 1 gives some (cautioned 9999 blank))
    -- order, release, the end of a fault, acknowledge leave it
    ∷ (post_after (with_crossings (0 ∷ []) (telephone 2 3)) (on A (Caution 0 7 ∷ FaultOn 0 One ∷ Order 0 ∷ Release 0 0 ∷ FaultOff 0 One ∷ [])) A 0
    gives some (cautioned 7 blank))
    ∷ (post_after (with_crossings (1 ∷ []) (telephone 3 7)) (on A (MeasuresOn 0 ∷ Caution 1 7 ∷ Order 0 ∷ Set 0 ∷ Announce 0 ∷ Acknowledge 1 ∷ [])) A 1
    gives some (cautioned 7 blank))
    ∷ [])
unfolding seen
caution_form_kept = refl

-- "used up by that train's entry, needed or not": by start and pass, not by the entry of another train
pub caution_form_used_up :
    Holds
    ((post_after (with_crossings (0 ∷ []) (telephone 2 3)) (on A (FaultOn 0 Four ∷ Caution 0 7 ∷ Start 0 7 ∷ [])) A 0
    gives some (faulty Four true (permitted true blank)))
    ∷ (post_after (with_crossings (0 ∷ []) (telephone 2 3)) (on A (Caution 0 7 ∷ Start 0 7 ∷ [])) A 0 gives some (permitted true blank))
    ∷ (post_after (with_crossings (0 ∷ []) (telephone 2 3)) (on A (Caution 0 8 ∷ Start 0 7 ∷ [])) A 0 gives some (cautioned 8 (permitted true blank)))
    ∷ (post_after (with_crossings (0 ∷ []) (materialised 3 7)) (on B (FaultOn 1 Four ∷ Caution 1 7 ∷ Start 2 7 ∷ Pass 1 7 ∷ [])) B 1
    gives some (faulty Four true blank))
    ∷ (post_after (with_crossings (0 ∷ []) (materialised 3 7)) (on B (Caution 1 7 ∷ Start 2 7 ∷ Pass 1 7 ∷ [])) B 1 gives some blank)
    ∷ (post_after (with_crossings (0 ∷ []) (materialised 3 7)) (on B (Caution 1 8 ∷ Start 2 7 ∷ Pass 1 7 ∷ [])) B 1 gives some (cautioned 8 blank))
    -- that at another post stays
    ∷ (post_after (with_crossings (0 ∷ 1 ∷ []) (telephone 3 7)) (on A (Caution 0 7 ∷ Caution 1 7 ∷ Start 0 7 ∷ [])) A 1 gives some (cautioned 7 blank))
    ∷ [])
unfolding seen
caution_form_used_up = refl

-- "set or key removes it"
pub caution_form_removed :
    Holds
    ((post_after (with_crossings (0 ∷ []) (telephone 2 3)) (on A (MeasuresOn 0 ∷ Caution 0 7 ∷ Order 0 ∷ Set 0 ∷ [])) A 0
    gives some (turned CVT (measured true blank)))
    ∷ (post_after (with_crossings (0 ∷ []) (telephone 2 3)) (on B (MeasuresOn 1 ∷ FaultOn 1 Two ∷ Caution 1 7 ∷ Order 1 ∷ Key 1 ∷ [])) B 1
    gives some (sealed (turned CVT (faulty Two true (measured true blank)))))
    ∷ [])
unfolding seen
caution_form_removed = refl

-- handed out after the post's own set, it is there when the direction has turned: at the receiving end, whose leave is no entry, until that
-- post sets again
abbrev pub to_cvt_and_a_form : List Step
to_cvt_and_a_form = MeasuresOn 0 ∷ MeasuresOn 1 ∷ Order 0 ∷ Set 0 ∷ Caution 0 7 ∷ Announce 0 ∷ Acknowledge 1 ∷ Set 1 ∷ []

pub caution_form_at_the_receiving_end :
    Holds
    ((post_after (with_crossings (0 ∷ []) (telephone 2 3)) (on A to_cvt_and_a_form) A 0 gives some (cautioned 7 (turned CVT (measured true blank))))
    ∷ (post_after (with_crossings (0 ∷ []) (telephone 2 3)) (on A (to_cvt_and_a_form ++ Start 1 7 ∷ Leave 0 7 ∷ [])) A 0
    gives some (cautioned 7 (turned CVT (measured true blank))))
    ∷ (post_after (with_crossings (0 ∷ []) (telephone 2 3)) (on A (to_cvt_and_a_form ++ reversal (1 ∷ 0 ∷ []))) A 0
    gives some (permitted true (measured true blank)))
    ∷ [])
unfolding seen
caution_form_at_the_receiving_end = refl

-- ## What a track keeps

-- beside its posts: the running direction and the walk, and of each block section its train and the last train that entered it
pub record Kept : Type 0 where
  pub cvt : Bool
  pub walk : Walk
  pub trains : List ℕ
  pub last : List ℕ

abbrev pub kept_on : Bool → Section → Kept
kept_on track s =
    let t = track_of s track in
    record { cvt = t.cvt; walk = t.walk; trains = t.trains; last = t.last }

abbrev pub kept_after : Settings → List TrackStep → Bool → Option Kept
kept_after c day track = seen (kept_on track) c day

-- a track with no train, on which none has run
abbrev pub walking : Bool → Walk → Option Kept
walking cvt walk = some (record { cvt = cvt; walk = walk; trains = cells []; last = cells [] })

-- a settled track, with these trains and last trains in block sections 0, 1 and so on
abbrev pub carrying : Bool → List ℕ → List ℕ → Option Kept
carrying cvt trains last = some (record { cvt = cvt; walk = Settled; trains = cells trains; last = cells last })

-- "set, announce, acknowledge at the next post, set there, and so on"; the direction changes at the last set
pub reversal_walks :
    Holds
    ((kept_after (telephone 2 3) [] A gives walking VNS Settled)
    ∷ (kept_after (telephone 2 3) (on A (Order 0 ∷ [])) A gives walking VNS (Turn 0 act.Set))
    ∷ (kept_after (telephone 2 3) (on A (MeasuresOn 0 ∷ Order 0 ∷ Set 0 ∷ [])) A gives walking VNS (Turn 0 act.Announce))
    ∷ (kept_after (telephone 2 3) (on A (MeasuresOn 0 ∷ Order 0 ∷ Set 0 ∷ Announce 0 ∷ [])) A gives walking VNS (Turn 1 act.Acknowledge))
    ∷ (kept_after (telephone 2 3) (on A (MeasuresOn 0 ∷ Order 0 ∷ Set 0 ∷ Announce 0 ∷ Acknowledge 1 ∷ [])) A gives walking VNS (Turn 1 act.Set))
    ∷ (kept_after (telephone 2 3) (on A (reversal_to_cvt (0 ∷ 1 ∷ []))) A gives walking CVT Settled)
    ∷ (kept_after (telephone 2 3) (on A (reversal_to_cvt (0 ∷ 1 ∷ []))) B gives walking VNS Settled)
    ∷ [])
unfolding seen
reversal_walks = refl

-- on B downward to CVT, on A downward back to VNS
pub reversal_walks_downward :
    Holds
    ((kept_after (materialised 3 7) (on B (MeasuresOn 2 ∷ Order 2 ∷ Set 2 ∷ Announce 2 ∷ [])) B gives walking VNS (Turn 1 act.Acknowledge))
    ∷ (kept_after (materialised 3 7) (on B (reversal_to_cvt (2 ∷ 1 ∷ 0 ∷ []))) B gives walking CVT Settled)
    ∷ (kept_after (telephone 2 3) (on A (reversal_to_cvt (0 ∷ 1 ∷ []) ++ Order 1 ∷ Set 1 ∷ Announce 1 ∷ [])) A gives walking CVT (Turn 0 act.Acknowledge))
    ∷ (kept_after (telephone 2 3) (on A (reversal_to_cvt (0 ∷ 1 ∷ []) ++ reversal (1 ∷ 0 ∷ []))) A gives walking VNS Settled)
    ∷ [])
unfolding seen
reversal_walks_downward = refl

-- "the post whose turn it is and its act" stay as they are where a train runs on, and where a post notes something of itself
pub walk_stays :
    Holds
    ((kept_after (materialised 3 7) (on A (Start 0 7 ∷ Pass 1 7 ∷ Order 0 ∷ MeasuresOn 0 ∷ [])) A
    gives some (record { cvt = VNS; walk = Turn 0 act.Set; trains = cells (0 ∷ 7 ∷ []); last = cells (7 ∷ 7 ∷ []) }))
    ∷ (kept_after (materialised 3 7) (on A (Start 0 7 ∷ Pass 1 7 ∷ Order 0 ∷ Leave 2 7 ∷ [])) A
    gives some (record { cvt = VNS; walk = Turn 0 act.Set; trains = cells []; last = cells (7 ∷ 7 ∷ []) }))
    ∷ (kept_after (materialised 4 15) (on A (Start 0 7 ∷ Pass 1 7 ∷ Order 0 ∷ Pass 2 7 ∷ [])) A
    gives some (record { cvt = VNS; walk = Turn 0 act.Set; trains = cells (0 ∷ 0 ∷ 7 ∷ []); last = cells (7 ∷ 7 ∷ 7 ∷ []) }))
    ∷ [])
unfolding seen
walk_stays = refl

-- the running direction is the track's own, whatever the devices stand at
pub direction_stays :
    Holds
    ((seen_from (kept_on A) both_on_cvt (on A (Order 2 ∷ [])) gives walking CVT (Turn 2 act.Set))
    ∷ (seen_from (kept_on A) both_on_cvt (on A (Order 2 ∷ Set 2 ∷ [])) gives walking CVT (Turn 2 act.Announce))
    ∷ (seen_from (kept_on A) both_on_cvt (on A (Order 2 ∷ Set 2 ∷ Announce 2 ∷ Acknowledge 1 ∷ [])) gives walking CVT (Turn 1 act.Set))
    ∷ (seen_from (kept_on A) both_on_cvt (on A (reversal (2 ∷ 1 ∷ 0 ∷ []))) gives walking VNS Settled)
    ∷ (seen_from (kept_on A) both_on_cvt (on A (Start 2 7 ∷ [])) gives carrying CVT (0 ∷ 7 ∷ []) (0 ∷ 7 ∷ []))
    ∷ (seen_from (kept_on A) both_on_cvt (on A (Start 2 7 ∷ Pass 1 7 ∷ Leave 0 7 ∷ [])) gives carrying CVT [] (7 ∷ 7 ∷ []))
    ∷ [])
unfolding seen both_on_cvt
direction_stays = refl

-- set puts the device at the new direction, also one that stands there already
pub set_does_not_toggle : Holds ((seen_from (own_of A 2) both_on_cvt (on A (Order 2 ∷ Set 2 ∷ [])) gives some blank) ∷ [])
unfolding seen both_on_cvt
set_does_not_toggle = refl

-- "train enters", "train moves one block section on", "train gone"; the last train of a block section stays
pub trains_run :
    Holds
    ((kept_after (telephone 3 7) (on A (Start 0 7 ∷ [])) A gives carrying VNS (7 ∷ []) (7 ∷ []))
    ∷ (kept_after (telephone 3 7) (on A (Start 0 7 ∷ Pass 1 7 ∷ [])) A gives carrying VNS (0 ∷ 7 ∷ []) (7 ∷ 7 ∷ []))
    ∷ (kept_after (telephone 3 7) (on A (Start 0 7 ∷ Pass 1 7 ∷ Leave 2 7 ∷ [])) A gives carrying VNS [] (7 ∷ 7 ∷ []))
    ∷ (kept_after (telephone 3 7) (on A (Start 0 7 ∷ Pass 1 7 ∷ Start 0 8 ∷ [])) A gives carrying VNS (8 ∷ 7 ∷ []) (8 ∷ 7 ∷ []))
    ∷ (kept_after (telephone 3 7) (on A (Start 0 7 ∷ Pass 1 7 ∷ Start 0 8 ∷ [])) B gives carrying VNS [] [])
    ∷ [])
unfolding seen
trains_run = refl

-- downward on B
pub trains_run_downward :
    Holds
    ((kept_after (materialised 4 9) (on B (Start 3 7 ∷ [])) B gives carrying VNS (0 ∷ 0 ∷ 7 ∷ []) (0 ∷ 0 ∷ 7 ∷ []))
    ∷ (kept_after (materialised 4 9) (on B (Start 3 7 ∷ Pass 2 7 ∷ [])) B gives carrying VNS (0 ∷ 7 ∷ []) (0 ∷ 7 ∷ 7 ∷ []))
    ∷ (kept_after (materialised 4 9) (on B (Start 3 7 ∷ Pass 2 7 ∷ Pass 1 7 ∷ [])) B gives carrying VNS (7 ∷ []) (7 ∷ 7 ∷ 7 ∷ []))
    ∷ (kept_after (materialised 4 9) (on B (Start 3 7 ∷ Pass 2 7 ∷ Pass 1 7 ∷ Leave 0 7 ∷ [])) B gives carrying VNS [] (7 ∷ 7 ∷ 7 ∷ []))
    ∷ [])
unfolding seen
trains_run_downward = refl

-- in CVT downward on A, upward on B
pub trains_run_in_cvt :
    Holds
    ((kept_after (telephone 3 7) (on A (reversal_to_cvt (0 ∷ 1 ∷ 2 ∷ []) ++ Start 2 7 ∷ [])) A gives carrying CVT (0 ∷ 7 ∷ []) (0 ∷ 7 ∷ []))
    ∷ (kept_after (telephone 3 7) (on A (reversal_to_cvt (0 ∷ 1 ∷ 2 ∷ []) ++ Start 2 7 ∷ Pass 1 7 ∷ [])) A gives carrying CVT (7 ∷ []) (7 ∷ 7 ∷ []))
    ∷ (kept_after (telephone 3 7) (on B (reversal_to_cvt (2 ∷ 1 ∷ 0 ∷ []) ++ Start 0 7 ∷ [])) B gives carrying CVT (7 ∷ []) (7 ∷ []))
    ∷ [])
unfolding seen
trains_run_in_cvt = refl

-- where no stretch begins, the number in the block section ahead is replaced
pub pass_onto_a_train : Holds ((seen_from (kept_on A) two_in_one_stretch (on A (Pass 1 7 ∷ [])) gives carrying CVT (7 ∷ []) (7 ∷ [])) ∷ [])
unfolding seen two_in_one_stretch
pass_onto_a_train = refl

-- ## A refused step

-- "each later one the state returned for the step before it, accepted or refused": a refused step leaves the section as it was
pub refused_leaves_the_post :
    Holds
    ((own_of A 0 (state_after (fresh (telephone 2 3)) (offered_as (on A (Order 0 ∷ Set 0 ∷ [])))) gives blank)
    ∷ (own_of B 2 (state_after (fresh (materialised 3 7)) (offered_as (on B (Release 2 0 ∷ Key 2 ∷ FaultOff 2 One ∷ [])))) gives permitted true blank)
    ∷ [])
unfolding seen state_after
refused_leaves_the_post = refl

pub refused_leaves_the_track :
    Holds
    ((some (kept_on A (state_after (fresh (telephone 2 3)) (offered_as (on A (Start 0 7 ∷ Start 0 8 ∷ Pass 1 7 ∷ Leave 1 8 ∷ Order 0 ∷ [])))))
    gives carrying VNS (7 ∷ []) (7 ∷ []))
    ∷ [])
unfolding seen state_after
refused_leaves_the_track = refl
