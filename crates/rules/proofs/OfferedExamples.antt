-- Examples of what the engine tests before the table: 6, the state handed in, and then 4, the bytes offered.
use Prim.Native.Nat.{ℕ}
use mathlib.Core.Path.{refl}
use mathlib.Core.List.{List, [], ◌∷◌}
use Rattle.section.specs.declared.Act.TheVariants as act
use Rattle.section.specs.declared.Walk.TheVariants.{Turn}
use Rattle.section.specs.declared.Section.{Section}
use Rattle.section.specs.Post.{cautioned}
use Rattle.rules.proofs.Days.{A, B, VNS, telephone, with_crossings, fresh, changed_track, changed_post, running, holding, sealed_at, refusals}
use Rattle.rules.proofs.Rows.{◌gives◌, Holds}

-- one byte string offered to a section: 0 or the refusal
unfoldable pub answer_to : Section → List ℕ → List ℕ
unfolding refusals fresh sealed_at
answer_to s bytes = refusals s (bytes ∷ [])

-- order by post 0 of A, and its bytes with a kind that there is not
abbrev pub order_a0 : List ℕ
order_a0 = 1 ∷ 0 ∷ 0 ∷ 0 ∷ 0 ∷ 0 ∷ 0 ∷ 0 ∷ []

abbrev pub no_kind : List ℕ
no_kind = 15 ∷ 0 ∷ 0 ∷ 0 ∷ 0 ∷ 0 ∷ 0 ∷ 0 ∷ []

-- 4: "a step outside the above. A single step offered to the engine is tested alike."
pub malformed_refused_4 :
    Holds
    ((answer_to (fresh (telephone 3 7)) order_a0 gives 0 ∷ [])
    ∷ (answer_to (fresh (telephone 3 7)) no_kind gives 4 ∷ [])
    ∷ (answer_to (fresh (telephone 3 7)) [] gives 4 ∷ [])
    ∷ (answer_to (fresh (telephone 3 7)) (1 ∷ 0 ∷ 0 ∷ 0 ∷ 0 ∷ 0 ∷ 0 ∷ []) gives 4 ∷ [])
    -- track 2, post 3 of three, a fault in an order, bytes 6–7
    ∷ (answer_to (fresh (telephone 3 7)) (1 ∷ 2 ∷ 0 ∷ 0 ∷ 0 ∷ 0 ∷ 0 ∷ 0 ∷ []) gives 4 ∷ [])
    ∷ (answer_to (fresh (telephone 3 7)) (1 ∷ 0 ∷ 3 ∷ 0 ∷ 0 ∷ 0 ∷ 0 ∷ 0 ∷ []) gives 4 ∷ [])
    ∷ (answer_to (fresh (telephone 3 7)) (1 ∷ 0 ∷ 0 ∷ 1 ∷ 0 ∷ 0 ∷ 0 ∷ 0 ∷ []) gives 4 ∷ [])
    ∷ (answer_to (fresh (telephone 3 7)) (1 ∷ 0 ∷ 0 ∷ 0 ∷ 0 ∷ 0 ∷ 0 ∷ 1 ∷ []) gives 4 ∷ [])
    -- start of 10,000 = 16 + 39 × 256, of 59,999 = 95 + 234 × 256, of 60,000, of 65,535, and of 0
    ∷ (answer_to (fresh (telephone 3 7)) (5 ∷ 0 ∷ 0 ∷ 0 ∷ 16 ∷ 39 ∷ 0 ∷ 0 ∷ []) gives 0 ∷ [])
    ∷ (answer_to (fresh (telephone 3 7)) (5 ∷ 0 ∷ 0 ∷ 0 ∷ 95 ∷ 234 ∷ 0 ∷ 0 ∷ []) gives 0 ∷ [])
    ∷ (answer_to (fresh (telephone 3 7)) (5 ∷ 0 ∷ 0 ∷ 0 ∷ 96 ∷ 234 ∷ 0 ∷ 0 ∷ []) gives 4 ∷ [])
    ∷ (answer_to (fresh (telephone 3 7)) (5 ∷ 0 ∷ 0 ∷ 0 ∷ 255 ∷ 255 ∷ 0 ∷ 0 ∷ []) gives 4 ∷ [])
    ∷ (answer_to (fresh (telephone 3 7)) (5 ∷ 0 ∷ 0 ∷ 0 ∷ 0 ∷ 0 ∷ 0 ∷ 0 ∷ []) gives 4 ∷ [])
    ∷ [])
unfolding answer_to
malformed_refused_4 = refl

-- "kind 14 (number 1 to 9,999)", since request 5 to 59,999; "Kinds 10 and 11 take fault 4 too"; "it and fault 4 are well formed under either mark"
pub crossings_well_formed :
    Holds
    -- kind 14 for 59,999, for 60,000, for 0, with a fault, and where there are no crossings
    ((answer_to (fresh (with_crossings (0 ∷ []) (telephone 3 7))) (14 ∷ 0 ∷ 0 ∷ 0 ∷ 95 ∷ 234 ∷ 0 ∷ 0 ∷ []) gives 0 ∷ [])
    ∷ (answer_to (fresh (with_crossings (0 ∷ []) (telephone 3 7))) (14 ∷ 0 ∷ 0 ∷ 0 ∷ 96 ∷ 234 ∷ 0 ∷ 0 ∷ []) gives 4 ∷ [])
    ∷ (answer_to (fresh (with_crossings (0 ∷ []) (telephone 3 7))) (14 ∷ 0 ∷ 0 ∷ 0 ∷ 0 ∷ 0 ∷ 0 ∷ 0 ∷ []) gives 4 ∷ [])
    ∷ (answer_to (fresh (with_crossings (0 ∷ []) (telephone 3 7))) (14 ∷ 0 ∷ 0 ∷ 4 ∷ 7 ∷ 0 ∷ 0 ∷ 0 ∷ []) gives 4 ∷ [])
    ∷ (answer_to (fresh (telephone 3 7)) (14 ∷ 0 ∷ 0 ∷ 0 ∷ 7 ∷ 0 ∷ 0 ∷ 0 ∷ []) gives 12 ∷ [])
    -- kinds 10 and 11 with fault 4, with fault 5
    ∷ (answer_to (fresh (telephone 3 7)) (10 ∷ 0 ∷ 0 ∷ 4 ∷ 0 ∷ 0 ∷ 0 ∷ 0 ∷ []) gives 0 ∷ [])
    ∷ (answer_to (fresh (telephone 3 7)) (11 ∷ 0 ∷ 0 ∷ 4 ∷ 0 ∷ 0 ∷ 0 ∷ 0 ∷ []) gives 21 ∷ [])
    ∷ (answer_to (fresh (with_crossings (0 ∷ []) (telephone 3 7))) (10 ∷ 0 ∷ 0 ∷ 5 ∷ 0 ∷ 0 ∷ 0 ∷ 0 ∷ []) gives 4 ∷ [])
    ∷ [])
unfolding answer_to
crossings_well_formed = refl

-- 6: "engine only, before 4: the state handed in has settings or a field outside its range"
pub out_of_range_refused_6 :
    Holds
    -- the end post 2 not signalled, a seal count of 1,000, a train 60,000, post 3 of three in turn, the last post to announce
    ((answer_to (fresh (telephone 3 3)) order_a0 gives 6 ∷ [])
    ∷ (answer_to (sealed_at B 1 1000 (fresh (telephone 3 7))) order_a0 gives 6 ∷ [])
    ∷ (answer_to (changed_track B (holding (0 ∷ 60000 ∷ [])) (fresh (telephone 3 7))) order_a0 gives 6 ∷ [])
    ∷ (answer_to (changed_track B (running VNS (Turn 3 act.Set)) (fresh (telephone 3 7))) order_a0 gives 6 ∷ [])
    ∷ (answer_to (changed_track B (running VNS (Turn 0 act.Announce)) (fresh (telephone 3 7))) order_a0 gives 6 ∷ [])
    -- before 4
    ∷ (answer_to (fresh (telephone 3 3)) no_kind gives 6 ∷ [])
    ∷ (answer_to (fresh (telephone 3 3)) [] gives 6 ∷ [])
    -- "Cells past post n−1 or block section n−2 are neither tested nor changed."
    ∷ (answer_to (sealed_at A 3 1000 (fresh (telephone 3 7))) order_a0 gives 0 ∷ [])
    ∷ (answer_to (changed_track A (holding (0 ∷ 0 ∷ 60000 ∷ [])) (fresh (telephone 3 7))) order_a0 gives 0 ∷ [])
    ∷ (answer_to (changed_track A (holding (0 ∷ 0 ∷ 7 ∷ [])) (fresh (telephone 3 7))) (5 ∷ 0 ∷ 0 ∷ 0 ∷ 7 ∷ 0 ∷ 0 ∷ 0 ∷ []) gives 0 ∷ [])
    -- "A state inside the ranges is judged by the table of steps, reachable or not."
    ∷ (answer_to (changed_track B (running VNS (Turn 0 act.Acknowledge)) (fresh (telephone 3 7))) order_a0 gives 14 ∷ [])
    ∷ [])
unfolding answer_to
out_of_range_refused_6 = refl

-- "a block section number, plus 128 ..": "The section numbers never fall, and within one section bytes without the 128 stand first"; a caution
-- form for 0 to 59,999
pub crossings_out_of_range_refused_6 :
    Holds
    ((answer_to (fresh (with_crossings (0 ∷ 0 ∷ 128 ∷ 128 ∷ 1 ∷ 1 ∷ 129 ∷ 129 ∷ []) (telephone 3 7))) order_a0 gives 0 ∷ [])
    -- block section 2 of three posts, without zones too, a section number that falls, the 128 first, an unused byte first
    ∷ (answer_to (fresh (with_crossings (2 ∷ []) (telephone 3 7))) order_a0 gives 6 ∷ [])
    ∷ (answer_to (fresh (with_crossings (130 ∷ []) (telephone 3 7))) order_a0 gives 6 ∷ [])
    ∷ (answer_to (fresh (with_crossings (1 ∷ 0 ∷ []) (telephone 3 7))) order_a0 gives 6 ∷ [])
    ∷ (answer_to (fresh (with_crossings (128 ∷ 0 ∷ []) (telephone 3 7))) order_a0 gives 6 ∷ [])
    ∷ (answer_to (fresh (with_crossings (255 ∷ 0 ∷ []) (telephone 3 7))) order_a0 gives 6 ∷ [])
    -- a form for 60,000; one for 59,999 at the receiving end; one at post 3 of three
    ∷ (answer_to (changed_post B 1 (cautioned 60000) (fresh (telephone 3 7))) order_a0 gives 6 ∷ [])
    ∷ (answer_to (changed_post A 2 (cautioned 59999) (fresh (telephone 3 7))) order_a0 gives 0 ∷ [])
    ∷ (answer_to (changed_post A 3 (cautioned 60000) (fresh (telephone 3 7))) order_a0 gives 0 ∷ [])
    ∷ [])
unfolding answer_to
crossings_out_of_range_refused_6 = refl
