-- What the statement of demand 3, and InPlainWords, read off steps, by computation: their own words on steps in their eight bytes, as document 01
-- lays them out, and the accepted steps, runs and reversals of small days. A word that says less than the paper falls here, also where no theorem
-- needs it.
use Prim.Native.Nat.{ℕ}
use mathlib.Core.Bool.{true, false}
use mathlib.Core.Path.{refl}
use mathlib.Core.List.{List, [], ◌∷◌, map}
use mathlib.Core.Option.{Option, none, some}
use lib.ListN.{take}
use Rattle.section.specs.declared.Said.{Said}
use Rattle.section.specs.declared.Said.TheVariants.{Nothing, Cvt, Cvtz, Vns, Vnsz}
use Rattle.section.specs.declared.Walk.TheVariants.{Settled}
use Rattle.section.specs.Bytes.{le16, within}
use Rattle.section.specs.Fresh.{fresh_track}
use Rattle.section.specs.Geometry.{upward, rank}
use Rattle.rules.specs.Demand3.{AcceptedStep, accepted_steps, kind, track, post, number, is_on_track, is_step_of_train, is_of_train, is_of_post, is_spoken}
use Rattle.rules.specs.Demand3.{is_announcement, keep, Run, runs_of, has_ended, other_end, under_way, place_of, sending_end, in_turn}
use Rattle.rules.specs.InPlainWords.{entry_post, is_at_post, moves_train, spoken, how_many}
use Rattle.rules.proofs.Days.{A, B, VNS, CVT, telephone, fresh, running, refusals}
use Rattle.rules.proofs.Rows.{◌gives◌, Holds}

-- ## Steps in their bytes

-- kind, track, post, and the number's two bytes; no fault
abbrev bytes_of : ℕ → ℕ → ℕ → ℕ → ℕ → List ℕ
bytes_of k t p low high = k ∷ t ∷ p ∷ 0 ∷ low ∷ high ∷ 0 ∷ 0 ∷ []

abbrev says : Said → List ℕ → AcceptedStep
says said bytes = record { bytes = bytes; said = said }

abbrev quiet : List ℕ → AcceptedStep
quiet bytes = says Nothing bytes

-- of train 7: kind 5 start, 6 pass, 7 leave
abbrev of_seven : ℕ → ℕ → ℕ → AcceptedStep
of_seven k t p = quiet (bytes_of k t p 7 0)

-- of no train
abbrev plain : ℕ → ℕ → ℕ → AcceptedStep
plain k t p = quiet (bytes_of k t p 0 0)

abbrev run : ℕ → List ℕ → Option ℕ → Run
run from passed left = record { from = from; passed = passed; left = left }

-- ## What the bytes say

-- "byte 0 kind; byte 1 track, 0 or 1; byte 2 post; bytes 4–5 number": 263 = 7 + 256
pub bytes_say_numbers :
    Holds
    ((kind (quiet (bytes_of 6 1 2 7 1)) gives 6)
    ∷ (post (quiet (bytes_of 6 1 2 7 1)) gives 2)
    ∷ (number (quiet (bytes_of 6 1 2 7 1)) gives 263)
    ∷ (number (quiet (bytes_of 6 1 2 7 0)) gives 7)
    ∷ [])
unfolding le16
bytes_say_numbers = refl

pub bytes_say_whose :
    Holds
    ((track (plain 1 0 0) gives A)
    ∷ (track (plain 1 1 0) gives B)
    -- on one track
    ∷ (is_on_track A (plain 1 0 0) gives true)
    ∷ (is_on_track B (plain 1 0 0) gives false)
    ∷ (is_on_track A (plain 1 1 0) gives false)
    ∷ (is_on_track B (plain 1 1 0) gives true)
    -- "A train's own steps are its starts, passes and leaves": not an acknowledgement, not measures, not the release or the form of its number
    ∷ (is_step_of_train 7 (of_seven 4 0 0) gives false)
    ∷ (is_step_of_train 7 (of_seven 5 0 0) gives true)
    ∷ (is_step_of_train 7 (of_seven 6 0 1) gives true)
    ∷ (is_step_of_train 7 (of_seven 7 0 2) gives true)
    ∷ (is_step_of_train 7 (of_seven 8 0 2) gives false)
    ∷ (is_step_of_train 7 (of_seven 12 0 0) gives false)
    ∷ (is_step_of_train 7 (of_seven 14 0 0) gives false)
    ∷ (is_step_of_train 8 (of_seven 5 0 0) gives false)
    ∷ (is_step_of_train 263 (of_seven 5 0 0) gives false)
    -- those of both tracks; a run has those of one
    ∷ (is_step_of_train 7 (of_seven 5 1 2) gives true)
    ∷ (is_of_train A 7 (of_seven 5 0 0) gives true)
    ∷ (is_of_train B 7 (of_seven 5 0 0) gives false)
    ∷ (is_of_train B 7 (of_seven 5 1 2) gives true)
    ∷ (is_of_train A 8 (of_seven 5 0 0) gives false)
    -- "every step, these too, is its post's own"
    ∷ (is_of_post A 1 (of_seven 6 0 1) gives true)
    ∷ (is_of_post A 1 (plain 1 0 1) gives true)
    ∷ (is_of_post A 2 (of_seven 6 0 1) gives false)
    ∷ (is_of_post B 1 (of_seven 6 0 1) gives false)
    ∷ (is_of_post B 1 (of_seven 6 1 1) gives true)
    ∷ [])
unfolding le16 within
bytes_say_whose = refl

-- an announcement: something is said
pub spoken_words :
    Holds
    ((is_spoken Nothing gives false)
    ∷ (is_spoken Cvt gives true)
    ∷ (is_spoken Cvtz gives true)
    ∷ (is_spoken Vns gives true)
    ∷ (is_spoken Vnsz gives true)
    ∷ (is_announcement (says Vns (bytes_of 3 0 0 0 0)) gives true)
    ∷ (is_announcement (plain 3 0 0) gives false)
    ∷ [])
spoken_words = refl

-- ## The words of InPlainWords

pub plain_tests :
    Holds
    ((is_at_post A 1 (of_seven 6 0 1) gives true)
    ∷ (is_at_post B 1 (of_seven 6 0 1) gives false)
    ∷ (is_at_post B 1 (of_seven 6 1 1) gives true)
    ∷ (is_at_post A 2 (of_seven 6 0 1) gives false)
    ∷ (moves_train 7 (of_seven 4 0 1) gives false)
    ∷ (moves_train 7 (of_seven 5 0 1) gives true)
    ∷ (moves_train 7 (of_seven 7 1 1) gives true)
    ∷ (moves_train 7 (of_seven 8 0 1) gives false)
    ∷ (moves_train 263 (quiet (bytes_of 6 0 1 7 1)) gives true)
    ∷ (moves_train 7 (quiet (bytes_of 6 0 1 7 1)) gives false)
    ∷ [])
plain_tests = refl

pub plain_counts :
    Holds
    ((how_many (is_at_post A 1) (of_seven 6 0 1 ∷ of_seven 6 0 2 ∷ of_seven 6 0 1 ∷ []) gives 2)
    ∷ (how_many (is_at_post A 3) (of_seven 6 0 1 ∷ of_seven 6 0 2 ∷ []) gives 0)
    ∷ (entry_post 4 A VNS gives 0)
    ∷ (entry_post 4 A CVT gives 3)
    ∷ (entry_post 4 B VNS gives 3)
    ∷ (entry_post 4 B CVT gives 0)
    ∷ [])
plain_counts = refl

pub plain_sequences :
    Holds
    ((spoken (plain 1 0 0 ∷ says Cvt (bytes_of 3 0 0 0 0) ∷ plain 2 0 0 ∷ says Vnsz (bytes_of 4 0 1 0 0) ∷ [])
    gives says Cvt (bytes_of 3 0 0 0 0) ∷ says Vnsz (bytes_of 4 0 1 0 0) ∷ [])
    ∷ [])
plain_sequences = refl

-- ## Positions

pub run_ended : Holds ((has_ended none gives false) ∷ (has_ended (some 0) gives true) ∷ (has_ended (some 2) gives true) ∷ [])
run_ended = refl

-- of four posts: the block section beside the post of the start, and one further for each pass; the other end; the sending end
pub positions_of_four :
    Holds
    ((place_of (telephone 4 15) 0 0 gives 0)
    ∷ (place_of (telephone 4 15) 0 2 gives 2)
    ∷ (place_of (telephone 4 15) 3 0 gives 2)
    ∷ (place_of (telephone 4 15) 3 2 gives 0)
    ∷ (other_end 4 0 gives 3)
    ∷ (other_end 4 3 gives 0)
    ∷ (sending_end (telephone 4 15) A (running VNS Settled (fresh_track 4 A)) gives 0)
    ∷ (sending_end (telephone 4 15) A (running CVT Settled (fresh_track 4 A)) gives 3)
    ∷ (sending_end (telephone 4 15) B (running VNS Settled (fresh_track 4 B)) gives 3)
    ∷ (sending_end (telephone 4 15) B (running CVT Settled (fresh_track 4 B)) gives 0)
    ∷ [])
unfolding upward rank
positions_of_four = refl

pub posts_in_turn : Holds ((in_turn (telephone 4 15) 0 2 gives 1 ∷ 2 ∷ []) ∷ (in_turn (telephone 4 15) 3 2 gives 2 ∷ 1 ∷ []) ∷ [])
unfolding rank
posts_in_turn = refl

-- ## Runs

-- of three posts. "A train's run on a track begins with an accepted start of its number there and ends with the next accepted leave of that number
-- there. A number may have several runs": the latest first
pub runs_of_seven :
    Holds
    ((runs_of A 7 [] gives [])
    ∷ (runs_of A 7 (of_seven 5 0 0 ∷ []) gives run 0 [] none ∷ [])
    ∷ (runs_of A 7 (of_seven 5 0 0 ∷ of_seven 6 0 1 ∷ []) gives run 0 (1 ∷ []) none ∷ [])
    ∷ (runs_of A 7 (of_seven 5 0 0 ∷ of_seven 6 0 1 ∷ of_seven 7 0 2 ∷ []) gives run 0 (1 ∷ []) (some 2) ∷ [])
    -- downward, with passes in their sequence
    ∷ (runs_of A 7 (of_seven 5 0 3 ∷ of_seven 6 0 2 ∷ of_seven 6 0 1 ∷ of_seven 7 0 0 ∷ []) gives run 3 (2 ∷ 1 ∷ []) (some 0) ∷ [])
    -- a second run
    ∷ (runs_of A 7 (of_seven 5 0 0 ∷ of_seven 6 0 1 ∷ of_seven 7 0 2 ∷ of_seven 5 0 0 ∷ []) gives run 0 [] none ∷ run 0 (1 ∷ []) (some 2) ∷ [])
    -- the steps of another train, of the other track, and other steps of the post are not of the run
    ∷ (runs_of A 7 (of_seven 5 0 0 ∷ quiet (bytes_of 6 0 1 8 0) ∷ of_seven 6 1 1 ∷ plain 8 0 1 ∷ []) gives run 0 [] none ∷ [])
    ∷ (runs_of B 7 (of_seven 5 0 0 ∷ of_seven 5 1 2 ∷ of_seven 6 1 1 ∷ []) gives run 2 (1 ∷ []) none ∷ [])
    ∷ (runs_of A 8 (of_seven 5 0 0 ∷ []) gives [])
    ∷ [])
unfolding runs_of le16 within
runs_of_seven = refl

-- ## Reversals

-- of three posts. "from an accepted order to the accepted set or key at the last post": kinds 1, 2 and 13
pub under_way_on_a :
    Holds
    ((under_way 3 A [] gives false)
    ∷ (under_way 3 A (plain 1 0 0 ∷ []) gives true)
    ∷ (under_way 3 A (plain 1 0 0 ∷ plain 2 0 0 ∷ plain 3 0 0 ∷ plain 4 0 1 ∷ plain 2 0 1 ∷ []) gives true)
    ∷ (under_way 3 A (plain 1 0 0 ∷ plain 2 0 0 ∷ plain 2 0 1 ∷ plain 2 0 2 ∷ []) gives false)
    ∷ (under_way 3 A (plain 1 0 0 ∷ plain 2 0 0 ∷ plain 2 0 1 ∷ plain 13 0 2 ∷ []) gives false)
    -- another kind at the last post; a set before the order; the way back, and its end
    ∷ (under_way 3 A (plain 1 0 0 ∷ plain 8 0 2 ∷ []) gives true)
    ∷ (under_way 3 A (plain 2 0 2 ∷ plain 1 0 0 ∷ []) gives true)
    ∷ (under_way 3 A (plain 1 0 0 ∷ plain 2 0 2 ∷ plain 1 0 2 ∷ []) gives true)
    ∷ (under_way 3 A (plain 1 0 0 ∷ plain 2 0 2 ∷ plain 1 0 2 ∷ plain 2 0 2 ∷ []) gives true)
    ∷ (under_way 3 A (plain 1 0 0 ∷ plain 2 0 2 ∷ plain 1 0 2 ∷ plain 13 0 0 ∷ []) gives false)
    -- one track is not the other
    ∷ (under_way 3 B (plain 1 0 0 ∷ []) gives false)
    ∷ (under_way 3 A (plain 1 0 0 ∷ plain 2 1 2 ∷ []) gives true)
    ∷ (under_way 3 B (plain 1 1 2 ∷ []) gives true)
    ∷ (under_way 3 B (plain 1 1 2 ∷ plain 2 1 0 ∷ []) gives false)
    ∷ [])
unfolding under_way within
under_way_on_a = refl

-- ## A day

-- document 01, "The bench listing": "measures on A0 and A1; on A: order 0, set 0, announce 0, acknowledge 1, set 1; order B1; start A1 train 2417;
-- leave A0 train 2417", with 2417 = 113 + 9 × 256; and two byte strings that say no step
abbrev worked : List (List ℕ)
worked =
    bytes_of 8 0 0 0 0 ∷ bytes_of 8 0 1 0 0 ∷ [] ∷ bytes_of 1 0 0 0 0 ∷ bytes_of 2 0 0 0 0 ∷ bytes_of 3 0 0 0 0 ∷ bytes_of 4 0 1 0 0 ∷ bytes_of 2 0 1 0 0
    ∷ bytes_of 1 1 1 0 0 ∷ bytes_of 0 0 0 0 0 ∷ bytes_of 5 0 1 113 9 ∷ bytes_of 7 0 0 113 9 ∷ []

-- its accepted steps, and what they said
abbrev worked_accepted : List AcceptedStep
worked_accepted =
    plain 8 0 0 ∷ plain 8 0 1 ∷ plain 1 0 0 ∷ plain 2 0 0 ∷ says Cvt (bytes_of 3 0 0 0 0) ∷ says Cvtz (bytes_of 4 0 1 0 0) ∷ plain 2 0 1
    ∷ quiet (bytes_of 5 0 1 113 9) ∷ quiet (bytes_of 7 0 0 113 9) ∷ []

pub worked_accepted_lem : Holds ((accepted_steps (fresh (telephone 2 3)) worked gives worked_accepted) ∷ [])
unfolding refusals fresh accepted_steps
worked_accepted_lem = refl

-- what the statement reads off them
pub worked_announcements : Holds ((keep is_announcement worked_accepted gives says Cvt (bytes_of 3 0 0 0 0) ∷ says Cvtz (bytes_of 4 0 1 0 0) ∷ []) ∷ [])
worked_announcements = refl

pub worked_runs :
    Holds
    ((runs_of A 2417 (take 7 worked_accepted) gives [])
    ∷ (runs_of A 2417 (take 8 worked_accepted) gives run 1 [] none ∷ [])
    ∷ (runs_of A 2417 worked_accepted gives run 1 [] (some 0) ∷ [])
    ∷ (runs_of B 2417 worked_accepted gives [])
    ∷ [])
unfolding runs_of le16 within
worked_runs = refl

-- after each of them
pub worked_under_way :
    Holds
    ((map (λ (k : ℕ). under_way 2 A (take k worked_accepted)) (0 ∷ 1 ∷ 2 ∷ 3 ∷ 4 ∷ 5 ∷ 6 ∷ 7 ∷ 8 ∷ 9 ∷ [])
    gives false ∷ false ∷ false ∷ true ∷ true ∷ true ∷ true ∷ false ∷ false ∷ false ∷ [])
    ∷ (map (λ (k : ℕ). under_way 2 B (take k worked_accepted)) (3 ∷ 9 ∷ []) gives false ∷ false ∷ [])
    ∷ [])
unfolding under_way within
worked_under_way = refl
