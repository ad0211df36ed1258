-- The tables of the papers in plain numbers: the kinds of steps, the faults, what is said, letters and crossings, each as its byte. They name no
-- number of specs/Numbers, so that two that are exchanged there, and in the code, give another row.
use Prim.Native.Nat.{ℕ}
use mathlib.Core.Bool.{Bool, true, false}
use mathlib.Core.Path.{◌≡◌, refl}
use mathlib.Core.List.{List, [], ◌∷◌, map}
use Rattle.std.specs.Prelude.{Ok, Err, Some, Option}
use Rattle.section.specs.declared.Refusal.TheVariants.{CautionFormNeeded, Malformed}
use Rattle.section.specs.declared.Act.TheVariants as act
use Rattle.section.specs.declared.Fault.TheVariants.{One, Two, Three, Four}
use Rattle.section.specs.declared.Said.{Said}
use Rattle.section.specs.declared.Said.TheVariants.{Nothing, Cvt, Cvtz, Vns, Vnsz}
use Rattle.section.specs.declared.Step.{Step}
use Rattle.section.specs.declared.Step.TheVariants.{Order, Set, Announce, Acknowledge, Start, Pass, Leave}
use Rattle.section.specs.declared.Step.TheVariants.{MeasuresOn, MeasuresOff, FaultOn, FaultOff, Release, Key, Caution}
use Rattle.section.specs.declared.TrackStep.{TrackStep}
use Rattle.section.specs.declared.Walk.TheVariants.{Settled, Turn}
use Rattle.section.specs.Bytes.{le16, within}
use Rattle.section.specs.Crossings.{no_crossings, is_used, crossing_block, lacks_zones, lies_in, has_crossings}
use Rattle.section.specs.Step.{fault_well_formed, number_well_formed, track_well_formed, place_well_formed, fields_well_formed, well_formed}
use Rattle.section.specs.Step.{fault_of, step_of, step_said, decoded, fault_number, bytes_of, encoded, is_train_kind}
use Rattle.section.specs.declared.Refusal.{Refusal}
use Rattle.section.specs.Refusal.{figure, refusal_by}
use Rattle.section.specs.Words.{refusal_of, said_by, said_number, said_numbered, letter}
use Rattle.section.proofs.Rows.{◌gives◌, Holds}

-- ## Steps

-- "byte 0 kind ..; byte 1 track, 0 or 1; byte 2 post, below n; byte 3 fault; bytes 4–5 train number; bytes 6–7 zero", beside what they say
pub record StepBytes : Type 0 where
  pub bytes : List ℕ
  pub step : TrackStep

infix 20 ◌say◌
abbrev pub ◌say◌ : List ℕ → TrackStep → StepBytes
bytes say step = record { bytes = bytes; step = step }

abbrev a : Step → TrackStep
a x = record { track = false; step = x }

abbrev b : Step → TrackStep
b x = record { track = true; step = x }

-- the fourteen kinds, at post 5; train 1,027 = 3 + 4 × 256
abbrev kinds : List StepBytes
kinds =
    (1 ∷ 0 ∷ 5 ∷ 0 ∷ 0 ∷ 0 ∷ 0 ∷ 0 ∷ [] say a (Order 5))
    ∷ (2 ∷ 0 ∷ 5 ∷ 0 ∷ 0 ∷ 0 ∷ 0 ∷ 0 ∷ [] say a (Set 5))
    ∷ (3 ∷ 1 ∷ 5 ∷ 0 ∷ 0 ∷ 0 ∷ 0 ∷ 0 ∷ [] say b (Announce 5))
    ∷ (4 ∷ 1 ∷ 5 ∷ 0 ∷ 0 ∷ 0 ∷ 0 ∷ 0 ∷ [] say b (Acknowledge 5))
    ∷ (5 ∷ 0 ∷ 5 ∷ 0 ∷ 3 ∷ 4 ∷ 0 ∷ 0 ∷ [] say a (Start 5 1027))
    ∷ (6 ∷ 1 ∷ 5 ∷ 0 ∷ 3 ∷ 4 ∷ 0 ∷ 0 ∷ [] say b (Pass 5 1027))
    ∷ (7 ∷ 0 ∷ 5 ∷ 0 ∷ 3 ∷ 4 ∷ 0 ∷ 0 ∷ [] say a (Leave 5 1027))
    ∷ (8 ∷ 0 ∷ 5 ∷ 0 ∷ 0 ∷ 0 ∷ 0 ∷ 0 ∷ [] say a (MeasuresOn 5))
    ∷ (9 ∷ 1 ∷ 5 ∷ 0 ∷ 0 ∷ 0 ∷ 0 ∷ 0 ∷ [] say b (MeasuresOff 5))
    ∷ (10 ∷ 0 ∷ 5 ∷ 1 ∷ 0 ∷ 0 ∷ 0 ∷ 0 ∷ [] say a (FaultOn 5 One))
    ∷ (10 ∷ 0 ∷ 5 ∷ 2 ∷ 0 ∷ 0 ∷ 0 ∷ 0 ∷ [] say a (FaultOn 5 Two))
    ∷ (10 ∷ 0 ∷ 5 ∷ 3 ∷ 0 ∷ 0 ∷ 0 ∷ 0 ∷ [] say a (FaultOn 5 Three))
    ∷ (10 ∷ 0 ∷ 5 ∷ 4 ∷ 0 ∷ 0 ∷ 0 ∷ 0 ∷ [] say a (FaultOn 5 Four))
    ∷ (11 ∷ 1 ∷ 5 ∷ 1 ∷ 0 ∷ 0 ∷ 0 ∷ 0 ∷ [] say b (FaultOff 5 One))
    ∷ (11 ∷ 1 ∷ 5 ∷ 2 ∷ 0 ∷ 0 ∷ 0 ∷ 0 ∷ [] say b (FaultOff 5 Two))
    ∷ (11 ∷ 1 ∷ 5 ∷ 3 ∷ 0 ∷ 0 ∷ 0 ∷ 0 ∷ [] say b (FaultOff 5 Three))
    ∷ (11 ∷ 1 ∷ 5 ∷ 4 ∷ 0 ∷ 0 ∷ 0 ∷ 0 ∷ [] say b (FaultOff 5 Four))
    ∷ (12 ∷ 0 ∷ 5 ∷ 0 ∷ 3 ∷ 4 ∷ 0 ∷ 0 ∷ [] say a (Release 5 1027))
    ∷ (13 ∷ 1 ∷ 5 ∷ 0 ∷ 0 ∷ 0 ∷ 0 ∷ 0 ∷ [] say b (Key 5))
    ∷ (14 ∷ 0 ∷ 5 ∷ 0 ∷ 3 ∷ 4 ∷ 0 ∷ 0 ∷ [] say a (Caution 5 1027))
    ∷ []

-- what the bytes of a step say on a line of six posts, by computation
unfoldable pub read : List ℕ → Option TrackStep
unfolding decoded well_formed fields_well_formed place_well_formed track_well_formed number_well_formed fault_well_formed step_said step_of fault_of le16 within
read bytes = decoded 6 bytes

pub kinds_read : map (λ (r : StepBytes). read r.bytes) kinds ≡ map (λ (r : StepBytes). Some r.step) kinds
unfolding read
kinds_read = refl

pub kinds_written : map (λ (r : StepBytes). encoded r.step) kinds ≡ map (λ (r : StepBytes). r.bytes) kinds
unfolding encoded bytes_of fault_number
kinds_written = refl

-- ## Their ranges

unfoldable pub fits : List ℕ → Bool
unfolding read
fits bytes = well_formed 6 bytes

-- the numbers 0, 1, 59,999 = 95 + 234 × 256, 60,000 and 65,535 in a step of that kind, with that fault
abbrev numbers : ℕ → ℕ → List Bool
numbers kind fault =
    map fits
    ((kind ∷ 0 ∷ 5 ∷ fault ∷ 0 ∷ 0 ∷ 0 ∷ 0 ∷ [])
    ∷ (kind ∷ 0 ∷ 5 ∷ fault ∷ 1 ∷ 0 ∷ 0 ∷ 0 ∷ [])
    ∷ (kind ∷ 0 ∷ 5 ∷ fault ∷ 95 ∷ 234 ∷ 0 ∷ 0 ∷ [])
    ∷ (kind ∷ 0 ∷ 5 ∷ fault ∷ 96 ∷ 234 ∷ 0 ∷ 0 ∷ [])
    ∷ (kind ∷ 0 ∷ 5 ∷ fault ∷ 255 ∷ 255 ∷ 0 ∷ 0 ∷ [])
    ∷ [])

-- none; 1 to 59,999; 0 to 59,999; only zero
abbrev never : List Bool
never = false ∷ false ∷ false ∷ false ∷ false ∷ []

abbrev of_a_train : List Bool
of_a_train = false ∷ true ∷ true ∷ false ∷ false ∷ []

abbrev or_none : List Bool
or_none = true ∷ true ∷ true ∷ false ∷ false ∷ []

abbrev zero_only : List Bool
zero_only = true ∷ false ∷ false ∷ false ∷ false ∷ []

-- "The number is 1 to 9,999 in kinds 5 to 7, 0 to 9,999 in kind 12, else zero.", and kind 14 like 5 to 7; since request 5 to 59,999
pub numbers_by_kind :
    Holds
    ((numbers 0 0 gives never)
    ∷ (numbers 1 0 gives zero_only)
    ∷ (numbers 2 0 gives zero_only)
    ∷ (numbers 3 0 gives zero_only)
    ∷ (numbers 4 0 gives zero_only)
    ∷ (numbers 5 0 gives of_a_train)
    ∷ (numbers 6 0 gives of_a_train)
    ∷ (numbers 7 0 gives of_a_train)
    ∷ (numbers 8 0 gives zero_only)
    ∷ (numbers 9 0 gives zero_only)
    ∷ (numbers 10 1 gives zero_only)
    ∷ (numbers 11 1 gives zero_only)
    ∷ (numbers 12 0 gives or_none)
    ∷ (numbers 13 0 gives zero_only)
    ∷ (numbers 14 0 gives of_a_train)
    ∷ (numbers 255 0 gives never)
    ∷ [])
unfolding fits
numbers_by_kind = refl

-- the faults 0 to 5 in a step of that kind, with that number
abbrev faults : ℕ → ℕ → List Bool
faults kind number =
    map (λ (fault : ℕ). fits (kind ∷ 0 ∷ 5 ∷ fault ∷ number ∷ 0 ∷ 0 ∷ 0 ∷ [])) (0 ∷ 1 ∷ 2 ∷ 3 ∷ 4 ∷ 5 ∷ [])

abbrev one_to_four : List Bool
one_to_four = false ∷ true ∷ true ∷ true ∷ true ∷ false ∷ []

abbrev no_fault : List Bool
no_fault = true ∷ false ∷ false ∷ false ∷ false ∷ false ∷ []

-- "The fault is 1 to 3 in kinds 10 and 11, else zero." "Kinds 10 and 11 take fault 4 too"
pub faults_by_kind :
    Holds
    ((faults 1 0 gives no_fault)
    ∷ (faults 2 0 gives no_fault)
    ∷ (faults 3 0 gives no_fault)
    ∷ (faults 4 0 gives no_fault)
    ∷ (faults 5 7 gives no_fault)
    ∷ (faults 6 7 gives no_fault)
    ∷ (faults 7 7 gives no_fault)
    ∷ (faults 8 0 gives no_fault)
    ∷ (faults 9 0 gives no_fault)
    ∷ (faults 10 0 gives one_to_four)
    ∷ (faults 11 0 gives one_to_four)
    ∷ (faults 12 0 gives no_fault)
    ∷ (faults 13 0 gives no_fault)
    ∷ (faults 14 7 gives no_fault)
    ∷ [])
unfolding fits
faults_by_kind = refl

pub other_bytes :
    Holds
    -- "byte 1 track, 0 or 1; byte 2 post, below n"
    ((fits (1 ∷ 1 ∷ 5 ∷ 0 ∷ 0 ∷ 0 ∷ 0 ∷ 0 ∷ []) gives true)
    ∷ (fits (1 ∷ 2 ∷ 5 ∷ 0 ∷ 0 ∷ 0 ∷ 0 ∷ 0 ∷ []) gives false)
    ∷ (fits (14 ∷ 2 ∷ 5 ∷ 0 ∷ 7 ∷ 0 ∷ 0 ∷ 0 ∷ []) gives false)
    ∷ (fits (1 ∷ 0 ∷ 6 ∷ 0 ∷ 0 ∷ 0 ∷ 0 ∷ 0 ∷ []) gives false)
    ∷ (fits (7 ∷ 0 ∷ 6 ∷ 0 ∷ 7 ∷ 0 ∷ 0 ∷ 0 ∷ []) gives false)
    -- "bytes 6–7 zero"
    ∷ (fits (1 ∷ 0 ∷ 5 ∷ 0 ∷ 0 ∷ 0 ∷ 1 ∷ 0 ∷ []) gives false)
    ∷ (fits (1 ∷ 0 ∷ 5 ∷ 0 ∷ 0 ∷ 0 ∷ 0 ∷ 1 ∷ []) gives false)
    -- eight of them
    ∷ (fits (1 ∷ 0 ∷ 5 ∷ 0 ∷ 0 ∷ 0 ∷ 0 ∷ []) gives false)
    ∷ (fits (1 ∷ 0 ∷ 5 ∷ 0 ∷ 0 ∷ 0 ∷ 0 ∷ 0 ∷ 0 ∷ []) gives false)
    ∷ [])
unfolding fits
other_bytes = refl

-- a train's own steps are kinds 5 to 7
pub train_kinds :
    map is_train_kind (0 ∷ 4 ∷ 5 ∷ 6 ∷ 7 ∷ 8 ∷ 12 ∷ 14 ∷ []) ≡ (false ∷ false ∷ true ∷ true ∷ true ∷ false ∷ false ∷ false ∷ [])
unfolding within
train_kinds = refl

-- ## Answers

-- "0 or the refusal, then what is said (0 nothing, 1 CVT, 2 CVTz, 3 VNS, 4 VNSz)"
pub said_in_numbers : map said_number (Nothing ∷ Cvt ∷ Cvtz ∷ Vns ∷ Vnsz ∷ []) ≡ (0 ∷ 1 ∷ 2 ∷ 3 ∷ 4 ∷ [])
unfolding said_number
said_in_numbers = refl

pub numbers_said : map said_numbered (0 ∷ 1 ∷ 2 ∷ 3 ∷ 4 ∷ []) ≡ (Nothing ∷ Cvt ∷ Cvtz ∷ Vns ∷ Vnsz ∷ [])
unfolding said_numbered
numbers_said = refl

pub answers :
    Holds
    ((refusal_of (Ok Nothing) gives 0)
    ∷ (refusal_of (Ok Vnsz) gives 0)
    ∷ (refusal_of (Err Malformed) gives 4)
    ∷ (refusal_of (Err CautionFormNeeded) gives 22)
    ∷ (refusal_by {A = Said} (λ number. number) (Err 99) gives 99)
    ∷ (said_number (said_by {R = Refusal} (Ok Nothing)) gives 0)
    ∷ (said_number (said_by {R = Refusal} (Ok Cvt)) gives 1)
    ∷ (said_number (said_by {R = Refusal} (Ok Vnsz)) gives 4)
    ∷ (said_number (said_by (Err CautionFormNeeded)) gives 0)
    ∷ [])
unfolding refusal_by said_by said_number figure
answers = refl

-- "V or C settled; c or v, reversing to CVT or VNS": the codes of V, C, c, v
pub letters :
    Holds
    ((letter Settled false gives 86)
    ∷ (letter Settled true gives 67)
    ∷ (letter (Turn 0 act.Set) false gives 99)
    ∷ (letter (Turn 0 act.Announce) false gives 99)
    ∷ (letter (Turn 1 act.Acknowledge) false gives 99)
    ∷ (letter (Turn 0 act.Set) true gives 118)
    ∷ [])
unfolding letter
letters = refl

-- ## Crossings

-- "Each byte, for both tracks, is 255 (unused, these last) or a block section number, plus 128 where no counter-direction announcing zones exist."
pub record Crossing : Type 0 where
  pub used : Bool
  pub block : ℕ
  pub lacks : Bool

abbrev crossing : ℕ → Crossing
crossing byte = record { used = is_used byte; block = crossing_block byte; lacks = lacks_zones byte }

pub crossing_bytes_lem :
    Holds
    ((crossing 0 gives record { used = true; block = 0; lacks = false })
    ∷ (crossing 14 gives record { used = true; block = 14; lacks = false })
    ∷ (crossing 64 gives record { used = true; block = 64; lacks = false })
    ∷ (crossing 127 gives record { used = true; block = 127; lacks = false })
    ∷ (crossing 128 gives record { used = true; block = 0; lacks = true })
    ∷ (crossing 142 gives record { used = true; block = 14; lacks = true })
    ∷ (crossing 254 gives record { used = true; block = 126; lacks = true })
    ∷ [])
crossing_bytes_lem = refl

pub crossings_by_byte :
    Holds
    ((map (lies_in 14) (14 ∷ 142 ∷ 13 ∷ 15 ∷ 0 ∷ 128 ∷ 255 ∷ []) gives true ∷ true ∷ false ∷ false ∷ false ∷ false ∷ false ∷ [])
    -- an unused byte lies nowhere
    ∷ (map (lies_in 127) (127 ∷ 255 ∷ []) gives true ∷ false ∷ [])
    ∷ (map is_used (0 ∷ 254 ∷ 255 ∷ []) gives true ∷ true ∷ false ∷ [])
    -- "At least one is used": the first
    ∷ (map has_crossings ((255 ∷ 255 ∷ []) ∷ (0 ∷ 255 ∷ []) ∷ (128 ∷ 255 ∷ []) ∷ []) gives false ∷ true ∷ true ∷ [])
    ∷ [])
crossings_by_byte = refl

pub unused_crossings : no_crossings ≡ (255 ∷ 255 ∷ 255 ∷ 255 ∷ 255 ∷ 255 ∷ 255 ∷ 255 ∷ [])
unused_crossings = refl
