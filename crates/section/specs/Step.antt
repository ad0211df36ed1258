-- A step in its eight bytes (document 01, "The day file"; document 02, request 1).
use Rattle.std.specs.Prelude.{ℕ, ◌/◌, ◌%◌, Bool, cond, ◌&&◌, ◌||◌, List, [], ◌∷◌, length, eqb, ltb, leb, Option, Some, None}
use Rattle.std.specs.Bool.{beq}
use Rattle.section.specs.declared.Fault.{Fault}
use Rattle.section.specs.declared.Fault.TheVariants.{One, Two, Three, Four}
use Rattle.section.specs.declared.Step.{Step}
use Rattle.section.specs.declared.Step.TheVariants.{Order, Set, Announce, Acknowledge, Start, Pass, Leave}
use Rattle.section.specs.declared.Step.TheVariants.{MeasuresOn, MeasuresOff, FaultOn, FaultOff, Release, Key, Caution}
use Rattle.section.specs.declared.TrackStep.{TrackStep}
use Rattle.section.specs.Bytes.{byte, le16, within, truth_number}
use Rattle.section.specs.Numbers.{largest_train, step_length, last_fault, last_kind}
use Rattle.section.specs.Numbers.{order_kind, set_kind, announce_kind, acknowledge_kind, start_kind, pass_kind, leave_kind}
use Rattle.section.specs.Numbers.{measures_on_kind, measures_off_kind, fault_on_kind, fault_off_kind, release_kind, key_kind, caution_kind}

-- ## The fields

-- what the bytes of a step hold beside its track
pub record Fields : Type 0 where
  pub kind : ℕ
  pub post : ℕ
  pub fault : ℕ
  pub number : ℕ

abbrev pub fields : ℕ → ℕ → ℕ → ℕ → Fields
fields kind post fault number = record { kind = kind; post = post; fault = fault; number = number }

-- "byte 0 kind; byte 2 post; byte 3 fault; bytes 4–5 number"
abbrev pub fields_in : List ℕ → Fields
fields_in s = fields (byte s 0) (byte s 2) (byte s 3) (le16 (byte s 4) (byte s 5))

-- ## The kinds

-- "kind, 1 to 13", and 14
abbrev pub is_kind : ℕ → Bool
is_kind kind = within 1 last_kind kind

-- kinds 5 to 7, start, pass and leave: a train's own steps
abbrev pub is_train_kind : ℕ → Bool
is_train_kind kind = within start_kind leave_kind kind

-- kinds 10 and 11: a fault comes or goes
abbrev pub is_fault_kind : ℕ → Bool
is_fault_kind kind = within fault_on_kind fault_off_kind kind

-- a step of that kind whose bytes name that track stands on track b: one of any kind on its own track alone
abbrev pub stands_on : ℕ → Bool → Bool → Bool
stands_on kind track b = beq track b

abbrev pub is_fault : ℕ → Bool
is_fault fault = within 1 last_fault fault

abbrev pub is_train_number : ℕ → Bool
is_train_number number = within 1 largest_train number

-- ## The tests

-- "The fault is 1 to 3 in kinds 10 and 11, else zero." "Kinds 10 and 11 take fault 4 too"
unfoldable pub fault_well_formed : ℕ → ℕ → Bool
fault_well_formed kind fault = cond (is_fault_kind kind) (is_fault fault) (eqb fault 0)

-- "The number is 1 to 9,999 in kinds 5 to 7, 0 to 9,999 in kind 12, else zero." "kind 14 (number 1 to 9,999)"; since request 5 to 59,999
unfoldable pub number_well_formed : ℕ → ℕ → Bool
number_well_formed kind number =
    cond (is_train_kind kind || eqb kind caution_kind) (is_train_number number)
    (cond (eqb kind release_kind) (leb number largest_train) (eqb number 0))

-- "byte 1 track, 0 or 1", in every kind
unfoldable pub track_well_formed : ℕ → ℕ → Bool
track_well_formed kind track = ltb track 2

-- "byte 0 kind, 1 to 13; byte 1 track, 0 or 1; byte 2 post, below n"
unfoldable pub place_well_formed : ℕ → ℕ → ℕ → ℕ → Bool
place_well_formed n kind track post = is_kind kind && (track_well_formed kind track && ltb post n)

-- all of it, of the track, the fields and bytes 6–7
unfoldable pub fields_well_formed : ℕ → ℕ → Fields → ℕ → Bool
fields_well_formed n track f zeros =
    place_well_formed n f.kind track f.post && (fault_well_formed f.kind f.fault && (number_well_formed f.kind f.number && eqb zeros 0))

-- the bytes s say a step on a line of n posts; a step is eight bytes long
unfoldable pub well_formed : ℕ → List ℕ → Bool
well_formed n s = eqb (length s) step_length && fields_well_formed n (byte s 1) (fields_in s) (le16 (byte s 6) (byte s 7))

-- ## The step that the fields give

unfoldable pub fault_of : ℕ → Fault
fault_of fault = cond (eqb fault 1) One (cond (eqb fault 2) Two (cond (eqb fault 3) Three Four))

unfoldable pub step_of : Fields → Step
step_of f =
    cond (eqb f.kind order_kind) (Order f.post)
    (cond (eqb f.kind set_kind) (Set f.post)
    (cond (eqb f.kind announce_kind) (Announce f.post)
    (cond (eqb f.kind acknowledge_kind) (Acknowledge f.post)
    (cond (eqb f.kind start_kind) (Start f.post f.number)
    (cond (eqb f.kind pass_kind) (Pass f.post f.number)
    (cond (eqb f.kind leave_kind) (Leave f.post f.number)
    (cond (eqb f.kind measures_on_kind) (MeasuresOn f.post)
    (cond (eqb f.kind measures_off_kind) (MeasuresOff f.post)
    (cond (eqb f.kind fault_on_kind) (FaultOn f.post (fault_of f.fault))
    (cond (eqb f.kind fault_off_kind) (FaultOff f.post (fault_of f.fault))
    (cond (eqb f.kind release_kind) (Release f.post f.number)
    (cond (eqb f.kind key_kind) (Key f.post)
    (Caution f.post f.number)))))))))))))

-- the step that eight bytes say, right or not
unfoldable pub step_said : List ℕ → TrackStep
step_said s = record { track = eqb (byte s 1) 1; step = step_of (fields_in s) }

-- what the bytes s say on a line of n posts; none where they are malformed
unfoldable pub decoded : ℕ → List ℕ → Option TrackStep
decoded n s = cond (well_formed n s) (Some (step_said s)) None

-- ## The fields of a step, and its bytes

unfoldable pub fault_number : Fault → ℕ
fault_number One = 1
fault_number Two = 2
fault_number Three = 3
fault_number Four = 4

abbrev pub fields_of : Step → Fields
fields_of (Order p) = fields order_kind p 0 0
fields_of (Set p) = fields set_kind p 0 0
fields_of (Announce p) = fields announce_kind p 0 0
fields_of (Acknowledge p) = fields acknowledge_kind p 0 0
fields_of (Start p z) = fields start_kind p 0 z
fields_of (Pass p z) = fields pass_kind p 0 z
fields_of (Leave p z) = fields leave_kind p 0 z
fields_of (MeasuresOn p) = fields measures_on_kind p 0 0
fields_of (MeasuresOff p) = fields measures_off_kind p 0 0
fields_of (FaultOn p f) = fields fault_on_kind p (fault_number f) 0
fields_of (FaultOff p f) = fields fault_off_kind p (fault_number f) 0
fields_of (Release p z) = fields release_kind p 0 z
fields_of (Key p) = fields key_kind p 0 0
fields_of (Caution p z) = fields caution_kind p 0 z

unfoldable pub kind_of : Step → ℕ
kind_of x = (fields_of x).kind

unfoldable pub post_of : Step → ℕ
post_of x = (fields_of x).post

unfoldable pub number_of : Step → ℕ
number_of x = (fields_of x).number

unfoldable pub bytes_of : ℕ → Fields → List ℕ
bytes_of track f = f.kind ∷ track ∷ f.post ∷ f.fault ∷ f.number % 256 ∷ f.number / 256 ∷ 0 ∷ 0 ∷ []

-- the eight bytes of a step
unfoldable pub encoded : TrackStep → List ℕ
encoded x = bytes_of (truth_number x.track) (fields_of x.step)

-- a step whose track, post and number are in their ranges: one that some bytes say
unfoldable pub step_in_range : ℕ → TrackStep → Bool
step_in_range n x =
    track_well_formed (kind_of x.step) (truth_number x.track)
    && (ltb (post_of x.step) n && number_well_formed (kind_of x.step) (number_of x.step))
