-- Laws of a step and its bytes. Bytes are well formed where each of their fields is right; right fields are those of the step that they give,
-- and a step is the one that its own fields give. The theorems are in `Codec`.
use Prim.Native.Nat.{ℕ, zero, suc, ◌≤◌, ◌<◌, ◌/◌, ◌%◌}
use mathlib.Core.Path.{◌≡◌, refl, ap}
use mathlib.Core.Bool.{Bool, true, false, cond, ◌&&◌, ◌||◌}
use mathlib.Core.List.{List, [], ◌∷◌}
use native.Mathlib.Omega.{arith}
use lib.ListN.{length}
use lib.Dec.{eqb, ltb, leb}
use borrow.Author.Tests.{eqb-true, ltb-true, leb-true}
use Rattle.std.specs.Prelude.{Some, None}
use Rattle.section.specs.declared.Fault.{Fault}
use Rattle.section.specs.declared.Fault.TheVariants.{One, Two, Three, Four}
use Rattle.section.specs.declared.Step.{Step}
use Rattle.section.specs.declared.Step.TheVariants.{Order, Set, Announce, Acknowledge, Start, Pass, Leave}
use Rattle.section.specs.declared.Step.TheVariants.{MeasuresOn, MeasuresOff, FaultOn, FaultOff, Release, Key, Caution}
use Rattle.section.specs.Bytes.{byte, le16, within, AllBytes, truth_number}
use Rattle.section.specs.Numbers.{largest_train, step_length, last_fault, last_kind, release_kind, caution_kind}
use Rattle.section.specs.Step.{is_kind, is_train_kind, is_fault_kind, is_fault, is_train_number, track_well_formed}
use Rattle.section.specs.Step.{Fields, fields, fields_in, fault_well_formed, number_well_formed, place_well_formed, fields_well_formed, well_formed}
use Rattle.section.specs.Step.{fault_of, step_of, step_said, decoded, fault_number, fields_of}
use Rattle.section.proofs.Laws.{and_left, and_right}

-- ## Well-formed bytes

pub malformed : (n : ℕ) (s : List ℕ) → well_formed n s ≡ false → decoded n s ≡ None
unfolding decoded
malformed n s e = rw e

pub well_said : (n : ℕ) (s : List ℕ) → well_formed n s ≡ true → decoded n s ≡ Some (step_said s)
unfolding decoded
well_said n s e = rw e

module _ (n : ℕ) (s : List ℕ) (e : well_formed n s ≡ true) where
  pub well_length : length s ≡ step_length
  unfolding well_formed
  well_length =
      eqb-true (length s) step_length
      (and_left (eqb (length s) step_length) (fields_well_formed n (byte s 1) (fields_in s) (le16 (byte s 6) (byte s 7))) e)

  pub well_fields : fields_well_formed n (byte s 1) (fields_in s) (le16 (byte s 6) (byte s 7)) ≡ true
  unfolding well_formed
  well_fields = and_right (eqb (length s) step_length) (fields_well_formed n (byte s 1) (fields_in s) (le16 (byte s 6) (byte s 7))) e

-- what the tests of the fields ask
pub record WellFormed (n track : ℕ) (f : Fields) (zeros : ℕ) : Type 0 where
  pub kind_well_formed : is_kind f.kind ≡ true
  pub track_well_formed_lem : track_well_formed f.kind track ≡ true
  pub post_below : f.post < n
  pub fault_well_formed_lem : fault_well_formed f.kind f.fault ≡ true
  pub number_well_formed_lem : number_well_formed f.kind f.number ≡ true
  pub zeros_none : zeros ≡ 0

pub well_formed_fields : (n track : ℕ) (f : Fields) (zeros : ℕ) → fields_well_formed n track f zeros ≡ true → WellFormed n track f zeros
unfolding fields_well_formed place_well_formed
well_formed_fields n track f zeros e =
    let kind = is_kind f.kind in
    let line = track_well_formed f.kind track in
    let spot = line && ltb f.post n in
    let fault = fault_well_formed f.kind f.fault in
    let number = number_well_formed f.kind f.number in
    let place = and_left (kind && spot) (fault && (number && eqb zeros 0)) e in
    let rest = and_right (kind && spot) (fault && (number && eqb zeros 0)) e in
    let last = and_right fault (number && eqb zeros 0) rest in
    record {
      kind_well_formed = and_left kind spot place;
      track_well_formed_lem = and_left line (ltb f.post n) (and_right kind spot place);
      post_below = ltb-true f.post n (and_right line (ltb f.post n) (and_right kind spot place));
      fault_well_formed_lem = and_left fault (number && eqb zeros 0) rest;
      number_well_formed_lem = and_left number (eqb zeros 0) last;
      zeros_none = eqb-true zeros 0 (and_right number (eqb zeros 0) last);
    }

-- ## The fields that a step gives back

-- what holds of each number below m, one after the other
abbrev pub Each : (ℕ → Type 0) → ℕ → Type 0
Each P zero = Unit {0}
Each P (suc m) = P 0 × Each (λ (k : ℕ). P (suc k)) m

pub below : (P : ℕ → Type 0) (m : ℕ) → Each P m → (k : ℕ) → k < m → P k
below P zero e k h = absurd (omega arith)
below P (suc m) e zero h = e.0
below P (suc m) e (suc k) h = below (λ (j : ℕ). P (suc j)) m e.1 k (omega arith)

from_one : (P : ℕ → Type 0) (m : ℕ) → Each (λ (k : ℕ). P (suc k)) m → (k : ℕ) → within 1 m k ≡ true → P k
unfolding within
from_one P m e zero w = let z : ◌≡◌ {A = ℕ} 0 1 = cc in absurd (omega arith)
from_one P m e (suc k) w =
    below (λ (j : ℕ). P (suc j)) m e k (omega (arith, leb-true (suc k) m (and_right (leb 1 (suc k)) (leb (suc k) m) w)))

fault_back : (f : ℕ) → is_fault f ≡ true → fault_number (fault_of f) ≡ f
unfolding fault_number fault_of
fault_back f w = from_one (λ (f : ℕ). fault_number (fault_of f) ≡ f) last_fault (refl, (refl, (refl, (refl, tt)))) f w

pub truth_back : (t : ℕ) → t < 2 → truth_number (eqb t 1) ≡ t
truth_back t h = below (λ (t : ℕ). truth_number (eqb t 1) ≡ t) 2 (refl, (refl, tt)) t h

-- the step of right fields has these fields
module _ (p f z : ℕ) where
  plain : {k : ℕ} → eqb f 0 ≡ true → eqb z 0 ≡ true → fields k p 0 0 ≡ fields k p f z
  plain no-fault no_number = rw (eqb-true f 0 no-fault, eqb-true z 0 no_number)

  train : {k : ℕ} {number : Bool} → eqb f 0 ≡ true → number ≡ true → fields k p 0 z ≡ fields k p f z
  train no-fault h = rw (eqb-true f 0 no-fault)

  faulted : {k : ℕ} → is_fault f ≡ true → eqb z 0 ≡ true → fields k p (fault_number (fault_of f)) 0 ≡ fields k p f z
  faulted h no_number = rw (fault_back f h, eqb-true z 0 no_number)

  fields_again : (k : ℕ) → is_kind k ≡ true → fault_well_formed k f ≡ true → number_well_formed k z ≡ true
      → fields_of (step_of (fields k p f z)) ≡ fields k p f z
  unfolding step_of fault_well_formed number_well_formed within
  fields_again =
      from_one (λ (k : ℕ). fault_well_formed k f ≡ true → number_well_formed k z ≡ true → fields_of (step_of (fields k p f z)) ≡ fields k p f z) last_kind
      (plain, (plain, (plain, (plain, (train, (train, (train, (plain, (plain, (faulted, (faulted, (train, (plain, (train, tt))))))))))))))

pub fields_back :
    (f : Fields) → is_kind f.kind ≡ true → fault_well_formed f.kind f.fault ≡ true → number_well_formed f.kind f.number ≡ true →
    fields_of (step_of f) ≡ f
fields_back f w = fields_again f.post f.fault f.number f.kind w

-- ## A step's own fields

fault_within : (f : Fault) → is_fault (fault_number f) ≡ true
unfolding fault_number within
fault_within One = refl
fault_within Two = refl
fault_within Three = refl
fault_within Four = refl

fault_same : (f : Fault) → fault_of (fault_number f) ≡ f
unfolding fault_number fault_of
fault_same One = refl
fault_same Two = refl
fault_same Three = refl
fault_same Four = refl

-- they give the step, and its kind and fault are right
pub record Own (x : Step) : Type 0 where
  pub same : step_of (fields_of x) ≡ x
  pub kind_well_formed : is_kind (fields_of x).kind ≡ true
  pub fault_well_formed_lem : fault_well_formed (fields_of x).kind (fields_of x).fault ≡ true

pub own : (x : Step) → Own x
unfolding step_of fault_well_formed within
own (Order p) = record { same = refl; kind_well_formed = refl; fault_well_formed_lem = refl }
own (Set p) = record { same = refl; kind_well_formed = refl; fault_well_formed_lem = refl }
own (Announce p) = record { same = refl; kind_well_formed = refl; fault_well_formed_lem = refl }
own (Acknowledge p) = record { same = refl; kind_well_formed = refl; fault_well_formed_lem = refl }
own (Start p z) = record { same = refl; kind_well_formed = refl; fault_well_formed_lem = refl }
own (Pass p z) = record { same = refl; kind_well_formed = refl; fault_well_formed_lem = refl }
own (Leave p z) = record { same = refl; kind_well_formed = refl; fault_well_formed_lem = refl }
own (MeasuresOn p) = record { same = refl; kind_well_formed = refl; fault_well_formed_lem = refl }
own (MeasuresOff p) = record { same = refl; kind_well_formed = refl; fault_well_formed_lem = refl }
own (FaultOn p f) = record { same = ap (FaultOn p) (fault_same f); kind_well_formed = refl; fault_well_formed_lem = fault_within f }
own (FaultOff p f) = record { same = ap (FaultOff p) (fault_same f); kind_well_formed = refl; fault_well_formed_lem = fault_within f }
own (Release p z) = record { same = refl; kind_well_formed = refl; fault_well_formed_lem = refl }
own (Key p) = record { same = refl; kind_well_formed = refl; fault_well_formed_lem = refl }
own (Caution p z) = record { same = refl; kind_well_formed = refl; fault_well_formed_lem = refl }

pub truth_same : (b : Bool) → eqb (truth_number b) 1 ≡ b
truth_same true = refl
truth_same false = refl

-- ## Well-formed fields are small

-- a well-formed number is none or a train's
pub number_small : (kind number : ℕ) → number_well_formed kind number ≡ true → number ≤ largest_train
unfolding number_well_formed within
number_small kind number e = small (is_train_kind kind || eqb kind caution_kind) (eqb kind release_kind) e
  where
    small : (moves releases : Bool) →
        cond moves (is_train_number number) (cond releases (leb number largest_train) (eqb number 0)) ≡ true →
        number ≤ largest_train
    small true releases h = leb-true number largest_train (and_right (leb 1 number) (leb number largest_train) h)
    small false true h = leb-true number largest_train h
    small false false h = omega (arith, eqb-true number 0 h)

pub kind_small : (kind : ℕ) → is_kind kind ≡ true → kind ≤ last_kind
unfolding within
kind_small kind e = leb-true kind last_kind (and_right (leb 1 kind) (leb kind last_kind) e)

pub track_small : (kind track : ℕ) → track_well_formed kind track ≡ true → track < 2
unfolding track_well_formed
track_small kind track e = ltb-true track 2 e

pub fault_small : (kind fault : ℕ) → fault_well_formed kind fault ≡ true → fault ≤ last_fault
unfolding fault_well_formed within
fault_small kind fault e = small (is_fault_kind kind) e
  where
    small : (faults : Bool) → cond faults (is_fault fault) (eqb fault 0) ≡ true → fault ≤ last_fault
    small true h = leb-true fault last_fault (and_right (leb 1 fault) (leb fault last_fault) h)
    small false h = omega (arith, eqb-true fault 0 h)

-- ## Two bytes and their number

pub le16_back : (z : ℕ) → le16 (z % 256) (z / 256) ≡ z
unfolding le16
le16_back z = omega arith

pub low_back : (low high : ℕ) → low < 256 → le16 low high % 256 ≡ low
unfolding le16
low_back low high h = omega arith

pub high_back : (low high : ℕ) → low < 256 → le16 low high / 256 ≡ high
unfolding le16
high_back low high h = omega arith

pub zero_low : (low high : ℕ) → le16 low high ≡ 0 → 0 ≡ low
unfolding le16
zero_low low high h = omega arith

pub zero_high : (low high : ℕ) → le16 low high ≡ 0 → 0 ≡ high
unfolding le16
zero_high low high h = omega arith

-- ## Lists of bytes

pub all_bytes : (s : List ℕ) → Each (λ (i : ℕ). byte s i < 256) (length s) → AllBytes s
all_bytes [] e i = omega arith
all_bytes (a ∷ s) e zero = e.0
all_bytes (a ∷ s) e (suc i) = all_bytes s e.1 i
