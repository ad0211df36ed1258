-- 6 is given to a section out of its ranges, and to no other: bytes give 4, and the table only refusals from the state, which are numbered from
-- 11 on.
use Prim.Native.Nat.{ℕ, ◌<◌}
use mathlib.Core.Bool.{Bool, true, false, ◌&&◌, false≢true}
use mathlib.Core.Path.{◌≡◌, refl, sym, ◌∙◌, ap}
use mathlib.Core.List.{List, [], ◌∷◌, map}
use native.Mathlib.Omega.{arith}
use lib.Dec.{leb}
use Rattle.std.specs.Prelude.{Ok, Err, Some, None, Option}
use Rattle.section.specs.declared.Refusal.{Refusal}
use Rattle.section.specs.declared.Refusal.TheVariants.{Malformed, OutOfRange, ReversalUnderWay, NoSuchPart, Occupied, OtherNotOnVns, NotItsTurn}
use Rattle.section.specs.declared.Refusal.TheVariants.{MeasuresNeeded, WrongTrain, FaultWithoutMark, DeviceLocked, SealsUsedUp, AlreadySo}
use Rattle.section.specs.declared.Refusal.TheVariants.{CautionFormNeeded}
use Rattle.section.specs.declared.Said.{Said}
use Rattle.section.specs.declared.Section.{Section}
use Rattle.section.specs.declared.Step.{Step}
use Rattle.section.specs.declared.Step.TheVariants.{Order, Set, Announce, Acknowledge, Start, Pass, Leave, MeasuresOn, MeasuresOff, FaultOn}
use Rattle.section.specs.declared.Step.TheVariants.{FaultOff, Release, Key, Caution}
use Rattle.section.specs.declared.TrackStep.{TrackStep}
use Rattle.section.specs.Refusal.{Verdict, figure, refusal_by}
use Rattle.section.specs.Range.{in_range}
use Rattle.section.specs.Step.{decoded}
use Rattle.section.specs.Words.{refusal_of}
use Rattle.section.proofs.Laws.{and_left, and_right}
use Rattle.rules.specs.Line.{line_in}
use Rattle.rules.specs.Table.{Check, checks}
use Rattle.rules.specs.Judge.{verdict_of, answer_of, site_of, occupancy_of, verdict_on, section_after, judge_step, judge_decoded, judge_in_range, judge}
use Rattle.rules.proofs.ChecksColumn.{figures, figures_in_order}

-- each of the figures is one of a refusal from the state
abbrev from_the_state : List ℕ → Bool
from_the_state [] = true
from_the_state (k ∷ ks) = leb 11 k && from_the_state ks

figures_from_the_state : (x : Step) → from_the_state (figures x) ≡ true
figures_from_the_state (Order p) = refl
figures_from_the_state (Set p) = refl
figures_from_the_state (Announce p) = refl
figures_from_the_state (Acknowledge p) = refl
figures_from_the_state (Start p number) = refl
figures_from_the_state (Pass p number) = refl
figures_from_the_state (Leave p number) = refl
figures_from_the_state (MeasuresOn p) = refl
figures_from_the_state (MeasuresOff p) = refl
figures_from_the_state (FaultOn p f) = refl
figures_from_the_state (FaultOff p f) = refl
figures_from_the_state (Release p number) = refl
figures_from_the_state (Key p) = refl
figures_from_the_state (Caution p number) = refl

abbrev figure_of : Check → ℕ
figure_of k = figure k.refusal

-- a row refuses with one of its figures
refused_from_the_state :
    (ks : List Check) (w : Said) (r : Refusal) → from_the_state (map figure_of ks) ≡ true → verdict_of ks w ≡ Err r → leb 11 (figure r) ≡ true
unfolding verdict_of
refused_from_the_state [] w r h e = let z : ◌≡◌ {A = ℕ} 0 1 = cc in absurd (omega arith)
refused_from_the_state (x ∷ ks) w r h e =
    go x.holds refl (λ q. refused_from_the_state ks w r (and_right (leb 11 (figure x.refusal)) _ h) q)
  where
    go : (b : Bool) → x.holds ≡ b → (verdict_of ks w ≡ Err r → leb 11 (figure r) ≡ true) → leb 11 (figure r) ≡ true
    go true q later = later (rw q at e)
    go false q later =
        let refused : ◌≡◌ {A = Verdict} (Err x.refusal) (Err r) = rw q at e in
        let same : x.refusal ≡ r = cc in
        rw same at (and_left (leb 11 (figure x.refusal)) _ h)

-- the table does not give 6
never_by_the_table : (s : Section) (x : TrackStep) → (judge_step s x).verdict ≡ Err OutOfRange → ⊥
unfolding judge_step answer_of verdict_on figure
never_by_the_table s x e = go (verdict_on s x) refl e
  where
    row : List Check
    row = checks (line_in s) x.step (site_of s x) (occupancy_of s x)

    go : (v : Verdict) → verdict_on s x ≡ v → (answer_of v s (section_after s x)).verdict ≡ Err OutOfRange → ⊥
    go (Ok said) q r = let z : ◌≡◌ {A = ℕ} 0 1 = cc in omega arith
    go (Err k) q r =
        let six : k ≡ OutOfRange = cc in
        let from : from_the_state (map figure_of row) ≡ true =
        rw (figures_in_order (line_in s) x.step (site_of s x) (occupancy_of s x)) (figures_from_the_state x.step) in
        false≢true (rw six at (refused_from_the_state row _ k from q))

-- 6 is the figure of one refusal
numbered_6 : (r : Refusal) → figure r ≡ 6 → r ≡ OutOfRange
unfolding figure
numbered_6 Malformed e = absurd (omega arith)
numbered_6 OutOfRange e = refl
numbered_6 ReversalUnderWay e = absurd (omega arith)
numbered_6 NoSuchPart e = absurd (omega arith)
numbered_6 Occupied e = absurd (omega arith)
numbered_6 OtherNotOnVns e = absurd (omega arith)
numbered_6 NotItsTurn e = absurd (omega arith)
numbered_6 MeasuresNeeded e = absurd (omega arith)
numbered_6 WrongTrain e = absurd (omega arith)
numbered_6 FaultWithoutMark e = absurd (omega arith)
numbered_6 DeviceLocked e = absurd (omega arith)
numbered_6 SealsUsedUp e = absurd (omega arith)
numbered_6 AlreadySo e = absurd (omega arith)
numbered_6 CautionFormNeeded e = absurd (omega arith)

is_refused : (v : Verdict) → refusal_of v ≡ 6 → v ≡ Err OutOfRange
unfolding refusal_by
is_refused (Ok said) e = absurd (omega arith)
is_refused (Err r) e = ap Err (numbered_6 r e)

four_not_six : figure Malformed ≡ figure OutOfRange → ⊥
unfolding figure
four_not_six e = omega arith

never_in_range : (s : Section) (d : Option TrackStep) → (judge_decoded s d).verdict ≡ Err OutOfRange → ⊥
unfolding judge_decoded
never_in_range s (Some x) e = never_by_the_table s x e
never_in_range s None e = let z : Malformed ≡ OutOfRange = cc in let four : figure Malformed ≡ figure OutOfRange = ap figure z in four_not_six four

pub only_out_of_range : (s : Section) (bytes : List ℕ) → refusal_of (judge s bytes).verdict ≡ 6 → in_range s ≡ false
unfolding judge judge_in_range
only_out_of_range s bytes e = go (in_range s) refl
  where
    go : (b : Bool) → in_range s ≡ b → in_range s ≡ false
    go true q = absurd (never_in_range s (decoded s.settings.posts bytes) (is_refused _ (rw q at e)))
    go false q = q

-- and to every such section
pub out_of_range_gives_6 : (s : Section) (bytes : List ℕ) → in_range s ≡ false → refusal_of (judge s bytes).verdict ≡ 6
unfolding judge refusal_by figure
out_of_range_gives_6 s bytes h = rw h refl
