-- Rows of a table: what the definitions give, by computation, beside what document 01 says. A row of steps tells all checks of the last step
-- that fail, so that one that refuses alone is known to.
use Prim.Native.Nat.{ℕ, ◌-◌}
use mathlib.Core.Bool.{cond}
use mathlib.Core.Path.{◌≡◌}
use mathlib.Core.List.{List, [], ◌∷◌, map}
use mathlib.Core.Option
use mathlib.Core.Option.{Option, some}
use lib.ListN.{length, get_or, take}
use Rattle.section.specs.declared.Settings.{Settings}
use Rattle.section.specs.declared.Section.{Section}
use Rattle.section.specs.declared.Step.TheVariants.{Order}
use Rattle.section.specs.declared.TrackStep.{TrackStep}
use Rattle.section.specs.declared.Said.{Said}
use Rattle.section.specs.declared.Said.TheVariants.{Nothing}
use Rattle.section.specs.Refusal.{figure, refusal_by}
use Rattle.section.specs.Words.{refusal_of, said_by}
use Rattle.section.specs.Step.{encoded}
use Rattle.rules.specs.Line.{line_in}
use Rattle.rules.specs.Table.{Check, checks}
use Rattle.rules.specs.Judge.{site_of, occupancy_of, judge}
use Rattle.rules.proofs.Days.{A, fresh, step_on, reversal, reversal_to_cvt, offered_as, refusals, after}

-- ## Rows

pub record Row (X : Type 0) : Type 0 where
  pub given : X
  pub paper : X

infix 20 ◌gives◌
abbrev pub ◌gives◌ : {X : Type 0} → X → X → Row X
x gives y = record { given = x; paper = y }

-- in every row the definitions give what the paper says
abbrev pub Holds : {X : Type 0} → List (Row X) → Type 0
Holds {X} rows = map (λ (r : Row X). r.given) rows ≡ map (λ (r : Row X). r.paper) rows

-- ## Rows of steps

-- the answer to a step, 0 or the refusal and what is said, and the figures of all its checks that fail, in their order
pub record Decided : Type 0 where
  pub refusal : ℕ
  pub said : Said
  pub failing : List ℕ

unfoldable pub failing_of : List Check → List ℕ
unfolding figure
failing_of [] = []
failing_of (k ∷ ks) = cond k.holds (failing_of ks) (figure k.refusal ∷ failing_of ks)

unfoldable pub judged_step : TrackStep → Section → Decided
unfolding refusals offered_as failing_of refusal_by said_by
judged_step x s = record {
  refusal = refusal_of (judge s (encoded x)).verdict;
  said = said_by (judge s (encoded x)).verdict;
  failing = failing_of (checks (line_in s) x.step (site_of s x) (occupancy_of s x));
}

-- a day of one step or more from that section: its last step, where those before it are accepted
unfoldable pub judged_from : Section → List TrackStep → Option Decided
unfolding after judged_step
judged_from s day =
    let earlier = length day - 1 in
    Option.map (judged_step (get_or day earlier (step_on A (Order 0)))) (after s (take earlier day))

-- from a fresh section
unfoldable pub judged : Settings → List TrackStep → Option Decided
unfolding judged_from fresh reversal reversal_to_cvt
judged c day = judged_from (fresh c) day

-- no check fails, and this is said
abbrev pub says : Said → Option Decided
says said = some (record { refusal = 0; said = said; failing = [] })

abbrev pub accepted : Option Decided
accepted = says Nothing

-- this check fails, and no other
abbrev pub refused : ℕ → Option Decided
refused k = some (record { refusal = k; said = Nothing; failing = k ∷ [] })

-- these checks fail, and the first of them refuses
infix 25 ◌before◌
abbrev pub ◌before◌ : ℕ → List ℕ → Option Decided
k before later = some (record { refusal = k; said = Nothing; failing = k ∷ later })

-- ## Rows of what a section keeps and shows

-- of the section after a day all of whose steps are accepted
unfoldable pub seen_from : {X : Type 0} → (Section → X) → Section → List TrackStep → Option X
unfolding after reversal reversal_to_cvt
seen_from look s day = Option.map look (after s day)

-- from a fresh section
unfoldable pub seen : {X : Type 0} → (Section → X) → Settings → List TrackStep → Option X
unfolding seen_from fresh
seen look c day = seen_from look (fresh c) day
