-- The column "Checks" of document 01's table, with document 02's request 1: in every section and at every site the checks of a kind bear the
-- paper's figures, in its order.
use Prim.Native.Nat.{ℕ}
use mathlib.Core.Path.{◌≡◌, refl}
use mathlib.Core.List.{List, [], ◌∷◌, map}
use Rattle.section.specs.declared.Step.{Step}
use Rattle.section.specs.declared.Step.TheVariants.{Order, Set, Announce, Acknowledge, Start, Pass, Leave, MeasuresOn, MeasuresOff, FaultOn}
use Rattle.section.specs.declared.Step.TheVariants.{FaultOff, Release, Key, Caution}
use Rattle.section.specs.Refusal.{figure}
use Rattle.rules.specs.declared.Line.{Line}
use Rattle.rules.specs.declared.Site.{Site}
use Rattle.rules.specs.Site.{Occupancy}
use Rattle.rules.specs.Table.{Check, checks}

abbrev pub figures : Step → List ℕ
figures (Order p) = 11 ∷ 12 ∷ 14 ∷ 13 ∷ []
figures (Set p) = 15 ∷ 13 ∷ 18 ∷ 16 ∷ 19 ∷ []
figures (Announce p) = 15 ∷ []
figures (Acknowledge p) = 15 ∷ []
figures (Start p number) = 11 ∷ 12 ∷ 17 ∷ 13 ∷ 18 ∷ 22 ∷ []
figures (Pass p number) = 12 ∷ 17 ∷ 13 ∷ 22 ∷ []
figures (Leave p number) = 12 ∷ 17 ∷ []
figures (MeasuresOn p) = 21 ∷ []
figures (MeasuresOff p) = 21 ∷ 16 ∷ []
figures (FaultOn p f) = 21 ∷ []
figures (FaultOff p f) = 21 ∷ []
figures (Release p number) = 15 ∷ 12 ∷ 21 ∷ 13 ∷ 17 ∷ []
figures (Key p) = 15 ∷ 21 ∷ 13 ∷ 18 ∷ 16 ∷ 20 ∷ []
figures (Caution p number) = 12 ∷ []

pub figures_in_order : (c : Line) (x : Step) (e : Site) (g : Occupancy) → map (λ (k : Check). figure k.refusal) (checks c x e g) ≡ figures x
unfolding checks figure
figures_in_order c (Order p) e g = refl
figures_in_order c (Set p) e g = refl
figures_in_order c (Announce p) e g = refl
figures_in_order c (Acknowledge p) e g = refl
figures_in_order c (Start p number) e g = refl
figures_in_order c (Pass p number) e g = refl
figures_in_order c (Leave p number) e g = refl
figures_in_order c (MeasuresOn p) e g = refl
figures_in_order c (MeasuresOff p) e g = refl
figures_in_order c (FaultOn p f) e g = refl
figures_in_order c (FaultOff p f) e g = refl
figures_in_order c (Release p number) e g = refl
figures_in_order c (Key p) e g = refl
figures_in_order c (Caution p number) e g = refl
