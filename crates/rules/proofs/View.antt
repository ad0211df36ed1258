-- A nested view of the fourteen kinds of steps, for proofs: facts about what walks, what moves a train, what a post notes of itself and a
-- release are proved once each. The table is read through `flat`, which gives the step back.
use Prim.Native.Nat.{ℕ}
use mathlib.Core.Bool.{Bool, true, false}
use mathlib.Core.Path.{◌≡◌, refl}
use Rattle.section.specs.declared.Fault.{Fault}
use Rattle.section.specs.declared.Step.{Step}
use Rattle.section.specs.declared.Step.TheVariants as step
use Rattle.section.specs.declared.TrackStep.{TrackStep}
use Rattle.section.specs.Step.{post_of}

-- kinds 1 to 4 and 13: the steps of a reversal
pub data Reversal : Type 0 where
  order set_device announce acknowledge key : Reversal

-- kinds 5 to 7: a train's own steps
pub data Motion : Type 0 where
  start pass leave : Motion

-- kinds 8 to 11: in place or lifted, standing or gone; kind 14: a caution form for a train
pub data Condition : Type 0 where
  measures : Bool → Condition
  fault : Bool → Fault → Condition
  caution : ℕ → Condition

pub data View : Type 0 where
  walks : Reversal → View
  runs : Motion → ℕ → View
  notes : Condition → View
  releases : ℕ → View

-- the step at post p that a view shows
unfoldable pub flat : ℕ → View → Step
flat p (walks order) = step.Order p
flat p (walks set_device) = step.Set p
flat p (walks announce) = step.Announce p
flat p (walks acknowledge) = step.Acknowledge p
flat p (walks key) = step.Key p
flat p (runs start z) = step.Start p z
flat p (runs pass z) = step.Pass p z
flat p (runs leave z) = step.Leave p z
flat p (notes (measures true)) = step.MeasuresOn p
flat p (notes (measures false)) = step.MeasuresOff p
flat p (notes (fault true f)) = step.FaultOn p f
flat p (notes (fault false f)) = step.FaultOff p f
flat p (notes (caution z)) = step.Caution p z
flat p (releases z) = step.Release p z

pub post_flat : (p : ℕ) (k : View) → post_of (flat p k) ≡ p
unfolding flat post_of
post_flat p (walks order) = refl
post_flat p (walks set_device) = refl
post_flat p (walks announce) = refl
post_flat p (walks acknowledge) = refl
post_flat p (walks key) = refl
post_flat p (runs start z) = refl
post_flat p (runs pass z) = refl
post_flat p (runs leave z) = refl
post_flat p (notes (measures true)) = refl
post_flat p (notes (measures false)) = refl
post_flat p (notes (fault true f)) = refl
post_flat p (notes (fault false f)) = refl
post_flat p (notes (caution z)) = refl
post_flat p (releases z) = refl

-- ## A step with its track

-- a step on one track at a post
pub data Seen : Type 0 where
  on : Bool → ℕ → View → Seen

abbrev pub as_step : Seen → TrackStep
as_step (on b p k) = record { track = b; step = flat p k }

unfoldable pub seen_at : Bool → Step → Seen
seen_at b (step.Order p) = on b p (walks order)
seen_at b (step.Set p) = on b p (walks set_device)
seen_at b (step.Announce p) = on b p (walks announce)
seen_at b (step.Acknowledge p) = on b p (walks acknowledge)
seen_at b (step.Start p z) = on b p (runs start z)
seen_at b (step.Pass p z) = on b p (runs pass z)
seen_at b (step.Leave p z) = on b p (runs leave z)
seen_at b (step.MeasuresOn p) = on b p (notes (measures true))
seen_at b (step.MeasuresOff p) = on b p (notes (measures false))
seen_at b (step.FaultOn p f) = on b p (notes (fault true f))
seen_at b (step.FaultOff p f) = on b p (notes (fault false f))
seen_at b (step.Release p z) = on b p (releases z)
seen_at b (step.Key p) = on b p (walks key)
seen_at b (step.Caution p z) = on b p (notes (caution z))

abbrev pub seen : TrackStep → Seen
seen x = seen_at x.track x.step

as_step_at : (b : Bool) (x : Step) → as_step (seen_at b x) ≡ record { track = b; step = x }
unfolding seen_at flat
as_step_at b (step.Order p) = refl
as_step_at b (step.Set p) = refl
as_step_at b (step.Announce p) = refl
as_step_at b (step.Acknowledge p) = refl
as_step_at b (step.Start p z) = refl
as_step_at b (step.Pass p z) = refl
as_step_at b (step.Leave p z) = refl
as_step_at b (step.MeasuresOn p) = refl
as_step_at b (step.MeasuresOff p) = refl
as_step_at b (step.FaultOn p f) = refl
as_step_at b (step.FaultOff p f) = refl
as_step_at b (step.Release p z) = refl
as_step_at b (step.Key p) = refl
as_step_at b (step.Caution p z) = refl

pub as_step_seen : (x : TrackStep) → as_step (seen x) ≡ x
as_step_seen x = as_step_at x.track x.step
