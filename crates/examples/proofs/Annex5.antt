-- Annex 5's day, by computation: its answers, its accepted steps, and the new order that `demand3` gives. Its own order will not do: the train is
-- on the track in the reversal.
use Prim.Native.Nat.{ℕ}
use native.Mathlib.Omega.{arith}
use mathlib.Core.Bool.{Bool, true, false}
use mathlib.Core.Path.{◌≡◌, refl, sym, ◌∙◌, ap}
use mathlib.Core.List.{List}
use lib.ListN.{get_or, take}
use Rattle.section.specs.declared.Step.TheVariants.{Set}
use Rattle.section.specs.Fresh.{fresh_section}
use Rattle.section.specs.Settings.{settings_in_range}
use Rattle.section.specs.Step.{bytes_of, encoded}
use Rattle.rules.specs.Demand3.{AcceptedStep, kind, state_after, accepted_steps, under_way, NoTrainInReversal, Demand3}
use Rattle.rules.proofs.Theorem.{demand3, new_order}
use Rattle.rules.proofs.Days.{offered_as, refusals, fresh}
use Rattle.examples.specs.Annex5.{settings, steps, day, answers, quiet, accepted, reordered}

-- unfolded, the day computes
unfoldable computed : List ℕ
unfolding refusals fresh settings day steps offered_as
computed = refusals (fresh settings) day

pub answered : refusals (fresh settings) day ≡ answers
unfolding computed answers
answered = refl

pub accepts : accepted_steps (fresh_section settings) day ≡ accepted
unfolding computed accepted_steps accepted
accepts = refl

-- ## The claim, and its new order

pub settings_in_range_lem : settings_in_range settings ≡ true
unfolding computed
settings_in_range_lem = refl

pub claim : Demand3 settings day
claim = demand3 settings settings_in_range_lem day

pub ended : (b : Bool) → under_way settings.posts b (accepted_steps (fresh_section settings) day) ≡ false
unfolding computed under_way accepted_steps
ended true = refl
ended false = refl

pub new_order_lem : new_order settings settings_in_range_lem day ended ≡ reordered
unfolding new_order computed reordered
new_order_lem = refl

-- ## Its own order will not do

-- after its order the reversal runs, and train 2410 is in block section 1
pub train_in_reversal :
    NoTrainInReversal settings (accepted_steps (fresh_section settings) (take 7 day)) (state_after (fresh_section settings) (take 7 day)) → ⊥
unfolding computed under_way accepted_steps state_after
train_in_reversal h = let e : ◌≡◌ {A = ℕ} 2410 0 = h.empty false refl 1 (omega arith) in omega arith

-- its sixth step is a leave, and no order
pub another_order : new_order settings settings_in_range_lem day ended ≡ accepted_steps (fresh_section settings) day → ⊥
unfolding encoded bytes_of accepted reordered
another_order e =
    let f : ◌≡◌ {A = ℕ} 7 1 = ap (λ (l : List AcceptedStep). kind (get_or l 5 (quiet (Set 0)))) (sym new_order_lem ∙ e ∙ accepts) in
    omega arith
