use Rattle.std.proofs.Common.{ℕ, false, refl, ◌≡◌, ◌∙◌}
use Rattle.section.specs.Bytes.{within}
use Rattle.section.specs.Items.{items}
use Rattle.section.specs.Numbers.{last_fault}
use Rattle.section.specs.Step.{is_fault_kind, fault_well_formed}
use Rattle.steps.proofs.Sets.{field_test, by_sets}
use Rattle.steps.proofs.well_formed.fault_well_formed.Goals as goal

pub returns : goal.returns
unfolding fault_well_formed within items field_test
returns c =
    c.fits.ensures ∙ rw c.from.ensures (by_sets is_fault_kind (λ k. false) _ _ refl refl last_fault c.args.fault c.args.kind c.requires)
