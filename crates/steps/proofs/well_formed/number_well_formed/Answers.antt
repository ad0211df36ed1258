use Rattle.std.proofs.Common.{ℕ, refl, ◌||◌, ◌≡◌, ◌∙◌, eqb}
use Rattle.section.specs.Bytes.{within}
use Rattle.section.specs.Items.{items}
use Rattle.section.specs.Numbers.{largest_train, release_kind, caution_kind}
use Rattle.section.specs.Step.{is_train_kind, number_well_formed}
use Rattle.steps.proofs.Sets.{field_test, by_sets}
use Rattle.steps.proofs.well_formed.number_well_formed.Goals as goal

pub returns : goal.returns
unfolding number_well_formed within items field_test
returns c =
    c.fits.ensures
    ∙ by_sets (λ k. is_train_kind k || eqb k caution_kind) (λ k. eqb k release_kind) _ _ refl refl largest_train c.args.number c.args.kind c.requires
