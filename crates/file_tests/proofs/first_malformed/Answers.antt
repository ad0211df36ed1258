-- An incomplete step follows the whole ones, so it is the first malformed one where `find` finds none.
use Rattle.std.proofs.Common.{◌≡◌, ◌∙◌, true, false, arith, rules, tests}
use Rattle.std.proofs.lemmas.Iterator.{first_from_Range}
use Rattle.layout.specs.Layout.{step_count}
use Rattle.file_tests.specs.Tests.{well_at, first_malformed}
use Rattle.file_tests.proofs.Laws.{leading_found, well_here, incomplete}
use Rattle.file_tests.proofs.first_malformed.Goals as goal

pub returns : goal.returns
unfolding first_malformed step_count
returns c =
    let n = c.args.n in
    let s = c.args.steps.now in
    c.unwrap_or.ensures
    ∙ leading_found (well_at n s) _ _ _ (omega arith) (λ h. incomplete n s _ (omega arith))
    (first_from_Range _ _ _ _ (λ i. well_at n s i ≡ false) (λ i. well_at n s i ≡ true) c.find.ensures.ran
    (λ x q k. grind (arith, tests, well_here))
    (λ x q k. (search rules, grind (arith, tests, well_here))))
