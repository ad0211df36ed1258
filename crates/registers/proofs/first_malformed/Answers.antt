use Rattle.std.proofs.Common.{◌≡◌, true, false, arith, rules, tests}
use Rattle.std.proofs.lemmas.Iterator.{first_from_Range}
use Rattle.registers.specs.Books.{well_at}
use Rattle.registers.proofs.Records.{malformed_found}
use Rattle.registers.proofs.first_malformed.Goals as goal

pub returns : goal.returns
returns c =
    let book = c.args.book.now in
    malformed_found book _ _ c.step_count.ensures
    (first_from_Range _ _ _ _ (λ i. well_at book i ≡ false) (λ i. well_at book i ≡ true) c.find.ensures.ran
    (λ x q k. grind (arith, tests))
    (λ x q k. (search rules, grind (arith, tests))))
