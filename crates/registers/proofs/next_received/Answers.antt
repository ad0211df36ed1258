use Rattle.std.proofs.Common.{◌≡◌, arith, rules, tests}
use Rattle.std.proofs.lemmas.Iterator.{first_from_Range}
use Rattle.registers.specs.Books.{entry_at, received_mark}
use Rattle.registers.proofs.Lists.{going_found}
use Rattle.registers.proofs.next_received.Goals as goal

pub returns : goal.returns
returns c =
    let book = c.args.book.now in
    going_found received_mark book c.args.i _
    (first_from_Range _ _ _ _ (λ r. (entry_at book r).direction ≡ received_mark) (λ r. (entry_at book r).direction ≡ received_mark → ⊥)
    c.find.ensures.ran
    (λ x q k. grind (arith, tests))
    (λ x q k. (search rules, grind (arith, tests))))
