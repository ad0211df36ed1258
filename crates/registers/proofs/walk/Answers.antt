use Rattle.std.proofs.Common.{sym, arith, rules}
use Rattle.section.proofs.Told.{told}
use Rattle.registers.proofs.Walks.{unlike}
use Rattle.registers.proofs.walk.Goals as goal

pub returns-then-not-same_message : goal.returns-then-not-same_message
returns-then-not-same_message c =
    let l = c.loop-i in
    let differ = told c.same_message.ensures c.if-not-same_message.true in
    rw l.invariant.still
    (sym (unlike c.args.sent_by _ _ l.i l.j l.index l.travel _ _ (omega arith) (search rules) c.in-Some.ensures.1 (search rules)))
