-- A malformed record is told by the number of its refusal, which the phrase has in letters.
use Rattle.std.proofs.Common.{ne_eqb}
use Rattle.registers.proofs.words.Laws.{first_refused, second_refused}
use Rattle.registers.proofs.words.put_malformed.Goals as goal

pub returns-then-book : goal.returns-then-book
returns-then-book c = rw (c.if-book.true, first_refused) c.put_line.ensures

pub returns-else-book : goal.returns-else-book
returns-else-book c = rw (second_refused _ _ (ne_eqb _ _ c.if-book.false)) c.put_line-else-book.ensures
