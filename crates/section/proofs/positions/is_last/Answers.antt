use native.Mathlib.Numerals.{add-one}
use Rattle.std.proofs.Common.{arith}
use Rattle.section.specs.Geometry.{is_last}
use Rattle.section.proofs.Laws.{rank_lt}
use Rattle.section.proofs.positions.is_last.Goals as goal

pub overflow_add-result : goal.overflow_add-result
overflow_add-result c = omega (arith, c.rank.ensures, rank_lt c.args.n c.args.up c.args.p c.requires)

pub returns : goal.returns
unfolding is_last
returns c = rw (add-one, c.rank.ensures)
