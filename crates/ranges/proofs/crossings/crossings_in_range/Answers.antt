use Rattle.ranges.proofs.crossings.Laws.{each}
use Rattle.ranges.proofs.crossings.crossings_in_range.Goals as goal

pub returns-then-each_in_range : goal.returns-then-each_in_range
returns-then-each_in_range c =
    each c.args.n c.args.crossings.now _ c.told-crossings _ _ c.each_in_range.ensures c.if-each_in_range.true c.never_falls.ensures
