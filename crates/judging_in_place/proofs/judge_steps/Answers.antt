-- The walk's laws, at each place of the loop.
use Rattle.std.proofs.Common.{refl}
use Rattle.judging_in_place.proofs.Walk.{begins, goes_on, ends}
use Rattle.judging_in_place.proofs.judge_steps.Goals as goal

pub loop-i-init : goal.loop-i-init
loop-i-init g c =
    begins c.args.s g.E.Entries.entry c.args.steps.now c.args.count c.args.buffer.now c.requires.s_value.0 c.requires.count_in_bounds.1

pub loop-i-preserved : goal.loop-i-preserved
loop-i-preserved g c =
    goes_on c.loop-i.invariant g.met.E.Entries.as_long c.loop-i-test.true c.step_at.ensures c.judge_on_line-verdict.ensures c.put.ensures c.put.auto.buffer

pub returns-clause-buffer_after : goal.returns-clause-buffer_after
returns-clause-buffer_after g c = (ends c.loop-i.invariant c.loop-i-test.false refl).1
