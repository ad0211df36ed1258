-- The walk's law, at the loop's head.
use Rattle.judging_in_place.proofs.Walk.{Walked}
use Rattle.judging_in_place.proofs.judge_steps.Given as goal

abbrev pub invariant-loop-i : goal.invariant-loop-i
invariant-loop-i g l = Walked l.fn.s g.E.Entries.entry l.steps l.count l.fn.buffer l.tracks l.buffer l.i
