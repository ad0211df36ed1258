-- Both counts stay below the index of the argument, so neither wraps.
use Rattle.std.proofs.Common.{◌≤◌}
use Rattle.days.proofs.run.Given as goal

abbrev pub invariant-loop-i : goal.invariant-loop-i
invariant-loop-i l = (l.days ≤ l.i) × (l.differ ≤ l.days)
