-- What is left to search is always what lies from rank j on.
use Rattle.std.proofs.Common.{◌≡◌}
use Rattle.occupancy.specs.Reach.{holds_from}
use Rattle.occupancy.proofs.reach.holds_from.Given as goal

abbrev pub invariant-loop-j : goal.invariant-loop-j
invariant-loop-j l =
    holds_from l.c l.signalled_only l.up l.trains l.from ≡ holds_from l.c l.signalled_only l.up l.trains l.j
