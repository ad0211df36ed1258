-- j is the record of the receiver that the next message is looked for from, and the walk from i and j on gives what the whole walk gives.
use Rattle.std.proofs.Common.{◌≡◌, ◌/◌, ◌≤◌, length}
use Rattle.registers.specs.Books.{sent_mark, received_mark}
use Rattle.registers.specs.Walk.{no_travel, going_from, walked}
use Rattle.registers.proofs.walk.Given as goal

abbrev pub invariant-loop-i : goal.invariant-loop-i
invariant-loop-i l = record {
  j_within : l.j ≤ length l.receiver / 8;
  index_within : l.index ≤ l.i;
  still : walked 0 no_travel (going_from sent_mark l.sender 0) (going_from received_mark l.receiver 0)
      ≡ walked l.index l.travel (going_from sent_mark l.sender l.i) (going_from received_mark l.receiver l.j);
}
