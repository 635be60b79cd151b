use Rattle.std.proofs.Common.{◌≡◌, ◌≤◌, drop, length}
use Rattle.heesch_outer_check.specs.Rounds.{AreBlocks}
use Rattle.heesch_outer_check.proofs.blocks.next_round.Given as goal

abbrev pub invariant-loop-count : goal.invariant-loop-count
invariant-loop-count l = record {
  within : l.length ≤ length l.bytes;
  many : length l.blocks ≡ l._count;
  blocks : AreBlocks l.bytes l.blocks (drop l.length l.bytes);
}
