use Rattle.std.proofs.Common.{◌≡◌, ◌+◌, take}
use Rattle.heesch_check.specs.Judging.{ArePlaced}
use Rattle.heesch_check.proofs.judging.Judge.placed.Given as goal

abbrev pub invariant-loop-item : goal.invariant-loop-item
invariant-loop-item g l = record {
  count : l.entries ≡ l.fn.before + l.item-index;
  placed : ArePlaced l.self.header l.fn.before (take l.item-index l.items);
}
