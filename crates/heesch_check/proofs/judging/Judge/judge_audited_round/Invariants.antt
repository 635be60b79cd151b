use Rattle.std.proofs.Common.{◌≡◌, ◌+◌, take}
use Rattle.heesch_check.specs.Judging.{AreAllGood}
use Rattle.heesch_check.proofs.judging.Judge.judge_audited_round.Given as goal

abbrev pub invariant-loop-item : goal.invariant-loop-item
invariant-loop-item g l = record {
  kept : l.self ≡ record l.fn.self { entries = l.self.entries };
  good : AreAllGood l.fn.self.header (l.fn.self.entries + l.good) l.self.entries (take l.item-index l.others);
}
