use Rattle.std.proofs.Common.{◌≤◌, ◌-◌, drop, length}
use Rattle.heesch_outer_check.specs.Rounds.{AreGood}
use Rattle.heesch_outer_check.proofs.checking.check_listed.Given as goal

-- the records before this place are good
abbrev pub invariant-rounds : goal.invariant-rounds
invariant-rounds g l = record {
  within : l.at ≤ length l.input;
  most : l.count ≤ l.most;
  good : AreGood l.header 0 l.input l.count (drop l.at l.input);
}

abbrev pub decreases-rounds : goal.decreases-rounds
decreases-rounds g l = l.most - l.count
