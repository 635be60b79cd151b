use Rattle.std.proofs.Common.{arith}
use Rattle.heesch_rup.proofs.Values.{held-set}
use Rattle.heesch_rup.proofs.assignment.Assignment.assign.Goals as goal

pub returns-clause-ok : goal.returns-clause-ok
returns-clause-ok c = held-set c.args.self.now.values.items c.args.lit (omega arith)
