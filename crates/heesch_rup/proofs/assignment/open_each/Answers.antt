use Rattle.std.proofs.Common.{arith}
use Rattle.heesch_rup.proofs.Values.{OthersAreOpen-drop_more, all_open_when_none_listed}
use Rattle.heesch_rup.proofs.assignment.open_each.Goals as goal

pub loop-variable-preserved : goal.loop-variable-preserved
loop-variable-preserved c =
    OthersAreOpen-drop_more c.loop-variable.values c.args.variables.now c.loop-variable.variable-index c.loop-variable-test.true
    (omega (arith, c.requires.places c.loop-variable.variable-index 0 c.loop-variable-test.true)) c.loop-variable.invariant

pub returns : goal.returns
returns c = all_open_when_none_listed c.loop-variable.values c.args.variables.now c.loop-variable.variable-index (omega arith) c.loop-variable.invariant
