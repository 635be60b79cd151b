use Rattle.std.proofs.Common.{subst}
use Rattle.heesch_trail.specs.State.{IsPropagated}
use Rattle.heesch_cdcl.proofs.Lines.{NoFinal-fixpoint}
use Rattle.heesch_cdcl.proofs.learning.give_up.Goals as goal

pub returns-in-None-clause-ended : goal.returns-in-None-clause-ended
returns-in-None-clause-ended c =
    let found = c.in_ok-restart.ensures.found in
    NoFinal-fixpoint c.restart.new.self.trail (subst (IsPropagated c.restart.new.self.trail) c.in-None.is found)
