use Rattle.heesch_logs.proofs.LogLines.{step_at}
use Rattle.heesch_logs.proofs.proof_log.ProofLogSteps.hints.Goals as goal

pub hints_at-requires : goal.hints_at-requires
hints_at-requires c = step_at c.self.inside.proof.now c.self.inside.given c.args.self.now c.self.view_is c.as_slice.result.now c.args.index c.as_slice.ensures c.requires
