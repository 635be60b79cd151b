use Rattle.std.proofs.Common.{◌∙◌, sym}
use Rattle.heesch_logs.proofs.LogLines.{count_of}
use Rattle.heesch_logs.proofs.proof_log.ProofLogSteps.count.Goals as goal

pub returns : goal.returns
returns c =
    let proof = c.self.inside.proof.now in
    c.len.ensures ∙ sym (count_of proof c.self.inside.given c.args.self.now c.self.view_is)
