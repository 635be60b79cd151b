use Rattle.std.proofs.lemmas.Result.{IfOk-weaker}
use Rattle.heesch_outer_check.proofs.Answers.{proof_there, some_of}
use Rattle.heesch_outer_check.proofs.answer.read_proof.Goals as goal

pub returns : goal.returns
returns c =
    IfOk-weaker c.proof_of.result _ _ (λ r h. proof_there c.args.bytes.now c.in-Some.lines.items r (some_of _ _ c.in_ok-lines.field-0 c.in-Some.lines c.in-Some.is c.in_ok-lines.ensures) h) c.proof_of.ensures
