use Rattle.std.proofs.Common.{subst}
use Rattle.heesch_rup.specs.Answer.{IsLogAnswer}
use Rattle.heesch_logs.proofs.Equal.{refused}
use Rattle.heesch_logs.proofs.Refuted.{bad_not_refuted, open_not_refuted}
use Rattle.heesch_logs.proofs.logs.is_refutation.Goals as goal

pub returns-in-Open : goal.returns-in-Open
returns-in-Open c vars clauses log told =
    let found = subst (IsLogAnswer vars clauses log) c.in-Open.is told in
    refused (open_not_refuted vars clauses log found.1)

pub returns-in-BadLine : goal.returns-in-BadLine
returns-in-BadLine c vars clauses log told =
    let found = subst (IsLogAnswer vars clauses log) c.in-BadLine.is told in
    refused (bad_not_refuted vars clauses log c.in-BadLine.at found)
