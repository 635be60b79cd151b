use Rattle.std.proofs.Common.{◌≡◌, [], true, rules}
use Rattle.heesch_logs.proofs.LogLines.{log_of_learnt}
use Rattle.heesch_logs.proofs.logs.learnt_log.Goals as goal

pub returns : goal.returns
returns c =
    let yes : c.has_no_cut.result ≡ true = search rules in
    let none = c.has_no_cut.ensures.0 yes in
    (none, log_of_learnt [] c.args.proof.now c.new.result c.new.ensures none)
