use Rattle.std.proofs.lemmas.Result.{err_from_is_err_and}
use Rattle.heesch_check.proofs.checking.check_under.Goals as goal

pub returns-in_err-judge-clause-in_time : goal.returns-in_err-judge-clause-in_time
returns-in_err-judge-clause-in_time g c =
    let exit = err_from_is_err_and c.from_residual.result c.from_residual.ensures.1 in
    record { answers = λ first h. rw exit.1 tt; no_further = λ first h none. none }
