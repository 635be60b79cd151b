use Rattle.heesch_logs.proofs.logs.is_refuted.Goals as goal

pub returns : goal.returns
returns g c =
    let formula = g.C.ClauseSource.listed c.args.formula.now in
    c.is_refutation.ensures formula.vars formula.clauses c.args.log.now c.in_ok-check_steps_in_turn.ensures
