use Rattle.std.proofs.Common.{subst}
use Rattle.std.proofs.lemmas.Result.{IfOk-weaker}
use Rattle.heesch_rup.specs.Answer.{IsLogAnswer}
use Rattle.heesch_judge.proofs.Ends.{bad_not_refuted, open_not_refuted}
use Rattle.heesch_judge.proofs.refuted.refutes_anew.Goals as goal

pub all_new_in_turn-requires : goal.all_new_in_turn-requires
all_new_in_turn-requires g c =
    let f = g.N.ClauseSource.listed c.args.formula.now in
    (subst (IsLogAnswer f.vars f.clauses (g.S.Steps.written c.args.steps.now)) c.in-Refuted.is c.in_ok-check_steps_in_turn.ensures).lines

pub returns-in-Refuted : goal.returns-in-Refuted
returns-in-Refuted g c =
    let f = g.N.ClauseSource.listed c.args.formula.now in
    let found = subst (IsLogAnswer f.vars f.clauses (g.S.Steps.written c.args.steps.now)) c.in-Refuted.is c.in_ok-check_steps_in_turn.ensures in
    IfOk-weaker c.all_new_in_turn.result _ _ (λ told fresh. ((λ t. record { refutes = found; new_lines = fresh.0 t }), (λ r. fresh.1 r.new_lines))) c.all_new_in_turn.ensures

pub returns-in-Open : goal.returns-in-Open
returns-in-Open g c =
    let f = g.N.ClauseSource.listed c.args.formula.now in
    open_not_refuted f.vars f.clauses (g.S.Steps.written c.args.steps.now) (subst (IsLogAnswer f.vars f.clauses (g.S.Steps.written c.args.steps.now)) c.in-Open.is c.in_ok-check_steps_in_turn.ensures).1

pub returns-in-BadLine : goal.returns-in-BadLine
returns-in-BadLine g c =
    let f = g.N.ClauseSource.listed c.args.formula.now in
    bad_not_refuted f.vars f.clauses (g.S.Steps.written c.args.steps.now) c.in-BadLine.at (subst (IsLogAnswer f.vars f.clauses (g.S.Steps.written c.args.steps.now)) c.in-BadLine.is c.in_ok-check_steps_in_turn.ensures)
