use Rattle.std.proofs.Common.{ℕ, Option, subst, MatchOption}
use Rattle.heesch_cnf.specs.Lines.{LinesHold}
use Rattle.heesch_rup.specs.Answer.{IsFirstBad}
use Rattle.heesch_rup.proofs.Answering.{bad_not_spent}
use Rattle.heesch_rup.proofs.in_turn.used_up_in_turn.Goals as goal

pub returns-in-Some-clause-spent : goal.returns-in-Some-clause-spent
returns-in-Some-clause-spent g c s =
    let f = g.C.ClauseSource.listed c.args.formula.now in
    let log = g.S.Steps.written c.args.steps.now in
    let first = subst (λ (o : Option ℕ). MatchOption o (LinesHold f.vars f.clauses log.lines) (λ at. IsFirstBad f.vars f.clauses log at)) c.in-Some.is c.in_ok-bad_line_in_turn.ensures.bad in
    bad_not_spent f.vars f.clauses log c.in-Some.field-0 c.args.turns first s
