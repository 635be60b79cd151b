use Rattle.std.proofs.Common.{Option, ◌↔◌, IsTrue, subst, MatchOption}
use Rattle.std.proofs.lemmas.Result.{IfOk-weaker}
use Rattle.heesch_cnf.specs.Flat.{Clauses}
use Rattle.heesch_cnf.specs.Lines.{IsSpent, LinesAreNew}
use Rattle.heesch_rup.proofs.in_turn.is_spent_in_turn.Goals as goal

pub returns : goal.returns
returns g c =
    let f = g.N.ClauseSource.listed c.args.formula.now in
    let log = g.S.Steps.written c.args.steps.now in
    let spent = subst (λ (o : Option Clauses). MatchOption o (IsSpent f.vars f.clauses c.args.turns log → ⊥) (λ added. LinesAreNew f.clauses log.lines ↔ IsSpent f.vars f.clauses c.args.turns log)) c.in-Some.is c.in_ok-added.ensures.spent in
    IfOk-weaker c.are_new_in_turn.result (λ yes. IsTrue yes ↔ LinesAreNew f.clauses log.lines) (λ yes. IsTrue yes ↔ IsSpent f.vars f.clauses c.args.turns log)
    (λ yes fresh. (λ e. spent.0 (fresh.0 e), λ s. fresh.1 (spent.1 s))) c.are_new_in_turn.ensures
