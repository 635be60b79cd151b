use Rattle.std.proofs.Common.{Option, IfOk, ◌↔◌, IsTrue, subst, MatchOption}
use Rattle.std.proofs.lemmas.Result.{IfOk-weaker}
use Rattle.heesch_cnf.specs.Flat.{Clauses}
use Rattle.heesch_cnf.specs.Lines.{IsSpent, LinesAreNew}
use Rattle.heesch_rup.proofs.spent.is_spent.Goals as goal

pub returns : goal.returns
returns g c =
    let f = c.args.formula.now in
    let log = g.S.Steps.written c.args.steps.now in
    let spent = subst (λ (o : Option Clauses). MatchOption o (IsSpent f.vars f.clauses c.args.turns log → ⊥) (λ added. LinesAreNew f.clauses log.lines ↔ IsSpent f.vars f.clauses c.args.turns log)) c.in-Some.is c.in_ok-added.ensures.spent in
    let fresh = subst (λ (x : Clauses). IfOk c.are_new.result (λ yes. IsTrue yes ↔ LinesAreNew x.clauses log.lines)) c.in_ok-indexed.ensures c.are_new.ensures in
    IfOk-weaker c.are_new.result (λ yes. IsTrue yes ↔ LinesAreNew f.clauses log.lines) (λ yes. IsTrue yes ↔ IsSpent f.vars f.clauses c.args.turns log)
    (λ yes is. (λ e. spent.0 (is.0 e), λ s. is.1 (spent.1 s))) fresh
