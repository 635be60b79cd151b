use Rattle.std.proofs.Common.{subst, sym, ap, ◌∙◌, Some}
use Rattle.heesch_cnf.specs.Lines.{clauses_with}
use Rattle.heesch_cdcl.specs.Learning.{IsEnding}
use Rattle.heesch_cdcl.specs.Problem.{IsModel}
use Rattle.heesch_cdcl.specs.Searching.{formula_in}
use Rattle.heesch_cdcl.proofs.Facts.{none_if}
use Rattle.heesch_cdcl.proofs.Models.{Inner-model}
use Rattle.heesch_cdcl.proofs.solver.Solver.search.Goals as goal

pub invariant_of-self-in-Model : goal.invariant_of-self-in-Model
invariant_of-self-in-Model c =
    let s = c.self.inside in
    let ended = c.in_ok-run.ensures.ended in
    let none = none_if s.log.last (sym c.is_some.ensures ∙ c.if-is_some.false) in
    Inner-model s.turns s.empty s.work.trail c.run.new.work.trail s.log.lines c.run.new.lines s.log.last c.self.invariant.first c.self.invariant.solver.room c.run.ensures.formula c.run.ensures.searching c.run.ensures.few
    (subst (IsEnding s.turns c.run.new.lines c.run.new.work.trail) c.in-Model.is ended).0 none

pub returns-in_ok-values-in-Model-clause-valid : goal.returns-in_ok-values-in-Model-clause-valid
returns-in_ok-values-in-Model-clause-valid c = let inner = invariant_of-self-in-Model c in inner.solver

pub returns-in_ok-values-in-Model-clause-found : goal.returns-in_ok-values-in-Model-clause-found
returns-in_ok-values-in-Model-clause-found c =
    let t = c.run.new.work.trail in
    let inner = invariant_of-self-in-Model c in
    let same = c.in_ok-values-in-Model.ensures in
    (ap Some (sym same), subst (IsModel t.vars (clauses_with (formula_in t.clauses c.run.new.lines) c.run.new.lines)) (sym same) inner.solver.model)
