use Rattle.std.proofs.Common.{◌∙◌, ap, sym, subst, length}
use Rattle.heesch_cnf.specs.Clauses.{AreClauses}
use Rattle.heesch_place.specs.Universes.{Levels}
use Rattle.heesch_numbers.specs.Sourced.{Sourced}
use Rattle.heesch_pairwise.proofs.SourceMade.{formula_form, formula_vars}
use Rattle.heesch_pairwise.proofs.source.PairwiseSourceClauseSource.vars.Goals as goal

pub returns-clause-vars : goal.returns-clause-vars
returns-clause-vars g c =
    let u = c.self.inside.common in
    c.count.ensures.count ∙ ap (λ (w : Levels). length w.vars) c.universe.ensures.universe ∙ sym (formula_vars g.G.Grid.geometry u) ∙ ap (λ (s : Sourced). s.formula.vars) c.self.view_is

pub returns-clause-form : goal.returns-clause-form
returns-clause-form g c =
    subst (λ (s : Sourced). AreClauses s.formula.vars s.formula.clauses) c.self.view_is (formula_form g.G.Grid.geometry c.self.inside.common)
