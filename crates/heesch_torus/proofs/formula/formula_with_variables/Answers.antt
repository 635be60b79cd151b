use Rattle.std.proofs.Common.{List, length, sym, ap, subst, ◌∙◌}
use Rattle.heesch_cert.specs.Literals.{literals}
use Rattle.heesch_grid.specs.declared.Cell.{Cell}
use Rattle.heesch_grid.specs.TorusFormula.{torus_clauses}
use Rattle.heesch_torus.specs.Formula.{reduced_cells}
use Rattle.heesch_torus.specs.Variables.{TorusVariable, sets_of, AreVariables}
use Rattle.heesch_torus.proofs.Formulas.{domain_small, reduced_sets}
use Rattle.heesch_torus.proofs.formula.formula_with_variables.Goals as goal

pub variables_of-requires-clause-small : goal.variables_of-requires-clause-small
variables_of-requires-clause-small g c = domain_small g.G.Grid.geometry g.met.G.Grid.laws (length c.args.shape.now) c.args.triple c.cells.ensures.shape.few c.requires.domain

pub invariant_of-incidence-clause-small : goal.invariant_of-incidence-clause-small
invariant_of-incidence-clause-small g c = domain_small g.G.Grid.geometry g.met.G.Grid.laws (length c.args.shape.now) c.args.triple c.cells.ensures.shape.few c.requires.domain

pub returns-clause-variables : goal.returns-clause-variables
returns-clause-variables g c = subst (λ (s : List Cell). AreVariables g.G.Grid.geometry s c.args.triple c.in_ok-variables.variables.items) c.cells.ensures.cells c.in_ok-variables.ensures

pub invariant_of-sets-clause-sets : goal.invariant_of-sets-clause-sets
invariant_of-sets-clause-sets g c =
    let are = subst (λ (s : List Cell). AreVariables g.G.Grid.geometry s c.args.triple c.in_ok-variables.variables.items) c.cells.ensures.cells c.in_ok-variables.ensures in
    reduced_sets g.G.Grid.geometry c.args.shape.now c.args.triple c.as_slice.result.now (subst (λ (vs : List TorusVariable). AreVariables g.G.Grid.geometry c.args.shape.now c.args.triple vs) (sym c.as_slice.ensures.value) are)

pub returns-clause-vars : goal.returns-clause-vars
returns-clause-vars g c = c.in_ok-formula.ensures.vars ∙ ap length c.as_slice.ensures.value

pub returns-clause-clauses : goal.returns-clause-clauses
returns-clause-clauses g c = c.in_ok-formula.ensures.clauses ∙ ap (λ (vs : List TorusVariable). torus_clauses literals (reduced_cells g.G.Grid.geometry c.args.triple) (sets_of vs)) c.as_slice.ensures.value
