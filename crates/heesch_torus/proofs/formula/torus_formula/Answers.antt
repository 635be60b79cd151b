use Rattle.heesch_torus.proofs.Formulas.{formula_over, model_where_cover}
use Rattle.heesch_torus.proofs.formula.torus_formula.Goals as goal

pub returns-clause-is : goal.returns-clause-is
returns-clause-is g c =
    formula_over g.G.Grid.geometry g.met.G.Grid.laws c.args.shape.now c.args.triple c.requires.domain.of_domain.is_triple c.in_ok-formula.field-0-1.items c.in_ok-formula.ensures.variables
    c.in_ok-formula.formula.vars c.in_ok-formula.formula.clauses c.in_ok-formula.ensures.vars c.in_ok-formula.ensures.clauses

pub returns-clause-model : goal.returns-clause-model
returns-clause-model g c =
    model_where_cover g.G.Grid.geometry g.met.G.Grid.laws c.args.shape.now c.in_ok-formula.ensures.form c.args.triple c.requires.domain.of_domain.is_triple c.in_ok-formula.formula.vars c.in_ok-formula.formula.clauses (returns-clause-is g c)
