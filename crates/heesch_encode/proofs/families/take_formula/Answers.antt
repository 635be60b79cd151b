use Rattle.std.proofs.lemmas.Result.{err_from_is_err_and}
use Rattle.heesch_grid.specs.CoronaFormula.{apart_clauses}
use Rattle.heesch_grid.proofs.AroundFacts.{cells_around, around_given}
use Rattle.heesch_cert.specs.Literals.{literals}
use Rattle.heesch_encode.specs.Owners.{common_clauses}
use Rattle.heesch_encode.proofs.Takings.{taken_after, stopped_before, keeps_vars}
use Rattle.heesch_encode.proofs.families.take_formula.Goals as goal

pub take_family-requires-clause-vars : goal.take_family-requires-clause-vars
take_family-requires-clause-vars g c =
    keeps_vars c.requires.vars (c.in_ok-take_common.ensures.taken (cells_around g.G.Grid.geometry) (around_given g.G.Grid.geometry g.met.G.Grid.laws))

pub returns-in_err-take_common : goal.returns-in_err-take_common
returns-in_err-take_common g c =
    let vars = c.args.plan.now.universe.now.vars in
    let p = err_from_is_err_and c.from_residual.result c.from_residual.ensures.1 in
    λ around gives.
    rw (p.1, p.2) (stopped_before c.in_err-take_common.field-0.0 c.args.desk.now.collector c.take_common.new.desk.collector (common_clauses g.G.Grid.geometry around c.args.plan.now.shape.now c.args.plan.now.level vars) (apart_clauses literals vars) (c.in_err-take_common.ensures.taken around gives))

pub returns : goal.returns
returns g c =
    let vars = c.args.plan.now.universe.now.vars in
    λ around gives.
    taken_after c.take_family.result c.args.desk.now.collector c.take_common.new.desk.collector c.take_family.new.desk.collector (common_clauses g.G.Grid.geometry around c.args.plan.now.shape.now c.args.plan.now.level vars) (apart_clauses literals vars) (c.in_ok-take_common.ensures.taken around gives) (c.take_family.ensures.taken around gives)
