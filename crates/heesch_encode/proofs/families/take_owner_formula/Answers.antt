use Rattle.std.proofs.Common.{◌+◌, ◌<◌, length, sym, ◌∙◌, subst}
use Rattle.std.proofs.lemmas.Result.{err_from_is_err_and}
use Rattle.heesch_grid.specs.OwnerFormula.{owner_clauses}
use Rattle.heesch_grid.proofs.AroundFacts.{cells_around, around_given}
use Rattle.heesch_cert.specs.Literals.{literals}
use Rattle.heesch_encode.specs.Owners.{common_clauses}
use Rattle.heesch_encode.proofs.Takings.{taken_after, stopped_before}
use Rattle.heesch_encode.proofs.families.take_owner_formula.Goals as goal

pub take_owners-requires-clause-vars : goal.take_owners-requires-clause-vars
take_owners-requires-clause-vars g c =
    let geometry = g.G.Grid.geometry in
    let met = g.met.G.Grid in
    (c.in_ok-take_common.ensures.taken (cells_around geometry) (around_given geometry met.laws)).vars ∙ c.requires.vars

pub take_owners-requires-clause-small : goal.take_owners-requires-clause-small
take_owners-requires-clause-small g c =
    let geometry = g.G.Grid.geometry in
    let met = g.met.G.Grid in
    let same = (c.in_ok-take_common.ensures.taken (cells_around geometry) (around_given geometry met.laws)).vars in
    subst (λ n. n < 2147483648) (sym same) c.requires.small

pub returns-in_err-take_common : goal.returns-in_err-take_common
returns-in_err-take_common g c =
    let vars = c.args.plan.now.universe.now.vars in
    let p = err_from_is_err_and c.from_residual.result c.from_residual.ensures.1 in
    λ around gives.
    rw (p.1, p.2)
    (stopped_before c.in_err-take_common.field-0.0 c.args.desk.now.collector c.take_common.new.desk.collector (common_clauses g.G.Grid.geometry around c.args.plan.now.shape.now c.args.plan.now.level vars) (owner_clauses literals vars (length vars + 1) c.args.owned.now) (c.in_err-take_common.ensures.taken around gives))

pub returns : goal.returns
returns g c =
    let vars = c.args.plan.now.universe.now.vars in
    λ around gives.
    taken_after c.take_owners.result c.args.desk.now.collector c.take_common.new.desk.collector c.take_owners.new.collector (common_clauses g.G.Grid.geometry around c.args.plan.now.shape.now c.args.plan.now.level vars) (owner_clauses literals vars (length vars + 1) c.args.owned.now) (c.in_ok-take_common.ensures.taken around gives) c.take_owners.ensures
