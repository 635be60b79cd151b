use Rattle.std.proofs.Common.{◌++◌, Err, subst}
use Rattle.std.proofs.lemmas.Result.{err_from_is_err_and}
use Rattle.heesch_grid.specs.CoronaFormula.{first_clauses, covering_clauses, support_clauses}
use Rattle.heesch_grid.proofs.AroundFacts.{cells_around, around_given}
use Rattle.heesch_cert.specs.Literals.{literals}
use Rattle.heesch_encode.specs.Taking.{Takes, IsTaken}
use Rattle.heesch_encode.proofs.Takings.{Clauses, takes_more, taken_after, stopped_before, keeps_vars}
use Rattle.heesch_encode.proofs.Pieces.{covering_family, support_family}
use Rattle.heesch_encode.proofs.families.take_common.Goals as goal

pub take_family-requires-clause-vars : goal.take_family-requires-clause-vars
take_family-requires-clause-vars g c =
    keeps_vars c.requires.vars (c.in_ok-take_first.ensures (cells_around g.G.Grid.geometry) (around_given g.G.Grid.geometry g.met.G.Grid.laws))

pub returns-in_err-take_family-clause-taken : goal.returns-in_err-take_family-clause-taken
returns-in_err-take_family-clause-taken g c =
    let geometry = g.G.Grid.geometry in
    let vars = c.args.plan.now.universe.now.vars in
    let shape = c.args.plan.now.shape.now in
    let j = c.args.plan.now.level in
    let p = err_from_is_err_and c.from_residual-in_err-take_family.result c.from_residual-in_err-take_family.ensures.1 in
    let e = c.in_err-take_family.field-0.0 in
    let a = c.args.desk.now.collector in
    let b = c.take_first.new.collector in
    let d = c.take_family.new.desk.collector in
    λ around gives.
    let first : Clauses = first_clauses literals around shape vars in
    let covering : Clauses = covering_clauses literals around shape j vars in
    let support : Clauses = support_clauses literals geometry vars in
    let stop : IsTaken (Err e) b d covering = subst (IsTaken (Err e) b d) (covering_family geometry around shape j vars) (c.in_err-take_family.ensures.taken around gives) in
    rw (p.1, p.2) (stopped_before e a d (first ++ covering) support (taken_after (Err e) a b d first covering (c.in_ok-take_first.ensures around gives) stop))

pub take_family-requires-2-clause-vars : goal.take_family-requires-2-clause-vars
take_family-requires-2-clause-vars g c =
    let around = cells_around g.G.Grid.geometry in
    let gives = around_given g.G.Grid.geometry g.met.G.Grid.laws in
    keeps_vars (keeps_vars c.requires.vars (c.in_ok-take_first.ensures around gives)) (c.in_ok-take_family.ensures.taken around gives)

pub returns-clause-taken : goal.returns-clause-taken
returns-clause-taken g c =
    let geometry = g.G.Grid.geometry in
    let vars = c.args.plan.now.universe.now.vars in
    let shape = c.args.plan.now.shape.now in
    let j = c.args.plan.now.level in
    let a = c.args.desk.now.collector in
    let b = c.take_first.new.collector in
    let d = c.take_family.new.desk.collector in
    let f = c.take_family-2.new.desk.collector in
    λ around gives.
    let first : Clauses = first_clauses literals around shape vars in
    let covering : Clauses = covering_clauses literals around shape j vars in
    let support : Clauses = support_clauses literals geometry vars in
    let second : Takes b d covering = subst (Takes b d) (covering_family geometry around shape j vars) (c.in_ok-take_family.ensures.taken around gives) in
    let third : IsTaken c.take_family-2.result d f support = subst (IsTaken c.take_family-2.result d f) (support_family geometry around shape j vars) (c.take_family-2.ensures.taken around gives) in
    taken_after c.take_family-2.result a d f (first ++ covering) support (takes_more a b d first covering (c.in_ok-take_first.ensures around gives) second) third
