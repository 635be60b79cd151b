use Rattle.std.proofs.Common.{subst}
use Rattle.heesch_cdcl.specs.declared.solver.Found.TheVariants.{Model, Refuted, Spent}
use Rattle.heesch_cdcl.specs.Found.{IsFound}
use Rattle.heesch_torus.proofs.Solving.{solved_model, solved_refuted, solved_spent}
use Rattle.heesch_torus.proofs.outcome.solve.Goals as goal

pub returns-in-Model : goal.returns-in-Model
returns-in-Model c =
    let found : IsFound c.next.new.self (Model c.in-Model.values) = subst (IsFound c.next.new.self) c.in-Model.is c.in_ok-found.ensures.found in
    solved_model c.args.formula.vars c.args.formula.clauses c.args.turns c.in_ok-solver.solver c.next.new.self c.in_ok-solver.ensures.opened c.next.ensures.same c.in-Model.values found

pub returns-in-Refuted : goal.returns-in-Refuted
returns-in-Refuted c =
    let found : IsFound c.next.new.self Refuted = subst (IsFound c.next.new.self) c.in-Refuted.is c.in_ok-found.ensures.found in
    solved_refuted c.args.formula.vars c.args.formula.clauses c.args.turns c.in_ok-solver.solver c.next.new.self c.in_ok-solver.ensures.opened c.next.ensures.same c.into_log.result c.into_log.ensures.log c.next.ensures.learns c.next.ensures.valid found

pub returns-in-Spent : goal.returns-in-Spent
returns-in-Spent c =
    let found : IsFound c.next.new.self Spent = subst (IsFound c.next.new.self) c.in-Spent.is c.in_ok-found.ensures.found in
    solved_spent c.args.formula.vars c.args.formula.clauses c.args.turns c.in_ok-solver.solver c.next.new.self c.in_ok-solver.ensures.opened c.next.ensures.same c.into_log-in-Spent.result c.into_log-in-Spent.ensures.log c.next.ensures.learns c.next.ensures.valid found
