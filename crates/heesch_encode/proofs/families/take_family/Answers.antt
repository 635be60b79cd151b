use Rattle.std.proofs.Common.{◌≡◌, ◌+◌, ◌-◌, ◌<◌, ℕ, List, length, get_or, take, subst, arith}
use Rattle.std.specs.Prelude.{flat_map}
use Rattle.std.specs.List.{enumerate_from}
use Rattle.std.proofs.lemmas.List.{take_all}
use Rattle.std.proofs.lemmas.List.FromFn.{length-enumerate_from}
use Rattle.std.proofs.lemmas.Result.{err_from_is_err_and}
use Rattle.heesch_grid.specs.CoronaFormula.{Variable}
use Rattle.heesch_grid.proofs.AroundFacts.{cells_around, around_given}
use Rattle.heesch_encode.specs.Families.{clauses_at}
use Rattle.heesch_encode.specs.Taking.{Takes}
use Rattle.heesch_encode.proofs.Numbered.{no_entry}
use Rattle.heesch_encode.proofs.Takings.{keeps_vars}
use Rattle.heesch_encode.proofs.Pieces.{variable_taken, variable_stopped, some_at}
use Rattle.heesch_encode.proofs.families.take_family.Goals as goal

-- a number below the count is that of a variable
below : (i : ℕ) (vars : List Variable) (count : ℕ) → count ≡ length vars → i < count → i < length vars
below i vars count is l = omega (arith, is, l)

pub take_of-requires-clause-vars : goal.take_of-requires-clause-vars
take_of-requires-clause-vars g c =
    keeps_vars c.requires.vars (c.loop-i.invariant.taken (cells_around g.G.Grid.geometry) (around_given g.G.Grid.geometry g.met.G.Grid.laws))

pub returns-in_err-take_of-clause-taken : goal.returns-in_err-take_of-clause-taken
returns-in_err-take_of-clause-taken g c =
    let vars = c.args.plan.now.universe.now.vars in
    let i = c.loop-i.i in
    let less = below i vars c.count-i-end.result c.count-i-end.ensures.count c.loop-i-test.true in
    let p = err_from_is_err_and c.from_residual.result c.from_residual.ensures.1 in
    let e = c.in_err-take_of.field-0.0 in
    λ around gives.
    let here = c.in_err-take_of.ensures.taken around (get_or vars (i + 1 - 1) no_entry.1) gives (some_at vars (i + 1) (omega arith) (omega arith)) in
    rw (p.1, p.2) (variable_stopped (clauses_at c.args.family g.G.Grid.geometry around c.args.plan.now.shape.now c.args.plan.now.level vars) vars i less c.args.desk.now.collector c.loop-i.desk.collector c.take_of.new.desk.collector (c.loop-i.invariant.taken around gives) e here)

pub loop-i-preserved : goal.loop-i-preserved
loop-i-preserved g c =
    let vars = c.args.plan.now.universe.now.vars in
    let i = c.loop-i.i in
    let less = below i vars c.count-i-end.result c.count-i-end.ensures.count c.loop-i-test.true in
    record {
      unmarked = c.in_ok-take_of.ensures.unmarked;
      taken = λ around gives.
          let here = c.in_ok-take_of.ensures.taken around (get_or vars (i + 1 - 1) no_entry.1) gives (some_at vars (i + 1) (omega arith) (omega arith)) in
          variable_taken (clauses_at c.args.family g.G.Grid.geometry around c.args.plan.now.shape.now c.args.plan.now.level vars) vars i less c.args.desk.now.collector c.loop-i.desk.collector c.take_of.new.desk.collector (c.loop-i.invariant.taken around gives) here;
    }

pub returns-clause-taken : goal.returns-clause-taken
returns-clause-taken g c =
    let entries : List (ℕ × Variable) = enumerate_from 1 c.args.plan.now.universe.now.vars in
    let long = length-enumerate_from 1 c.args.plan.now.universe.now.vars in
    let whole : take c.loop-i.i entries ≡ entries = take_all c.loop-i.i entries (omega (arith, long, c.loop-i-test.false, c.count-i-end.ensures.count)) in
    λ around gives.
    subst (λ zs. Takes c.args.desk.now.collector c.loop-i.desk.collector (flat_map (clauses_at c.args.family g.G.Grid.geometry around c.args.plan.now.shape.now c.args.plan.now.level c.args.plan.now.universe.now.vars) zs)) whole (c.loop-i.invariant.taken around gives)
