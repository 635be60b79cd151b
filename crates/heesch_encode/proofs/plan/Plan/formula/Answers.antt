use Rattle.std.proofs.Common.{◌≡◌, ◌+◌, Err, length, sym, ◌∙◌, subst, ap}
use Rattle.std.specs.Prelude.{sum_by}
use Rattle.std.proofs.lemmas.Result.{err_from_is_err_and}
use Rattle.heesch_grid.specs.Listing.{ListsExactly}
use Rattle.heesch_grid.specs.Cells.{cell_before}
use Rattle.heesch_grid.specs.OwnerFormula.{IsOwned, owner_count}
use Rattle.heesch_grid.proofs.AroundFacts.{cells_around, around_given}
use Rattle.heesch_cert.specs.Formulas.{IsCountedFormula}
use Rattle.heesch_encode.specs.declared.collector.Collector.{Collector}
use Rattle.heesch_encode.specs.Taking.{IsTaken, Takes}
use Rattle.heesch_encode.proofs.Whole.{universe_at, first_all, second_all, first_counted, second_counted, all_taken, too_large_where}
use Rattle.heesch_encode.proofs.plan.Plan.formula.Given as given
use Rattle.heesch_encode.proofs.plan.Plan.formula.Goals as goal
use Rattle.heesch_encode.proofs.plan.Plan.formula.Goals.{After-take_formula, After-take_owner_formula}

-- the clauses that are given in version One are its formula
first : (g : given.Over) (c : After-take_formula g) → IsCountedFormula c.args.version g.G.Grid.geometry c.args.self.now.shape.now c.args.self.now.level c.args.self.now.universe.now.vars (length c.args.self.now.universe.now.vars) (first_all g.G.Grid.geometry c.args.self.now.shape.now c.args.self.now.level c.args.self.now.universe.now.vars)
first g c =
    let u = c.args.self.now.universe.now in
    first_counted g.G.Grid.geometry g.met.G.Grid.laws c.args.version c.args.self.now.shape.now c.args.self.now.level u.vars (universe_at g.G.Grid.geometry c.args.self.now.shape.now u.shape c.args.self.now.level u.level u.vars c.requires.shape_is c.requires.level_is c.requires.universe) c.in-One.is

-- and those in version Two
second : (g : given.Over) (c : After-take_owner_formula g) → IsCountedFormula c.args.version g.G.Grid.geometry c.args.self.now.shape.now c.args.self.now.level c.args.self.now.universe.now.vars (length c.args.self.now.universe.now.vars + sum_by (owner_count c.args.self.now.universe.now.vars) c.deref-in-Two.result.now) (second_all g.G.Grid.geometry c.args.self.now.shape.now c.args.self.now.level c.args.self.now.universe.now.vars c.deref-in-Two.result.now)
second g c =
    let u = c.args.self.now.universe.now in
    second_counted g.G.Grid.geometry g.met.G.Grid.laws c.args.version c.args.self.now.shape.now c.args.self.now.level u.vars (universe_at g.G.Grid.geometry c.args.self.now.shape.now u.shape c.args.self.now.level u.level u.vars c.requires.shape_is c.requires.level_is c.requires.universe) c.in-Two.is c.deref-in-Two.result.now
    (subst (ListsExactly cell_before (IsOwned u.vars)) (sym c.deref-in-Two.ensures.value) c.in_ok-owned-in-Two.ensures)

-- whose variables were counted
over_owned : (g : given.Over) (c : After-take_owner_formula g) → c.new-collector-in-Two.result.formula.vars ≡ length c.args.self.now.universe.now.vars + sum_by (owner_count c.args.self.now.universe.now.vars) c.deref-in-Two.result.now
over_owned g c =
    c.new-collector-in-Two.ensures.vars ∙ c.in_ok-vars-in-Two.ensures.count ∙ ap (λ zs. length c.args.self.now.universe.now.vars + sum_by (owner_count c.args.self.now.universe.now.vars) zs) (c.deref.ensures.value ∙ sym c.deref-in-Two.ensures.value)

pub returns-in_ok-take_formula-in-One : goal.returns-in_ok-take_formula-in-One
returns-in_ok-take_formula-in-One g c =
    let p = c.args.self.now in
    let vars = p.universe.now.vars in
    let all = first_all g.G.Grid.geometry p.shape.now p.level vars in
    let taken = subst (λ (k : Collector). Takes k c.take_formula.new.desk.collector all) c.in_ok-desk-in-One.ensures.collector (c.in_ok-take_formula-in-One.ensures (cells_around g.G.Grid.geometry) (around_given g.G.Grid.geometry g.met.G.Grid.laws)) in
    let made = all_taken c.args.version g.G.Grid.geometry p.shape.now p.level vars (length vars) c.args.size all (first g (goal.at.returns-in_ok-take_formula-in-One g c).After-take_formula)
    c.new-collector.result c.take_formula.new.desk.collector (c.new-collector.ensures.vars ∙ c.count.ensures.count) c.new-collector.ensures.clauses c.new-collector.ensures.room taken in
    record { formula = made.0; fits = made.1; too_large = λ never. absurd cc }

pub returns-in_err-take_formula-in-One-clause-too_large : goal.returns-in_err-take_formula-in-One-clause-too_large
returns-in_err-take_formula-in-One-clause-too_large g c =
    let p = c.args.self.now in
    let vars = p.universe.now.vars in
    let all = first_all g.G.Grid.geometry p.shape.now p.level vars in
    let e = c.in_err-take_formula-in-One.field-0.0 in
    let stopped = subst (λ (k : Collector). IsTaken (Err e) k c.take_formula.new.desk.collector all) c.in_ok-desk-in-One.ensures.collector (c.in_err-take_formula-in-One.ensures (cells_around g.G.Grid.geometry) (around_given g.G.Grid.geometry g.met.G.Grid.laws)) in
    let q = err_from_is_err_and c.from_residual-in_err-take_formula-in-One.result c.from_residual-in_err-take_formula-in-One.ensures.1 in
    λ large.
    too_large_where c.args.version g.G.Grid.geometry p.shape.now p.level vars (length vars) c.args.size all (first g (goal.at.returns-in_err-take_formula-in-One-clause-too_large g c).After-take_formula)
    c.new-collector.result c.take_formula.new.desk.collector (c.new-collector.ensures.vars ∙ c.count.ensures.count) c.new-collector.ensures.clauses c.new-collector.ensures.room e stopped (cc (large, q.1, q.2))

pub returns-in_err-take_owner_formula-in-Two-clause-too_large : goal.returns-in_err-take_owner_formula-in-Two-clause-too_large
returns-in_err-take_owner_formula-in-Two-clause-too_large g c =
    let p = c.args.self.now in
    let at = (goal.at.returns-in_err-take_owner_formula-in-Two-clause-too_large g c).After-take_owner_formula in
    let vars = p.universe.now.vars in
    let owned = c.deref-in-Two.result.now in
    let all = second_all g.G.Grid.geometry p.shape.now p.level vars owned in
    let e = c.in_err-take_owner_formula-in-Two.field-0.0 in
    let stopped = subst (λ (k : Collector). IsTaken (Err e) k c.take_owner_formula.new.desk.collector all) c.in_ok-desk-in-Two.ensures.collector (c.in_err-take_owner_formula-in-Two.ensures (cells_around g.G.Grid.geometry) (around_given g.G.Grid.geometry g.met.G.Grid.laws)) in
    let q = err_from_is_err_and c.from_residual-in_err-take_owner_formula-in-Two.result c.from_residual-in_err-take_owner_formula-in-Two.ensures.1 in
    λ large.
    too_large_where c.args.version g.G.Grid.geometry p.shape.now p.level vars (length vars + sum_by (owner_count vars) owned) c.args.size all (second g at)
    c.new-collector-in-Two.result c.take_owner_formula.new.desk.collector (over_owned g at) c.new-collector-in-Two.ensures.clauses c.new-collector-in-Two.ensures.room e stopped (cc (large, q.1, q.2))

pub returns-in_ok-take_owner_formula-in-Two : goal.returns-in_ok-take_owner_formula-in-Two
returns-in_ok-take_owner_formula-in-Two g c =
    let p = c.args.self.now in
    let at = (goal.at.returns-in_ok-take_owner_formula-in-Two g c).After-take_owner_formula in
    let vars = p.universe.now.vars in
    let owned = c.deref-in-Two.result.now in
    let all = second_all g.G.Grid.geometry p.shape.now p.level vars owned in
    let taken = subst (λ (k : Collector). Takes k c.take_owner_formula.new.desk.collector all) c.in_ok-desk-in-Two.ensures.collector (c.in_ok-take_owner_formula-in-Two.ensures (cells_around g.G.Grid.geometry) (around_given g.G.Grid.geometry g.met.G.Grid.laws)) in
    let made = all_taken c.args.version g.G.Grid.geometry p.shape.now p.level vars (length vars + sum_by (owner_count vars) owned) c.args.size all (second g at)
    c.new-collector-in-Two.result c.take_owner_formula.new.desk.collector (over_owned g at) c.new-collector-in-Two.ensures.clauses c.new-collector-in-Two.ensures.room taken in
    record { formula = made.0; fits = made.1; too_large = λ never. absurd cc }
