use Rattle.std.proofs.Common.{All, ◌<◌, ◌≡◌, ◌+◌, ◌-◌, ◌∷◌, [], List, ℕ, length, get_or, sym, ap, ◌∙◌, subst, arith}
use Rattle.heesch_cnf.specs.Clauses.{IsClause}
use Rattle.heesch_grid.specs.Listing.{IsRising, ListsExactly}
use Rattle.heesch_grid.specs.declared.Cell.{Cell}
use Rattle.heesch_grid.specs.Cells.{cell_before}
use Rattle.heesch_grid.specs.Geometry.{IsAround}
use Rattle.heesch_grid.specs.Clauses.{clause_of, is_numbered}
use Rattle.heesch_grid.specs.CoronaFormula.{Variable, IsNumbered}
use Rattle.heesch_cert.specs.Literals.{literals}
use Rattle.heesch_encode.specs.Meeting.{supporting}
use Rattle.heesch_encode.specs.Taking.{IsTaken}
use Rattle.std.specs.Prelude.{nat_lt, ◌==◌, ◌&&◌, Contains}
use Rattle.heesch_grid.specs.Placement.{touch}
use Rattle.heesch_encode.proofs.ClauseLists.{clause_form, wider}
use Rattle.heesch_encode.proofs.Numbered.{no_entry}
use Rattle.heesch_encode.proofs.Pieces.{some_at, not_supporting, supporting_rising, supporting_small, support_clause, support_is}
use Rattle.heesch_encode.proofs.families.take_support.Given as given
use Rattle.heesch_encode.proofs.families.take_support.Goals as goal
use Rattle.heesch_encode.proofs.families.take_support.Goals.{After-deref-2, After-deref-3}

-- the numbers that were listed
listed : (g : given.Over) (c : After-deref-2 g) → c.deref-2.result.now ≡ supporting g.G.Grid.geometry c.args.plan.now.universe.now.vars (c.level_of-of.result - 1) c.shape-tile.result.now
listed g c = c.deref-2.ensures.value ∙ c.in_ok-list_supporting.ensures.listed

-- the clause that is written
written : (g : given.Over) (c : After-deref-3 g) (v : Variable) → IsNumbered c.args.plan.now.universe.now.vars c.args.var v → c.deref-3.result.now ≡ clause_of literals (is_numbered c.args.var) (λ y. (y.1.level + 1 == v.level) && touch g.G.Grid.geometry y.1.tile v.tile) c.args.plan.now.universe.now.vars
written g c v number =
    support_clause g.G.Grid.geometry c.args.plan.now.universe.now.vars c.args.var c.level_of-of.result v c.shape-tile.result.now c.deref-2.result.now c.write_implication.new.clause.items c.deref-3.result.now number
    (c.level_of-of.ensures v number) c.if-of-lt2.false (c.shape-tile.ensures ∙ c.placement_of.ensures.tile v number) (c.deref-2.ensures.value ∙ c.in_ok-list_supporting.ensures.listed) c.in_ok-write_implication.ensures c.deref-3.ensures.value

pub write_implication-requires-clause-rising : goal.write_implication-requires-clause-rising
write_implication-requires-clause-rising g c =
    subst (IsRising nat_lt) (sym (listed g (goal.at.write_implication-requires-clause-rising g c).After-deref-2)) (supporting_rising g.G.Grid.geometry c.args.plan.now.universe.now.vars (c.level_of-of.result - 1) c.shape-tile.result.now)

pub write_implication-requires-clause-absent : goal.write_implication-requires-clause-absent
write_implication-requires-clause-absent g c =
    let n = c.args.var in
    let v = get_or c.args.plan.now.universe.now.vars (n - 1) no_entry.1 in
    let number = some_at c.args.plan.now.universe.now.vars n c.requires.number.0 c.requires.number.1 in
    let level = c.level_of-of.ensures v number in
    λ m. not_supporting g.G.Grid.geometry c.args.plan.now.universe.now.vars (c.level_of-of.result - 1) n v c.shape-tile.result.now number (λ e. let two = c.if-of-lt2.false in omega arith) (subst (λ ns. Contains ns n) (listed g (goal.at.write_implication-requires-clause-absent g c).After-deref-2) m)

pub take-requires : goal.take-requires
take-requires g c =
    let vars = c.args.plan.now.universe.now.vars in
    let v = get_or vars (c.args.var - 1) no_entry.1 in
    let is = written g (goal.at.take-requires g c).After-deref-3 v (some_at vars c.args.var c.requires.number.0 c.requires.number.1) in
    wider (length vars) c.args.desk.now.collector.formula.vars c.deref-3.result.now c.requires.vars (subst (IsClause (length vars)) (sym is) (clause_form vars (is_numbered c.args.var) (λ (y : ℕ × Variable). (y.1.level + 1 == v.level) && touch g.G.Grid.geometry y.1.tile v.tile)))

pub returns-clause-taken : goal.returns-clause-taken
returns-clause-taken g c = λ v number.
    let is = written g (goal.at.returns-clause-taken g c).After-deref-3 v number in
    subst (IsTaken c.take.result c.args.desk.now.collector c.take.new.self) (ap (λ z. z ∷ []) is ∙ support_is g.G.Grid.geometry c.args.plan.now.universe.now.vars c.args.var c.level_of-of.result v (c.level_of-of.ensures v number) c.if-of-lt2.false) c.take.ensures

pub write_implication-requires-clause-others : goal.write_implication-requires-clause-others
write_implication-requires-clause-others g c =
    subst (All (λ n. n < 2147483648)) (sym (listed g (goal.at.write_implication-requires-clause-others g c).After-deref-2)) (supporting_small g.G.Grid.geometry c.args.plan.now.universe.now.vars (c.level_of-of.result - 1) c.shape-tile.result.now 2147483648 c.requires.plan.few)

pub list_supporting-requires-clause-ring : goal.list_supporting-requires-clause-ring
list_supporting-requires-clause-ring g c =
    let geometry = g.G.Grid.geometry in
    let n = c.args.var in
    let v = get_or c.args.plan.now.universe.now.vars (n - 1) no_entry.1 in
    let number = some_at c.args.plan.now.universe.now.vars n c.requires.number.0 c.requires.number.1 in
    let tile = c.shape-tile.ensures ∙ c.placement_of.ensures.tile v number in
    subst (ListsExactly cell_before (IsAround geometry c.shape-tile.result.now)) (sym c.deref.ensures.value)
    (subst (λ (zs : List Cell). ListsExactly cell_before (IsAround geometry zs) c.write_moved.new.ring.items) (sym tile) (c.in_ok-write_moved.ensures.listed v number))
