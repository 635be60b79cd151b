use Rattle.std.proofs.Common.{◌∙◌, ap, sym, subst, List, arith, true≢false}
use Rattle.heesch_cnf.specs.declared.literal.Lit.{Lit}
use Rattle.heesch_cnf.specs.Clauses.{IsClause, IsNew}
use Rattle.heesch_grid.proofs.AroundFacts.{cells_around, around_given}
use Rattle.heesch_place.specs.Universes.{Levels}
use Rattle.heesch_numbers.specs.Common.{common_of}
use Rattle.heesch_numbers.specs.OwnerCounts.{owners_of, vars_with}
use Rattle.heesch_numbers.specs.Sourced.{Sourced}
use Rattle.heesch_numbers.proofs.SourceForms.{both_new, first_new, second_new}
use Rattle.heesch_numbers.proofs.SourceMade.{formula_is, formula_vars}
use Rattle.heesch_numbers.proofs.source.CoronaSourceNewnessSource.is_new.Goals as goal

pub is_new-requires-clause-room : goal.is_new-requires-clause-room
is_new-requires-clause-room g c =
    let vars = formula_vars g.G.Grid.geometry c.self.inside.common c.self.inside.owners.cells.items in
    let seen = ap (λ (s : Sourced). s.formula.vars) c.self.view_is in
    omega (arith, vars, seen, c.requires.room)

pub is_new-requires-2-clause-form : goal.is_new-requires-2-clause-form
is_new-requires-2-clause-form g c =
    let cells = c.self.inside.owners.cells.items in
    let vars = sym (formula_vars g.G.Grid.geometry c.self.inside.common cells) ∙ ap (λ (s : Sourced). s.formula.vars) c.self.view_is in
    let same = ap (λ (w : Levels). vars_with w.vars cells) c.universe.ensures.universe in
    subst (λ n. IsClause n c.args.clause.now) (sym (same ∙ vars)) c.requires.form

pub returns-then-not-is_new : goal.returns-then-not-is_new
returns-then-not-is_new g c =
    let geometry = g.G.Grid.geometry in
    let u = c.self.inside.common in
    let cells = c.self.inside.owners.cells.items in
    let clauses = sym (ap (λ (s : Sourced). s.formula.clauses) c.self.view_is) ∙ formula_is geometry u cells in
    let first = c.is_new.ensures (cells_around geometry) (around_given geometry g.met.G.Grid.laws) in (
      λ t. absurd (true≢false (sym t)),
      λ new. sym c.if-not-is_new.true ∙ first.1 (first_new (common_of geometry (cells_around geometry) u) (owners_of u.vars cells) c.args.clause.now (subst (λ (xs : List (List Lit)). IsNew xs c.args.clause.now) clauses new)),
    )

pub returns : goal.returns
returns g c =
    let geometry = g.G.Grid.geometry in
    let u = c.self.inside.common in
    let cells = c.self.inside.owners.cells.items in
    let clauses = sym (ap (λ (s : Sourced). s.formula.clauses) c.self.view_is) ∙ formula_is geometry u cells in
    let first = c.is_new.ensures (cells_around geometry) (around_given geometry g.met.G.Grid.laws) in
    let same = ap (λ (w : Levels). owners_of w.vars cells) c.universe.ensures.universe in (
      λ t. subst (λ (xs : List (List Lit)). IsNew xs c.args.clause.now) (sym clauses)
          (both_new (common_of geometry (cells_around geometry) u) (owners_of u.vars cells) c.args.clause.now (first.0 c.if-not-is_new.false)
          (subst (λ (xs : List (List Lit)). IsNew xs c.args.clause.now) same (c.is_new-2.ensures.0 t))),
      λ new. c.is_new-2.ensures.1 (subst (λ (xs : List (List Lit)). IsNew xs c.args.clause.now) (sym same)
          (second_new (common_of geometry (cells_around geometry) u) (owners_of u.vars cells) c.args.clause.now (subst (λ (xs : List (List Lit)). IsNew xs c.args.clause.now) clauses new))),
    )
