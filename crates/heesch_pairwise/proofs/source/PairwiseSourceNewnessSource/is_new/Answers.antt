use Rattle.std.proofs.Common.{◌∙◌, ap, sym, subst, List, length, arith, true≢false}
use Rattle.heesch_cnf.specs.declared.literal.Lit.{Lit}
use Rattle.heesch_cnf.specs.Clauses.{IsClause, IsNew}
use Rattle.heesch_grid.proofs.AroundFacts.{cells_around, around_given}
use Rattle.heesch_place.specs.Universes.{Levels}
use Rattle.heesch_numbers.specs.Common.{common_of}
use Rattle.heesch_pairwise.specs.Pairs.{pairs_of}
use Rattle.heesch_numbers.specs.Sourced.{Sourced}
use Rattle.heesch_numbers.proofs.SourceForms.{both_new, first_new, second_new}
use Rattle.heesch_pairwise.proofs.SourceMade.{formula_is, formula_vars}
use Rattle.heesch_pairwise.proofs.source.PairwiseSourceNewnessSource.is_new.Goals as goal

pub is_new-requires-clause-room : goal.is_new-requires-clause-room
is_new-requires-clause-room g c =
    let vars = formula_vars g.G.Grid.geometry c.self.inside.common in
    let seen = ap (λ (s : Sourced). s.formula.vars) c.self.view_is in
    omega (arith, vars, seen, c.requires.room)

pub has_no_pair-requires : goal.has_no_pair-requires
has_no_pair-requires g c =
    let vars = sym (formula_vars g.G.Grid.geometry c.self.inside.common) ∙ ap (λ (s : Sourced). s.formula.vars) c.self.view_is in
    let same = ap (λ (w : Levels). length w.vars) c.universe.ensures.universe in
    subst (λ n. IsClause n c.args.clause.now) (sym (same ∙ vars)) c.requires.form

pub returns-then-not-is_new : goal.returns-then-not-is_new
returns-then-not-is_new g c =
    let geometry = g.G.Grid.geometry in
    let u = c.self.inside.common in
    let clauses = sym (ap (λ (s : Sourced). s.formula.clauses) c.self.view_is) ∙ formula_is geometry u in
    let first = c.is_new.ensures (cells_around geometry) (around_given geometry g.met.G.Grid.laws) in (
      λ t. absurd (true≢false (sym t)),
      λ new. sym c.if-not-is_new.true ∙ first.1 (first_new (common_of geometry (cells_around geometry) u) (pairs_of u.vars) c.args.clause.now (subst (λ (xs : List (List Lit)). IsNew xs c.args.clause.now) clauses new)),
    )

pub returns : goal.returns
returns g c =
    let geometry = g.G.Grid.geometry in
    let u = c.self.inside.common in
    let clauses = sym (ap (λ (s : Sourced). s.formula.clauses) c.self.view_is) ∙ formula_is geometry u in
    let first = c.is_new.ensures (cells_around geometry) (around_given geometry g.met.G.Grid.laws) in
    let same = ap (λ (w : Levels). pairs_of w.vars) c.universe.ensures.universe in (
      λ t. subst (λ (xs : List (List Lit)). IsNew xs c.args.clause.now) (sym clauses)
          (both_new (common_of geometry (cells_around geometry) u) (pairs_of u.vars) c.args.clause.now (first.0 c.if-not-is_new.false)
          (subst (λ (xs : List (List Lit)). IsNew xs c.args.clause.now) same (c.has_no_pair.ensures.0 t))),
      λ new. c.has_no_pair.ensures.1 (subst (λ (xs : List (List Lit)). IsNew xs c.args.clause.now) (sym same)
          (second_new (common_of geometry (cells_around geometry) u) (pairs_of u.vars) c.args.clause.now (subst (λ (xs : List (List Lit)). IsNew xs c.args.clause.now) clauses new))),
    )
