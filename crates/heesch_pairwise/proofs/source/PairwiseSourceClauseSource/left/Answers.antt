use Rattle.std.proofs.Common.{◌≡◌, ◌-◌, ◌∙◌, ap, sym, subst, ℕ, List, [], arith, get_or, length}
use Rattle.heesch_cnf.specs.declared.literal.Lit.{Lit}
use Rattle.heesch_cnf.specs.Left.{IsLeft}
use Rattle.heesch_cnf.specs.Lines.{numbered}
use Rattle.heesch_cnf.specs.Literals.{held}
use Rattle.heesch_grid.proofs.AroundFacts.{cells_around, around_given}
use Rattle.heesch_place.specs.Universes.{Levels}
use Rattle.heesch_numbers.specs.Common.{common_of}
use Rattle.heesch_pairwise.specs.Pairs.{pairs_of, pair_counts}
use Rattle.heesch_pairwise.specs.Pairwise.{pairwise_formula}
use Rattle.heesch_numbers.specs.Sourced.{Sourced}
use Rattle.heesch_numbers.proofs.SourceForms.{in_first, in_second}
use Rattle.heesch_pairwise.proofs.SourceMade.{formula_length, formula_is, formula_vars}
use Rattle.heesch_pairwise.proofs.source.PairwiseSourceClauseSource.left.Goals as goal

pub left-requires-clause-number : goal.left-requires-clause-number
left-requires-clause-number g c =
    let geometry = g.G.Grid.geometry in
    let first = c.count-count.ensures (cells_around geometry) (around_given geometry g.met.G.Grid.laws) in
    let low = c.requires.number.0 in
    let test = c.if-number-count.true in
    record { around = cells_around geometry; gives = around_given geometry g.met.G.Grid.laws; is = (low, omega arith) }

pub left-requires-clause-room : goal.left-requires-clause-room
left-requires-clause-room g c =
    let vars = formula_vars g.G.Grid.geometry c.self.inside.common in
    let seen = ap (λ (s : Sourced). s.formula.vars) c.self.view_is in
    omega (arith, vars, seen, c.requires.room)

pub left-requires-else-number-count-clause-room : goal.left-requires-else-number-count-clause-room
left-requires-else-number-count-clause-room g c =
    let vars = formula_vars g.G.Grid.geometry c.self.inside.common in
    let seen = ap (λ (s : Sourced). s.formula.vars) c.self.view_is in
    let same = ap (λ (w : Levels). length w.vars) c.universe.ensures.universe in
    omega (arith, vars, seen, same, c.requires.room)

pub left-requires-else-number-count-clause-place : goal.left-requires-else-number-count-clause-place
left-requires-else-number-count-clause-place g c =
    let geometry = g.G.Grid.geometry in
    let u = c.self.inside.common in
    let first = c.count-count.ensures (cells_around geometry) (around_given geometry g.met.G.Grid.laws) in
    let second = ap (λ (w : Levels). length (pairs_of w.vars)) c.universe.ensures.universe in
    let both = formula_length geometry u in
    let whole = ap (λ (s : Sourced). length s.formula.clauses) c.self.view_is in
    let high = c.requires.number.1 in
    let test = c.if-number-count.false in
    omega arith

pub left-requires-else-number-count-clause-later : goal.left-requires-else-number-count-clause-later
left-requires-else-number-count-clause-later g c = c.self.invariant.counts_are ∙ ap (λ (w : Levels). pair_counts w.vars) (sym c.universe.ensures.universe)

pub returns-then-number-count : goal.returns-then-number-count
returns-then-number-count g c =
    let geometry = g.G.Grid.geometry in
    let u = c.self.inside.common in
    let first = c.count-count.ensures (cells_around geometry) (around_given geometry g.met.G.Grid.laws) in
    let low = c.requires.number.0 in
    let test = c.if-number-count.true in
    subst (λ (e : List Lit). IsLeft (held c.args.values.now) e c.left.result)
    (sym (in_first (common_of geometry (cells_around geometry) u) (pairs_of u.vars) c.args.number low (omega arith)) ∙ ap (λ (cs : List (List Lit)). numbered cs c.args.number) (sym (formula_is geometry u)) ∙ ap (λ (s : Sourced). numbered s.formula.clauses c.args.number) c.self.view_is)
    (c.left.ensures (cells_around geometry) (around_given geometry g.met.G.Grid.laws))

pub returns-else-number-count : goal.returns-else-number-count
returns-else-number-count g c =
    let geometry = g.G.Grid.geometry in
    let u = c.self.inside.common in
    let place : ℕ = c.args.number - c.count-count.result - 1 in
    let first = c.count-count.ensures (cells_around geometry) (around_given geometry g.met.G.Grid.laws) in
    let test = c.if-number-count.false in
    let at : numbered (pairwise_formula geometry u).clauses c.args.number ≡ get_or (pairs_of u.vars) place [] = ap (λ (cs : List (List Lit)). numbered cs c.args.number) (formula_is geometry u) ∙ in_second (common_of geometry (cells_around geometry) u) (pairs_of u.vars) c.args.number place (omega arith) in
    subst (λ (e : List Lit). IsLeft (held c.args.values.now) e c.left-else-number-count.result)
    (ap (λ (w : Levels). get_or (pairs_of w.vars) place []) c.universe.ensures.universe ∙ sym at ∙ ap (λ (s : Sourced). numbered s.formula.clauses c.args.number) c.self.view_is)
    c.left-else-number-count.ensures
