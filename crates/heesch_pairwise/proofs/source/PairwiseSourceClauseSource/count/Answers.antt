use Rattle.std.proofs.Common.{◌≡◌, ◌+◌, ◌∙◌, ap, sym, arith, length}
use Rattle.heesch_grid.proofs.AroundFacts.{cells_around, around_given}
use Rattle.heesch_place.specs.Universes.{Levels}
use Rattle.heesch_pairwise.specs.Pairs.{pairs_of, pair_counts}
use Rattle.heesch_pairwise.specs.Pairwise.{pairwise_formula}
use Rattle.heesch_numbers.specs.Sourced.{Sourced}
use Rattle.heesch_pairwise.proofs.SourceMade.{formula_length}
use Rattle.heesch_pairwise.proofs.source.PairwiseSourceClauseSource.count.Given as given
use Rattle.heesch_pairwise.proofs.source.PairwiseSourceClauseSource.count.Goals as goal
use Rattle.heesch_pairwise.proofs.source.PairwiseSourceClauseSource.count.Goals.{After-count-2}

-- both counts together
whole : (g : given.Over) (c : After-count-2 g) → c.count.result + c.count-2.result ≡ length (pairwise_formula g.G.Grid.geometry c.self.inside.common).clauses
whole g c =
    let geometry = g.G.Grid.geometry in
    let u = c.self.inside.common in
    let first = c.count.ensures (cells_around geometry) (around_given geometry g.met.G.Grid.laws) in
    let second = c.count-2.ensures ∙ ap (λ (w : Levels). length (pairs_of w.vars)) c.universe.ensures.universe in
    let both = formula_length geometry u in
    omega arith

pub overflow_add-result : goal.overflow_add-result
overflow_add-result g c = let all = whole g (goal.at.overflow_add-result g c).After-count-2 in let few = c.self.invariant.few in omega arith

pub returns-clause-count : goal.returns-clause-count
returns-clause-count g c = whole g (goal.at.returns-clause-count g c).After-count-2 ∙ ap (λ (s : Sourced). length s.formula.clauses) c.self.view_is

pub returns-clause-few : goal.returns-clause-few
returns-clause-few g c = let all = whole g (goal.at.returns-clause-few g c).After-count-2 in let few = c.self.invariant.few in omega arith

pub count-requires-2 : goal.count-requires-2
count-requires-2 g c = c.self.invariant.counts_are ∙ ap (λ (w : Levels). pair_counts w.vars) (sym c.universe.ensures.universe)
