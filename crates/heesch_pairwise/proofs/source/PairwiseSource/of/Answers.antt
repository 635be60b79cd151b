use Rattle.std.proofs.Common.{◌<◌, ◌≤◌, ◌↔◌, IsTrue, ◌∙◌, ap, sym, subst, inl, inr, arith, length, true≢false}
use Rattle.std.proofs.lemmas.Bool.{cases_lt}
use Rattle.std.proofs.lemmas.Result.{err_from_is_err_and}
use Rattle.heesch_grid.specs.Clauses.{formula_size}
use Rattle.heesch_grid.proofs.AroundFacts.{cells_around, around_given}
use Rattle.heesch_place.specs.Universes.{Levels, IsUniverseOf}
use Rattle.heesch_numbers.specs.Common.{common_of}
use Rattle.heesch_numbers.specs.OwnerCounts.{IsHoldersBound}
use Rattle.heesch_pairwise.specs.Pairs.{pairs_of, pair_counts}
use Rattle.heesch_pairwise.proofs.SourceMade.{counted, formula_length, formula_size_is, larger}
use Rattle.heesch_pairwise.proofs.source.PairwiseSource.of.Goals as goal

pub returns-in_err-pairs-clause-too_large : goal.returns-in_err-pairs-clause-too_large
returns-in_err-pairs-clause-too_large g c = λ large.
    let u = c.in_ok-universe.universe in
    let e = c.in_ok-universe.ensures in
    let q = err_from_is_err_and c.from_residual-in_err-pairs.result c.from_residual-in_err-pairs.ensures.1 in
    let above = c.in_err-pairs.ensures.too_large (cc (large, q.1, q.2)) in
    larger g.G.Grid.geometry g.met.G.Grid.laws u c.args.shape.now c.args.level e.universe e.shape e.level c.args.size (omega (arith, above))

pub fits_by-requires : goal.fits_by-requires
fits_by-requires g c = subst (λ (w : Levels). IsHoldersBound w.vars c.in_ok-pairs.pairs.most_holders) (sym c.in_ok-common.ensures) c.in_ok-pairs.ensures.most

pub count-met-requires : goal.count-met-requires
count-met-requires g c = c.in_ok-pairs.ensures.later ∙ ap (λ (w : Levels). pair_counts w.vars) (sym c.in_ok-common.ensures ∙ sym c.universe-2.ensures.universe)

pub returns-then-not-branch-clause-too_large : goal.returns-then-not-branch-clause-too_large
returns-then-not-branch-clause-too_large g c = λ large.
    let geometry = g.G.Grid.geometry in
    let u = c.in_ok-universe.universe in
    let e = c.in_ok-universe.ensures in
    let fits = subst (λ (w : Levels). IsTrue c.in_ok-fits_by.field-0 ↔ (formula_size (common_of geometry (cells_around geometry) w) ≤ c.in_ok-pairs.left)) c.in_ok-common.ensures (c.in_ok-fits_by.ensures (cells_around geometry) (around_given geometry g.met.G.Grid.laws)) in
    let left = c.in_ok-pairs.ensures.left in
    let more : c.in_ok-pairs.left < formula_size (common_of geometry (cells_around geometry) u) = elim (cases_lt c.in_ok-pairs.left (formula_size (common_of geometry (cells_around geometry) u))) [
      | inl l ↦ l
      | inr few ↦ absurd (true≢false (sym (fits.1 few) ∙ c.if-not-branch.true))
    ] in
    larger geometry g.met.G.Grid.laws u c.args.shape.now c.args.level e.universe e.shape e.level c.args.size (omega arith)

pub invariant_of-result : goal.invariant_of-result
invariant_of-result g c =
    let geometry = g.G.Grid.geometry in
    let w = c.in_ok-common.common in
    let first = c.count.ensures (cells_around geometry) (around_given geometry g.met.G.Grid.laws) in
    let second = c.count-met.ensures ∙ ap (λ (v : Levels). length (pairs_of v.vars)) c.universe-2.ensures.universe in
    let both = formula_length geometry w in
    let sum = c.saturating_add.ensures in
    let test = c.if-saturating_add-gt-CLAUSES_MAX.false in
    record { counts_are = c.in_ok-pairs.ensures.later ∙ ap (λ (v : Levels). pair_counts v.vars) (sym c.in_ok-common.ensures); few = omega arith }

pub returns-clause-formula : goal.returns-clause-formula
returns-clause-formula g c =
    let w = c.in_ok-common.common in
    let e = c.in_ok-universe.ensures in
    let is = c.in_ok-common.ensures in
    counted g.G.Grid.geometry g.met.G.Grid.laws w c.args.shape.now c.args.level
    (subst (IsUniverseOf g.G.Grid.geometry) (sym is) e.universe) (ap (λ (l : Levels). l.shape) is ∙ e.shape) (ap (λ (l : Levels). l.level) is ∙ e.level)

pub returns-clause-fits : goal.returns-clause-fits
returns-clause-fits g c =
    let geometry = g.G.Grid.geometry in
    let w = c.in_ok-common.common in
    let is = c.in_ok-common.ensures in
    let size = formula_size_is geometry w in
    let few = (c.in_ok-fits_by.ensures (cells_around geometry) (around_given geometry g.met.G.Grid.laws)).0 c.if-not-branch.false in
    let left = c.in_ok-pairs.ensures.left in
    let same = ap (λ (l : Levels). formula_size (pairs_of l.vars)) is in
    omega arith
