use Rattle.std.proofs.Common.{◌<◌, ◌≤◌, ◌↔◌, IsTrue, ◌∙◌, ap, sym, subst, inl, inr, arith, length, true≢false}
use Rattle.std.proofs.lemmas.Bool.{cases_lt}
use Rattle.std.proofs.lemmas.Result.{err_from_is_err_and}
use Rattle.heesch_grid.specs.Clauses.{formula_size}
use Rattle.heesch_grid.proofs.AroundFacts.{cells_around, around_given}
use Rattle.heesch_place.specs.Universes.{Levels, IsUniverseOf}
use Rattle.heesch_numbers.specs.Common.{common_of}
use Rattle.heesch_numbers.specs.OwnerCounts.{IsHoldersBound, owners_of}
use Rattle.heesch_numbers.proofs.SourceMade.{counted, formula_length, size_is, larger, more_owners, owners_at}
use Rattle.heesch_numbers.proofs.source.CoronaSource.of.Goals as goal

pub returns-in_err-owners-clause-too_large : goal.returns-in_err-owners-clause-too_large
returns-in_err-owners-clause-too_large g c = λ large.
    let u = c.in_ok-universe.universe in
    let e = c.in_ok-universe.ensures in
    let q = err_from_is_err_and c.from_residual-in_err-owners.result c.from_residual-in_err-owners.ensures.1 in
    more_owners g.G.Grid.geometry g.met.G.Grid.laws u c.args.shape.now c.args.level e.universe e.shape e.level c.args.size (c.in_err-owners.ensures.too_large (cc (large, q.1, q.2)))

pub fits_by-requires : goal.fits_by-requires
fits_by-requires g c = subst (λ (w : Levels). IsHoldersBound w.vars c.in_ok-owners.owners.most_holders) (sym c.in_ok-common.ensures) c.in_ok-owners.ensures.most

pub returns-then-not-branch-clause-too_large : goal.returns-then-not-branch-clause-too_large
returns-then-not-branch-clause-too_large g c = λ large.
    let geometry = g.G.Grid.geometry in
    let u = c.in_ok-universe.universe in
    let e = c.in_ok-universe.ensures in
    let owned = c.in_ok-owners.owners.cells.items in
    let fits = subst (λ (w : Levels). IsTrue c.in_ok-fits_by.field-0 ↔ (formula_size (common_of geometry (cells_around geometry) w) ≤ c.in_ok-owners.left)) c.in_ok-common.ensures (c.in_ok-fits_by.ensures (cells_around geometry) (around_given geometry g.met.G.Grid.laws)) in
    let left = c.in_ok-owners.ensures.left in
    let more : c.in_ok-owners.left < formula_size (common_of geometry (cells_around geometry) u) = elim (cases_lt c.in_ok-owners.left (formula_size (common_of geometry (cells_around geometry) u))) [
      | inl l ↦ l
      | inr few ↦ absurd (true≢false (sym (fits.1 few) ∙ c.if-not-branch.true))
    ] in
    larger geometry g.met.G.Grid.laws u c.args.shape.now c.args.level e.universe e.shape e.level c.args.size owned c.in_ok-owners.ensures.owners.cells (omega arith)

pub invariant_of-result : goal.invariant_of-result
invariant_of-result g c =
    let geometry = g.G.Grid.geometry in
    let w = c.in_ok-common.common in
    let cells = c.in_ok-owners.owners.cells.items in
    let first = c.count.ensures (cells_around geometry) (around_given geometry g.met.G.Grid.laws) in
    let second = c.count-owned.ensures ∙ ap (λ (v : Levels). length (owners_of v.vars cells)) c.universe-2.ensures.universe in
    let both = formula_length geometry w cells in
    let sum = c.saturating_add.ensures in
    let test = c.if-saturating_add-gt-CLAUSES_MAX.false in
    record { owners = owners_at c.in_ok-universe.universe w c.in_ok-owners.owners c.in_ok-common.ensures c.in_ok-owners.ensures.owners; few = omega arith }

pub returns-clause-formula : goal.returns-clause-formula
returns-clause-formula g c =
    let w = c.in_ok-common.common in
    let e = c.in_ok-universe.ensures in
    let is = c.in_ok-common.ensures in
    let made = owners_at c.in_ok-universe.universe w c.in_ok-owners.owners is c.in_ok-owners.ensures.owners in
    counted g.G.Grid.geometry g.met.G.Grid.laws w c.args.shape.now c.args.level
    (subst (IsUniverseOf g.G.Grid.geometry) (sym is) e.universe) (ap (λ (l : Levels). l.shape) is ∙ e.shape) (ap (λ (l : Levels). l.level) is ∙ e.level)
    c.in_ok-owners.owners.cells.items made.cells

pub returns-clause-fits : goal.returns-clause-fits
returns-clause-fits g c =
    let geometry = g.G.Grid.geometry in
    let w = c.in_ok-common.common in
    let cells = c.in_ok-owners.owners.cells.items in
    let e = c.in_ok-universe.ensures in
    let is = c.in_ok-common.ensures in
    let size = size_is geometry g.met.G.Grid.laws w c.args.shape.now c.args.level (subst (IsUniverseOf geometry) (sym is) e.universe) (ap (λ (l : Levels). l.shape) is ∙ e.shape) (ap (λ (l : Levels). l.level) is ∙ e.level) cells in
    let few = (c.in_ok-fits_by.ensures (cells_around geometry) (around_given geometry g.met.G.Grid.laws)).0 c.if-not-branch.false in
    let left = c.in_ok-owners.ensures.left in
    let same = ap (λ (l : Levels). formula_size (owners_of l.vars cells)) is in
    omega arith
