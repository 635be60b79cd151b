use Rattle.std.proofs.Common.{◌≡◌, ◌+◌, ◌-◌, ◌*◌, ◌≤◌, length, ap, subst, sym, ◌∙◌, arith, true≢false}
use Rattle.std.specs.Prelude.{sum, flat_map}
use Rattle.std.specs.List.{enumerate_from}
use Rattle.heesch_grid.specs.Clauses.{formula_size}
use Rattle.heesch_place.specs.Universes.{Levels}
use Rattle.heesch_encode.specs.Families.{support_at}
use Rattle.heesch_numbers.specs.Common.{common_of}
use Rattle.heesch_numbers.specs.OwnerCounts.{IsHoldersBound}
use Rattle.heesch_numbers.proofs.Bounds.{common_fits}
use Rattle.heesch_numbers.proofs.common.CommonClauses.surely_fits.Goals as goal

pub supports_fit-requires-clause-most : goal.supports_fit-requires-clause-most
supports_fit-requires-clause-most g c = subst (λ (w : Levels). IsHoldersBound w.vars c.args.most) (sym c.plan-plan.ensures.universe) c.requires

pub returns-then-size-room : goal.returns-then-size-room
returns-then-size-room g c = λ around gives t. absurd (true≢false (sym t))

pub returns : goal.returns
returns g c = λ around gives t.
    let geometry = g.G.Grid.geometry in
    let tables = c.self.invariant in
    let first = c.self.inside.first.items in
    let counts = c.self.inside.covering in
    let most = c.args.most in
    let size = c.saturating_mul-size.result in
    let is = c.plan-plan.ensures.universe ∙ sym c.self.view_is in
    let bound = subst (λ (w : Levels). IsHoldersBound w.vars most) (sym c.self.view_is) c.requires in
    let count : c.len.result + c.total.result ≡ length first + sum counts = omega (arith, c.len.ensures, c.total.ensures) in
    let product = ap (λ k. k * (most + 1)) count in
    let rest = subst (λ (w : Levels). formula_size (flat_map (support_at geometry w.vars) (enumerate_from 1 w.vars)) ≤ c.args.room - size) is (c.supports_fit.ensures t) in
    subst (λ (w : Levels). formula_size (common_of geometry around w) ≤ c.args.room) c.self.view_is
    (common_fits geometry around c.self.inside.universe most bound first counts (tables.first_is around gives) (tables.counts_are around gives) size c.args.room
    (omega (arith, product, c.saturating_mul-size.ensures, c.if-size-room.false, c.ranges.room.fits)) c.if-size-room.false rest)
