use Rattle.std.proofs.Common.{◌≡◌, ◌≤◌, true, List, length, inl, inr, sym, subst, arith}
use Rattle.heesch_grid.specs.declared.Cell.{Cell}
use Rattle.heesch_grid.specs.declared.isometries.Iso.{Iso}
use Rattle.heesch_grid.specs.Cells.{has}
use Rattle.heesch_grid.specs.Tiling.{IsPeriodicCover}
use Rattle.heesch_tiling.proofs.Steps.{cells_near}
use Rattle.heesch_torus.specs.Formula.{reduced_cells}
use Rattle.heesch_torus.specs.Covers.{AreFewNodes, IsTorusFilling}
use Rattle.heesch_torus.specs.Masks.{ArePoints}
use Rattle.heesch_torus.proofs.Formulas.{domain_small}
use Rattle.heesch_torus.proofs.Numbering.{reduced_listed}
use Rattle.heesch_torus.proofs.Filled.{some_points}
use Rattle.heesch_torus.proofs.cover.find_cover.Goals as goal

pub points_of-requires : goal.points_of-requires
points_of-requires g c = domain_small g.G.Grid.geometry g.met.G.Grid.laws (length c.args.shape.now) c.args.triple c.cells-cells.ensures.shape.few c.requires.domain

pub invariant_of-torus-clause-maskable : goal.invariant_of-torus-clause-maskable
invariant_of-torus-clause-maskable g c =
    let geometry = g.G.Grid.geometry in
    let points = c.in_ok-points.ensures in
    record {
      triple = c.requires.domain.of_domain.is_triple;
      points = subst (λ ns. ArePoints geometry c.args.triple ns (length (reduced_cells geometry c.args.triple))) (sym c.deref.ensures.value) (subst (ArePoints geometry c.args.triple c.in_ok-points.points.numbers.items) points.count_is points);
      few = omega (arith, points.count_is, c.if-points-gt64.false);
      cells = λ d h. cells_near geometry c.args.shape.now c.cells-cells.ensures.shape.polyform c.requires.near d (subst (λ xs. has xs d ≡ true) c.cells-cells.ensures.cells h);
      size = subst (λ (xs : List Cell). length xs ≤ 32) (sym c.cells-cells.ensures.cells) c.cells-cells.ensures.shape.few;
    }

pub invariant_of-torus-clause-small : goal.invariant_of-torus-clause-small
invariant_of-torus-clause-small g c = domain_small g.G.Grid.geometry g.met.G.Grid.laws (length c.args.shape.now) c.args.triple c.cells-cells.ensures.shape.few c.requires.domain

pub returns-then-points-gt64 : goal.returns-then-points-gt64
returns-then-points-gt64 g c = inl (record { cells = reduced_cells g.G.Grid.geometry c.args.triple; reduced = reduced_listed g.G.Grid.geometry c.args.triple g.met.G.Grid.laws c.requires.domain.of_domain.is_triple; many = omega (arith, c.in_ok-points.ensures.count_is, c.if-points-gt64.true) })

pub all_points-full-requires-clause-some : goal.all_points-full-requires-clause-some
all_points-full-requires-clause-some g c =
    let some = some_points g.G.Grid.geometry g.met.G.Grid.laws c.args.triple c.requires.domain.of_domain.is_triple in
    omega (arith, c.in_ok-points.ensures.count_is, some)

pub returns-in-None : goal.returns-in-None
returns-in-None g c =
    let none : (places : List Iso) → ¬ IsPeriodicCover g.G.Grid.geometry c.cells-cells.result.now c.args.triple places = subst (IsTorusFilling g.G.Grid.geometry c.cells-cells.result.now c.args.triple c.all_points-full.result c.args.nodes) c.in-None.is c.in_ok-filling.ensures in
    subst (λ (s : List Cell). (places : List Iso) → ¬ IsPeriodicCover g.G.Grid.geometry s c.args.triple places) c.cells-cells.ensures.cells none

pub returns : goal.returns
returns g c =
    let few : AreFewNodes g.G.Grid.geometry c.cells-cells.result.now c.args.triple c.args.nodes = subst (IsTorusFilling g.G.Grid.geometry c.cells-cells.result.now c.args.triple c.all_points-full.result c.args.nodes) c.in-Open.is c.in_ok-filling.ensures in
    inr (subst (λ (s : List Cell). AreFewNodes g.G.Grid.geometry s c.args.triple c.args.nodes) c.cells-cells.ensures.cells few)
