use Rattle.std.proofs.Common.{◌≡◌, ◌+◌, sym, ap, subst, ◌∙◌, All, arith}
use Rattle.std.specs.Prelude.{length, ◌<◌}
use Rattle.std.proofs.lemmas.Option.{MatchOption-at_none}
use Rattle.std.proofs.lemmas.List.Elements.{All-contains, All-same}
use Rattle.heesch_grid.specs.Pairs.{has-true}
use Rattle.heesch_grid.specs.Cells.{has}
use Rattle.heesch_grid.specs.Hole.{IsHoleFree, IsGreatestHole}
use Rattle.heesch_grid.specs.Vectors.{IsWithin}
use Rattle.heesch_shape.specs.Walks.{IsShape}
use Rattle.heesch_cuts.specs.Patches.{patch_cells}
use Rattle.heesch_cuts.proofs.Nearby.{patch_together}
use Rattle.heesch_cuts.proofs.PatchCells.{shape_within, patch_more}
use Rattle.heesch_cuts.proofs.CuttingOff.{open_where_free, free_more}
use Rattle.heesch_cuts.proofs.cutting.cut_for.Given as given
use Rattle.heesch_cuts.proofs.cutting.cut_for.Goals as goal
use Rattle.heesch_cuts.proofs.cutting.cut_for.Goals.{In_ok-add_layer}

pub loop-k-init : goal.loop-k-init
loop-k-init g c =
    let shape = c.cells.result.now in
    let items = c.in_ok-cells.ensures.items in (
      items ∙ c.cells.ensures.cells ∙ sym c.requires.shape,
      All-same (IsWithin 1000000) c.in_ok-cells.cells.items shape items (shape_within g.G.Grid.geometry shape (subst (IsShape g.G.Grid.geometry) (sym c.cells.ensures.cells) c.cells.ensures.shape)),
      (λ i some none. absurd (omega (arith, some, none))),
    )

-- the cells with a layer more are the patch of the next level
grown : (g : given.Over) (c : In_ok-add_layer g) → c.add_layer.new.cells.items ≡ patch_cells c.args.universe.now c.args.model.now (c.loop-k.k + 1)
grown g c = patch_more c.args.universe.now c.args.model.now c.loop-k.k c.loop-k.cells.items c.add_layer.new.cells.items c.loop-k.invariant.0 c.in_ok-add_layer.ensures.cells

pub from_cells-requires-clause-near : goal.from_cells-requires-clause-near
from_cells-requires-clause-near g c =
    let all : All (IsWithin 1000000) c.deref.result.now = subst (All (IsWithin 1000000)) (sym c.deref.ensures.value) (c.in_ok-add_layer.ensures.within c.loop-k.invariant.1) in
    λ d h. All-contains (IsWithin 1000000) c.deref.result.now d all (has-true c.deref.result.now d h)

pub from_cells-requires-clause-together : goal.from_cells-requires-clause-together
from_cells-requires-clause-together g c =
    let geometry = g.G.Grid.geometry in
    let u = c.args.universe.now in
    let is = c.deref.ensures.value ∙ grown g (goal.at.from_cells-requires-clause-together g c).In_ok-add_layer in
    let shape : IsShape geometry u.shape = subst (IsShape geometry) (sym c.requires.shape) c.cells.ensures.shape in
    λ x y m n. patch_together geometry g.met.G.Grid.laws u c.args.model.now (c.loop-k.k + 1) c.requires.universe shape.polyform shape.few (let r = c.level-k-end.ensures.range.1 in let e = c.level-k-end.ensures.level in omega (arith, r, e, c.loop-k-test.true)) x y (ap (λ p. has p x) (sym is) ∙ m) (ap (λ p. has p y) (sym is) ∙ n)

pub cut_around-requires-clause-patch : goal.cut_around-requires-clause-patch
cut_around-requires-clause-patch g c = record {
  shape_is = c.requires.shape;
  valued = c.requires.values;
  cells_are = c.in_ok-region.ensures ∙ c.deref.ensures.value ∙ grown g (goal.at.cut_around-requires-clause-patch g c).In_ok-add_layer;
}

pub cut_around-requires-clause-near : goal.cut_around-requires-clause-near
cut_around-requires-clause-near g c =
    subst (All (IsWithin 1000000)) (sym (c.in_ok-region.ensures ∙ c.deref.ensures.value)) (c.in_ok-add_layer.ensures.within c.loop-k.invariant.1)

pub loop-k-preserved : goal.loop-k-preserved
loop-k-preserved g c =
    let geometry = g.G.Grid.geometry in
    let is = grown g (goal.at.loop-k-preserved g c).In_ok-add_layer in
    let region = c.in_ok-region.region in
    let free : IsHoleFree geometry region = MatchOption-at_none (IsHoleFree geometry region) (λ hole. (0 < length hole) × IsGreatestHole geometry region hole) c.in_default.is c.in_ok-hole.ensures in (
      is,
      c.in_ok-add_layer.ensures.within c.loop-k.invariant.1,
      free_more geometry c.args.universe.now c.args.model.now c.loop-k.k c.loop-k.invariant.2 (subst (IsHoleFree geometry) (c.in_ok-region.ensures ∙ c.deref.ensures.value ∙ is) free),
    )

pub returns : goal.returns
returns g c =
    open_where_free g.G.Grid.geometry c.args.universe.now c.args.model.now
    (λ i some most. c.loop-k.invariant.2 i some (let e = c.level-k-end.ensures.level in omega (arith, most, e, c.loop-k-test.false)))
