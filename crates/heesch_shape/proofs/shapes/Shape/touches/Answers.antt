use Rattle.std.proofs.Common.{◌≡◌, false, sym, ap, ◌∙◌}
use Rattle.std.specs.List.{list_any}
use Rattle.heesch_grid.specs.Cells.{has, meet}
use Rattle.heesch_grid.specs.Geometry.{are_touching}
use Rattle.heesch_shape.proofs.Touches.{shape_cells, touch_apart}
use Rattle.heesch_shape.proofs.shapes.Shape.touches.Goals as goal

pub some_touch-requires-clause-cells : goal.some_touch-requires-clause-cells
some_touch-requires-clause-cells g c =
    λ d h. shape_cells g.G.Grid.geometry c.args.self.now c.cells.ensures.shape d (ap (λ xs. has xs d) (sym c.cells.ensures.cells) ∙ h)

pub returns : goal.returns
returns g c =
    let geometry = g.G.Grid.geometry in
    let xs = c.args.self.now in
    let ys = c.args.other.now in
    let apart : meet xs ys ≡ false = sym c.meets.ensures ∙ c.if-meets.false in
    c.some_touch.ensures ∙ ap (λ zs. list_any (λ d. list_any (are_touching geometry d) c.cells-2.result.now) zs) c.cells.ensures.cells ∙ ap (λ zs. list_any (λ d. list_any (are_touching geometry d) zs) xs) c.cells-2.ensures.cells ∙ touch_apart geometry xs ys apart
