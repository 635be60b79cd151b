use Rattle.std.proofs.Common.{◌≡◌, true, map, sym, ap, ◌∙◌}
use Rattle.heesch_grid.specs.declared.Cell.{Cell}
use Rattle.heesch_grid.specs.Cells.{has}
use Rattle.heesch_grid.specs.Geometry.{apply}
use Rattle.heesch_grid.specs.Vectors.{IsWithin}
use Rattle.heesch_shape.proofs.Sets.{image_holds}
use Rattle.heesch_shape.proofs.Normal.{image_cells, image_shape}
use Rattle.heesch_shape.proofs.Words.{list_of_same, order_of}
use Rattle.heesch_grid.specs.Geometry.{image}
use Rattle.heesch_shape.proofs.shapes.Shape.image.Goals as goal

pub carried-requires-clause-images : goal.carried-requires-clause-images
carried-requires-clause-images g c =
    let v = c.self.view_is in
    let xs = c.self.inside.cells.items in
    λ d h. image_holds (IsWithin 1000000) (apply g.G.Grid.geometry c.args.by) c.args.self.now c.requires.within d (sym (ap (λ zs. has zs d) v) ∙ ap (λ zs. has zs d) (sym c.as_slice.ensures.value) ∙ h)

pub in_order-requires : goal.in_order-requires
in_order-requires g c ys p sorted =
    let geometry = g.G.Grid.geometry in
    let xs = c.self.inside.cells.items in
    let items = c.carried.result.items in
    let e : items ≡ map (apply geometry c.args.by) xs = c.carried.ensures ∙ ap (map (apply geometry c.args.by)) c.as_slice.ensures.value in
    let within = λ (d : Cell) (h : has xs d ≡ true). image_holds (IsWithin 1000000) (apply geometry c.args.by) c.args.self.now c.requires.within d (sym (ap (λ zs. has zs d) c.self.view_is) ∙ h) in
    image_shape geometry g.met.G.Grid.laws c.args.by xs items ys c.self.invariant c.requires.turn within e p sorted

pub returns-clause-list : goal.returns-clause-list
returns-clause-list g c =
    let geometry = g.G.Grid.geometry in
    let by = c.args.by in
    let xs = c.args.self.now in
    let e : c.carried.result.items ≡ map (apply geometry by) xs = c.carried.ensures ∙ ap (map (apply geometry by)) (c.as_slice.ensures.value ∙ c.self.view_is) in
    let cells = image_cells geometry g.met.G.Grid.laws by xs c.carried.result.items c.in_order.result e c.in_order.ensures.same in
    list_of_same (image geometry by xs) _ (order_of geometry _ c.in_order.ensures.shape) cells
