use Rattle.heesch_shape.proofs.Best.{image_small}
use Rattle.std.proofs.Common.{pos}
use Rattle.heesch_grid.specs.Geometry.{apply, image}
use Rattle.heesch_grid.specs.Vectors.{IsWithin}
use Rattle.heesch_grid.specs.declared.isometries.Iso.{Iso}
use Rattle.heesch_shape.proofs.Sets.{images_hold}
use Rattle.heesch_shape.proofs.Normal.{turned_image}
use Rattle.heesch_shape.proofs.Words.{same_of_list, order_of, origin_of}
use Rattle.heesch_shape.proofs.shapes.Shape.turned.Goals as goal

pub image-requires-clause-within : goal.image-requires-clause-within
image-requires-clause-within g c =
    let met = g.met.G.Grid in
    let geometry = g.G.Grid.geometry in
    let still : Iso = record { turn = c.args.k; da = pos 0; db = pos 0 } in
    images_hold (IsWithin 1000000) (apply geometry still) c.args.self.now (λ d h. image_small geometry met.laws c.args.k d c.requires.turn (c.requires.within d h))

pub returns-clause-turned : goal.returns-clause-turned
returns-clause-turned g c =
    let met = g.met.G.Grid in
    let end = c.normalised.ensures in
    turned_image g.G.Grid.geometry met.laws c.args.k c.args.self.now c.image.result c.normalised.result c.requires.turn (same_of_list (image g.G.Grid.geometry (record { turn = c.args.k; da = pos 0; db = pos 0 }) c.args.self.now) c.image.result c.image.ensures.list) end.moved (order_of g.G.Grid.geometry c.normalised.result end.shape) (origin_of g.G.Grid.geometry met.laws c.normalised.result end.normal)
