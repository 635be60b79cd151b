use Rattle.std.proofs.Common.{◌<◌, pos, arith}
use Rattle.heesch_grid.specs.declared.isometries.Iso.{Iso}
use Rattle.heesch_grid.specs.Geometry.{apply}
use Rattle.heesch_grid.specs.Vectors.{IsWithin}
use Rattle.heesch_shape.proofs.Best.{image_small}
use Rattle.heesch_shape.proofs.Sets.{images_hold}
use Rattle.heesch_geometry_tests.proofs.tests.shape.all_turns_give.Goals as goal

pub image-requires-clause-within : goal.image-requires-clause-within
image-requires-clause-within g c =
    let met = g.met.G.Grid in
    let geometry = g.G.Grid.geometry in
    let still : Iso = record { turn = c.loop-k.k; da = pos 0; db = pos 0 } in
    let less : c.loop-k.k < geometry.turns = omega (arith, c.loop-k-test.true, c.TURNS-k-end.ensures, met.sizes.turns_is) in
    images_hold (IsWithin 1000000) (apply geometry still) c.normalised-base.result (λ d h. image_small geometry met.laws c.loop-k.k d less (c.normalised-base.ensures.within d h))
