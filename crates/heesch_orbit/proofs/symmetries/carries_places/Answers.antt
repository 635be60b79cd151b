use Rattle.std.proofs.Common.{refl}
use Rattle.heesch_grid.specs.Tiling.{no_move}
use Rattle.heesch_orbit.specs.Symmetries.{HasImage}
use Rattle.heesch_orbit.proofs.Places.{each_more, each_all}
use Rattle.heesch_orbit.proofs.symmetries.carries_places.Goals as goal

pub loop-from-preserved : goal.loop-from-preserved
loop-from-preserved g c =
    each_more (HasImage g.G.Grid.geometry c.args.turned.now c.args.triple c.args.places.now c.args.by) c.args.places.now c.loop-from.from-index no_move c.loop-from-test.true c.loop-from.invariant (c.has_image.ensures.0 c.if-not-has_image.false)

pub returns : goal.returns
returns g c =
    ((λ e. each_all (HasImage g.G.Grid.geometry c.args.turned.now c.args.triple c.args.places.now c.args.by) c.args.places.now c.loop-from.from-index c.loop-from-test.false c.loop-from.invariant), (λ h. refl))
