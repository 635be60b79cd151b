use Rattle.std.proofs.Common.{pos, ◌-ℤ◌}
use Rattle.heesch_grid.proofs.Images.{read}
use Rattle.heesch_shape.proofs.Normal.{floor_of, floor_near, read_wide, read_unit, read_negation, step_of_floor}
use Rattle.heesch_shape.proofs.shapes.step_of.Goals as goal

pub returns : goal.returns
returns g c =
    let met = g.met.G.Grid in
    let unit = g.G.Grid.geometry.unit in
    let high = met.laws.unit_range.1 in
    let z = c.args.z in
    let f = c.floor_multiple.result in
    let floor = floor_of unit z f (read c.UNIT.result) (read z) (read_unit c.UNIT.result g.G.Sizes.UNIT unit c.UNIT.ensures met.sizes.unit_is high) (read_wide z c.requires.low c.requires.high) c.floor_multiple.ensures.multiple c.floor_multiple.ensures.below c.floor_multiple.ensures.above in
    let near = floor_near unit z f high floor c.requires.low c.requires.high in
    step_of_floor unit z f (read (pos 0 -ℤ read f)) (read_negation f near.0 near.1) floor
