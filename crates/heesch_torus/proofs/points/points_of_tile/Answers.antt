use Rattle.std.proofs.Common.{◌≡◌, ◌∙◌, ◌<◌, length, map, take, get_or, lit<, arith}
use Rattle.std.specs.Prelude.{pos}
use Rattle.std.proofs.lemmas.List.{length-map, length-take-le}
use Rattle.heesch_grid.specs.Cells.{cell}
use Rattle.heesch_grid.specs.Geometry.{apply}
use Rattle.heesch_shape.proofs.Loops.{has_at}
use Rattle.heesch_tiling.specs.Counting.{residue, tile_residues}
use Rattle.heesch_torus.specs.Formula.{reduced_cells}
use Rattle.heesch_torus.proofs.Stepping.{numbers_long}
use Rattle.heesch_torus.proofs.points.points_of_tile.Goals as goal

pub point_of-requires : goal.point_of-requires
point_of-requires g c = c.args.torus.now.maskable.cells (get_or c.args.torus.now.cells.now c.loop-c.c-index (cell (pos 0) (pos 0))) (has_at c.args.torus.now.cells.now c.loop-c.c-index (cell (pos 0) (pos 0)) c.loop-c-test.true)

pub push-requires : goal.push-requires
push-requires g c =
    let begun = take c.loop-c.c-index c.args.torus.now.cells.now in
    let long : length c.loop-c.points.items ≡ length (take c.loop-c.c-index c.args.torus.now.cells.now) =
    numbers_long (reduced_cells g.G.Grid.geometry c.args.torus.now.triple) c.loop-c.points.items (tile_residues g.G.Grid.geometry begun c.args.torus.now.triple c.args.by.now.iso) c.loop-c.invariant
    ∙ length-map (map (apply g.G.Grid.geometry c.args.by.now.iso) begun) (residue g.G.Grid.geometry c.args.torus.now.triple)
    ∙ length-map begun (apply g.G.Grid.geometry c.args.by.now.iso) in
    let less : c.loop-c.c-index < length c.args.torus.now.cells.now = c.loop-c-test.true in
    let some : length (take c.loop-c.c-index c.args.torus.now.cells.now) ≡ c.loop-c.c-index = length-take-le c.loop-c.c-index c.args.torus.now.cells.now (omega (arith, less)) in
    let size = c.args.torus.now.maskable.size in
    (lit< tt, omega (arith, long, some, less, size))
