use Rattle.std.proofs.Common.{◌≡◌, ◌<◌, ◌≤◌, ◌*◌, suc, length, take, ap, subst, arith}
use Rattle.std.proofs.lemmas.List.{length-take-le}
use Rattle.std.proofs.Math.Nat.{mul-le-mul_left}
use Rattle.heesch_grid.specs.Tiling.{no_move}
use Rattle.heesch_tiling.specs.Counting.{residues, in_window}
use Rattle.heesch_tiling.proofs.Steps.{residues_length}
use Rattle.heesch_tiling.proofs.Tallies.{times_few, counts_next}
use Rattle.heesch_tiling.proofs.counts.count_tiles.Goals as goal

pub count_tile-requires-clause-room : goal.count_tile-requires-clause-room
count_tile-requires-clause-room g c =
    let geometry = g.G.Grid.geometry in
    let t = c.args.triple in
    let i = c.loop-by.by-index in
    let n = length c.args.cells.now in
    let so_far = residues_length geometry c.args.cells.now t (take i c.args.places.now) in
    let places : length (take i c.args.places.now) ≡ i = length-take-le i c.args.places.now (omega (arith, c.loop-by-test.true)) in
    let product = ap (λ k. n * k) places in
    let all : n * suc i ≤ n * length c.args.places.now = mul-le-mul_left n c.loop-by-test.true in
    λ k less.
    let count = c.loop-by.invariant.each k (subst (λ m. k < m) c.loop-by.invariant.all less) in
    let few = times_few (residues geometry c.args.cells.now t (take i c.args.places.now)) (in_window geometry t k) in
    omega (arith, count, few, so_far, product, all, c.requires.few)

pub loop-by-preserved : goal.loop-by-preserved
loop-by-preserved g c =
    counts_next g.G.Grid.geometry c.args.triple c.args.cells.now c.args.places.now c.loop-by.by-index no_move c.loop-by-test.true c.loop-by.counts c.count_tile.new.counts c.loop-by.invariant c.count_tile.ensures
