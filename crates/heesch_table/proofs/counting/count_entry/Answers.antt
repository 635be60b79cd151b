use Rattle.std.proofs.lemmas.List.Elements.{All-from_recursion, All-contains}
use Rattle.heesch_grid.specs.Vectors.{IsWithin}
use Rattle.heesch_grid.specs.Pairs.{has-true}
use Rattle.heesch_table.proofs.EntryCounts.{counts_one}
use Rattle.heesch_table.proofs.counting.count_entry.Goals as goal

pub of-requires : goal.of-requires
of-requires g c = λ x h.
    All-contains (IsWithin 100000) c.args.cells.now x (All-from_recursion (IsWithin 100000) c.args.cells.now c.requires.within) (has-true c.args.cells.now x h)

pub returns : goal.returns
returns g c =
    counts_one g.G.Grid.geometry c.args.tally.now c.add_shape.new.self c.args.cells.now c.in-Ok.shape c.args.verdict.now c.in-Ok.ensures.faultless c.in-Ok.ensures.list c.in_ok-add_shape.ensures.shapes c.in_ok-add_shape.ensures.ok
