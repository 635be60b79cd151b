use Rattle.std.proofs.lemmas.Slice.Eq.{slice_eq-Decides}
use Rattle.heesch_grid.specs.Pairs.{same_cell-is, same_cell-true}
use Rattle.heesch_outer.proofs.same.are_same_cells.Goals as goal

pub returns : goal.returns
returns c = slice_eq-Decides (λ x y. (same_cell-true x y, same_cell-is x y)) c.args.cells.now c.args.others.now c.eq.result c.eq.ensures
