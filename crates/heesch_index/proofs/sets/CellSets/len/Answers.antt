use Rattle.std.proofs.Common.{length, ap, arith}
use Rattle.heesch_io.proofs.Pieces.{length-pieces}
use Rattle.heesch_index.proofs.sets.CellSets.len.Goals as goal

pub returns : goal.returns
returns c =
    let count = length-pieces c.self.inside.cells.items 0 c.self.inside.ends.items in
    let view = ap length c.self.view_is in
    omega (arith, count, view, c.len.ensures, c.self.inside.ends.ok)
