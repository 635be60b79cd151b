use Rattle.std.proofs.Common.{arith}
use Rattle.std.proofs.lemmas.Int.{ints}
use Rattle.heesch_index.proofs.cell_box.CellBox.cell_of.Goals as goal

pub returns-clause-a : goal.returns-clause-a
returns-clause-a c = omega (arith, ints, c.from.ensures, c.requires.column)

pub returns-clause-b : goal.returns-clause-b
returns-clause-b c = omega (arith, ints, c.from-2.ensures, c.requires.row)
