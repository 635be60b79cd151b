use Rattle.heesch_index.proofs.BoxFacts.{column_at, row_at, cell_at-inside, cell_at-place}
use Rattle.heesch_index.proofs.cell_box.CellBox.cell_at.Goals as goal

pub cell_of-requires-clause-row : goal.cell_of-requires-clause-row
cell_of-requires-clause-row c = row_at c.args.self c.args.number c.requires

pub cell_of-requires-clause-column : goal.cell_of-requires-clause-column
cell_of-requires-clause-column c = column_at c.args.self c.args.number c.requires

pub returns-clause-inside : goal.returns-clause-inside
returns-clause-inside c = cell_at-inside c.args.self c.args.number c.cell_of.result c.requires c.cell_of.ensures.a c.cell_of.ensures.b

pub returns-clause-place : goal.returns-clause-place
returns-clause-place c = cell_at-place c.args.self c.args.number c.cell_of.result c.requires c.cell_of.ensures.a c.cell_of.ensures.b
