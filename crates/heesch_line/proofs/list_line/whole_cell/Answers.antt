use Rattle.heesch_line.proofs.Scans.{cell_is_whole, cell_goes_on, no_cell}
use Rattle.heesch_line.proofs.list_line.whole_cell.Goals as goal

pub returns-then-is_empty-clause-ok : goal.returns-then-is_empty-clause-ok
returns-then-is_empty-clause-ok c = cell_is_whole c.args.bytes.now c.in-Ok.cell c.in-Ok.rest.now c.in-Ok.ensures.gives c.if-is_empty.ensures

pub returns-else-is_empty-clause-none : goal.returns-else-is_empty-clause-none
returns-else-is_empty-clause-none c = λ _. cell_goes_on c.args.bytes.now c.in-Ok.cell c.in-Ok.rest.now c.in-Ok.ensures.gives c.if-is_empty.ensures

pub returns-in-Err-NotALine-clause-none : goal.returns-in-Err-NotALine-clause-none
returns-in-Err-NotALine-clause-none c =
    let nothing = rw c.in-Err-NotALine.field-0-is at c.in-Err-NotALine.ensures.gives in
    λ _. no_cell c.args.bytes.now nothing
