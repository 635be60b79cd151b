use Rattle.std.proofs.Common.{◌+◌, ◌*◌, ◌<◌, ap, arith}
use Rattle.heesch_index.specs.Boxes.{area}
use Rattle.heesch_index.proofs.BoxFacts.{place_below}
use Rattle.heesch_index.proofs.cell_box.CellBox.place.Goals as goal

below : (c : goal.After-column) → c.row.result * c.args.self.wide + c.column.result < area c.args.self
below c =
    let l = place_below c.args.self c.args.cell c.requires in
    let r = ap (λ n. n * c.args.self.wide) c.row.ensures in
    omega (arith, l, r, c.column.ensures)

pub returns-clause-below : goal.returns-clause-below
returns-clause-below c = below c

pub overflow_add-result : goal.overflow_add-result
overflow_add-result c = let l = below c in let f = c.args.self.few in omega (arith, l, f)
