use Rattle.std.proofs.Common.{Contains, arith, refl}
use Rattle.std.proofs.lemmas.List.Elements.{All-contains}
use Rattle.heesch_grid.specs.Pairs.{has-true}
use Rattle.heesch_grid.proofs.CellFacts.{has-is}
use Rattle.heesch_grid.proofs.Images.{wider}
use Rattle.heesch_made.proofs.shapes.shape_of.Goals as goal

pub returns-clause-near : goal.returns-clause-near
returns-clause-near g c cell given =
    let cells = c.args.cells.now in
    let shape = c.in_ok-of.field-0 in
    let member = All-contains (Contains cells) shape cell c.in_ok-of.ensures.list.only (has-true shape cell given) in
    wider 2048 100000 cell (omega arith) (c.if-not-are_near.ensures.within refl cell (has-is cells cell member))
