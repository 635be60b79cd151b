use Rattle.std.proofs.Common.{refl, sym, subst, inl}
use Rattle.heesch_given.specs.Given.{IsNoShape}
use Rattle.heesch_given.proofs.Reading.{shape_line, no_shape}
use Rattle.heesch_line.specs.Scanning.{IsLineOf}
use Rattle.heesch_exchange.proofs.ShapeLines.{near}
use Rattle.heesch_exchange.proofs.shapes.shape_of.Goals as goal

pub canonical_of-requires : goal.canonical_of-requires
canonical_of-requires g c = near c.args.line.now c.in_ok-cells.cells c.as_slice.result.now c.in_ok-cells.ensures.ok c.as_slice.ensures

pub returns-in-Ok-clause-ok : goal.returns-in-Ok-clause-ok
returns-in-Ok-clause-ok g c =
    let line : IsLineOf c.args.line.now c.as_slice.result.now = subst (IsLineOf c.args.line.now) (sym c.as_slice.ensures) c.in_ok-cells.ensures.ok in
    shape_line g.G.Grid.geometry c.args.line.now c.as_slice.result.now c.in-Ok.shape line c.in-Ok.ensures.ok c.in-Ok.ensures.faultless

pub returns-clause-stop : goal.returns-clause-stop
returns-clause-stop g c =
    let line : IsLineOf c.args.line.now c.as_slice.result.now = subst (IsLineOf c.args.line.now) (sym c.as_slice.ensures) c.in_ok-cells.ensures.ok in
    let none : IsNoShape g.G.Grid.geometry c.args.line.now c.number.result =
    subst (IsNoShape g.G.Grid.geometry c.args.line.now) (sym c.number.ensures) (no_shape g.G.Grid.geometry c.args.line.now c.as_slice.result.now c.in-Err.fault line c.in-Err.ensures.fault) in
    (refl, inl none)
