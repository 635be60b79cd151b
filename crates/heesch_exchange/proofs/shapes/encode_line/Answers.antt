use Rattle.std.proofs.Common.{ap, Err}
use Rattle.heesch_exchange.specs.Shapes.{IsShapeStop}
use Rattle.heesch_exchange.proofs.ShapeLines.{self_canonical}
use Rattle.heesch_exchange.proofs.Told.{as_error, line_stop, too_large, encodes}
use Rattle.heesch_exchange.proofs.shapes.encode_line.Goals as goal

pub encode_flat-requires-clause-canonical : goal.encode_flat-requires-clause-canonical
encode_flat-requires-clause-canonical g c = self_canonical g.G.Grid.geometry g.met.G.Grid.laws c.args.line.now c.in_ok-shape.shape c.in_ok-shape.ensures.ok

pub returns-in_err-shape-clause-stop : goal.returns-in_err-shape-clause-stop
returns-in_err-shape-clause-stop g c =
    let a = c.args.asked in
    let geometry = g.G.Grid.geometry in
    let stop = c.in_err-shape.field-0.0 in
    as_error c.from_residual.result stop (IsShapeStop a.version geometry a.level a.size c.args.line.now) c.from_residual.ensures.1
    (line_stop a.version geometry a.level a.size c.args.line.now stop c.in_err-shape.ensures.stop)

pub returns-in-Ok-clause-ok : goal.returns-in-Ok-clause-ok
returns-in-Ok-clause-ok g c =
    let e = c.in-Ok.ensures in
    let encoded = c.in-Ok.encoded in
    encodes c.args.asked.version g.G.Grid.geometry c.args.asked.level c.args.asked.size c.args.line.now c.in_ok-shape.shape encoded.universe encoded.formula.vars encoded.formula.clauses
    e.shape e.level c.in_ok-shape.ensures.ok e.formula e.fits e.satisfiable e.models

pub returns-in-Err-TooLarge-clause-stop : goal.returns-in-Err-TooLarge-clause-stop
returns-in-Err-TooLarge-clause-stop g c =
    too_large c.args.asked.version g.G.Grid.geometry c.args.asked.level c.args.asked.size c.args.line.now c.in_ok-shape.shape c.in_ok-shape.ensures.ok
    (c.in-Err-TooLarge.ensures.too_large (ap Err c.in-Err-TooLarge.field-0-is))
