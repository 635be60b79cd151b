use Rattle.std.proofs.Common.{arith}
use Rattle.heesch_given.proofs.Reading.{full_beyond, line_beyond}
use Rattle.heesch_given.proofs.lines.GivenLines.beyond.Goals as goal

pub returns-then-len-ge-MOST_SHAPES : goal.returns-then-len-ge-MOST_SHAPES
returns-then-len-ge-MOST_SHAPES g c = λ before read.
    full_beyond g.G.Grid.geometry before c.args.self.now.shapes.items c.args.self.now.line c.fault.result read (omega (arith, c.len.ensures, c.if-len-ge-MOST_SHAPES.true)) c.fault.ensures

pub returns : goal.returns
returns g c = λ before read.
    line_beyond g.G.Grid.geometry before c.args.self.now.shapes.items c.args.self.now.line c.fault-2.result read (omega (arith, c.len.ensures, c.if-len-ge-MOST_SHAPES.false)) c.fault-2.ensures
