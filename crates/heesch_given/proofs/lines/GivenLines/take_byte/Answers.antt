use Rattle.std.proofs.Common.{arith}
use Rattle.heesch_given.proofs.Reading.{full_told, newline_goes_on, newline_told, line_goes_on}
use Rattle.heesch_given.proofs.lines.GivenLines.take_byte.Goals as goal

pub returns-then-len-ge-MOST_SHAPES-clause-stop : goal.returns-then-len-ge-MOST_SHAPES-clause-stop
returns-then-len-ge-MOST_SHAPES-clause-stop g c = λ before read.
    full_told g.G.Grid.geometry before c.args.byte c.args.self.now.shapes.items c.args.self.now.line c.fault.result read (omega (arith, c.len.ensures, c.if-len-ge-MOST_SHAPES.true)) c.fault.ensures

pub returns-then-byte-eq10-clause-ok : goal.returns-then-byte-eq10-clause-ok
returns-then-byte-eq10-clause-ok g c = λ before read.
    newline_goes_on g.G.Grid.geometry before c.args.byte c.args.self.now.shapes.items c.end_line.new.self.shapes.items c.args.self.now.line c.end_line.new.self.line c.end_line.result c.if-byte-eq10.true read
    (omega (arith, c.len.ensures, c.if-len-ge-MOST_SHAPES.false)) (c.end_line.ensures read.begin.line read.scanned)

pub returns-then-byte-eq10-clause-stop : goal.returns-then-byte-eq10-clause-stop
returns-then-byte-eq10-clause-stop g c = λ before read.
    newline_told g.G.Grid.geometry before c.args.byte c.args.self.now.shapes.items c.end_line.new.self.shapes.items c.args.self.now.line c.end_line.new.self.line c.end_line.result c.if-byte-eq10.true read
    (omega (arith, c.len.ensures, c.if-len-ge-MOST_SHAPES.false)) (c.end_line.ensures read.begin.line read.scanned)

pub returns-in-Ok-clause-ok : goal.returns-in-Ok-clause-ok
returns-in-Ok-clause-ok g c = λ before read.
    line_goes_on g.G.Grid.geometry before c.args.self.now.shapes.items c.args.self.now.line c.take.new.self c.args.byte read (omega (arith, c.len.ensures, c.if-len-ge-MOST_SHAPES.false)) c.if-byte-eq10.false
    (c.in-Ok.ensures.taken read.begin.line read.scanned)

pub end_line-requires : goal.end_line-requires
end_line-requires g c = (c.requires.1.begin.line, c.requires.1.scanned)
