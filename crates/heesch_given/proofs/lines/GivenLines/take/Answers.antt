use Rattle.std.proofs.Common.{◌++◌, take, subst, rules}
use Rattle.std.proofs.lemmas.List.{take_all}
use Rattle.heesch_given.specs.Steps.{IsRead, IsFrontStop}
use Rattle.heesch_given.proofs.Reading.{byte_more, byte_stops}
use Rattle.heesch_given.proofs.lines.GivenLines.take.Goals as goal

pub returns-in_err-take_byte-clause-stop : goal.returns-in_err-take_byte-clause-stop
returns-in_err-take_byte-clause-stop g c = λ before read.
    let bytes = c.args.bytes.now in
    let i = c.loop-byte.byte-index in
    let told : IsFrontStop g.G.Grid.geometry (before ++ bytes) c.in_err-take_byte.field-0.0 =
    byte_stops g.G.Grid.geometry before bytes i 0 c.in_err-take_byte.field-0.0 c.loop-byte-test.true (c.in_err-take_byte.ensures.stop (before ++ take i bytes) (c.loop-byte.invariant before read)) in
    search rules

pub loop-byte-preserved : goal.loop-byte-preserved
loop-byte-preserved g c = λ before read.
    let bytes = c.args.bytes.now in
    let i = c.loop-byte.byte-index in
    subst (λ t. IsRead g.G.Grid.geometry t c.take_byte.new.self.shapes.items c.take_byte.new.self.line) (byte_more before bytes i 0 c.loop-byte-test.true)
    (c.in_ok-take_byte.ensures.ok (before ++ take i bytes) (c.loop-byte.invariant before read))

pub take_byte-requires : goal.take_byte-requires
take_byte-requires g c = (c.requires.0 ++ take c.loop-byte.byte-index c.args.bytes.now, c.loop-byte.invariant c.requires.0 c.requires.1)

pub returns-clause-ok : goal.returns-clause-ok
returns-clause-ok g c = λ before read.
    subst (λ t. IsRead g.G.Grid.geometry (before ++ t) c.loop-byte.self.shapes.items c.loop-byte.self.line) (take_all c.loop-byte.byte-index c.args.bytes.now c.loop-byte-test.false) (c.loop-byte.invariant before read)
