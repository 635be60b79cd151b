use Rattle.std.proofs.Common.{sym, ◌∙◌}
use Rattle.heesch_reader.proofs.Ending.{ends, may_not, faulty}
use Rattle.heesch_reader.proofs.scanning.end_line.Goals as goal

pub returns-in-Ok-advance : goal.returns-in-Ok-advance
returns-in-Ok-advance c =
    ends c.args.scan.now c.advance.new.scan c.args.items.now c.advance.new.items c.in-Ok.line c.in-Some.reached c.requires.is c.requires.settled c.in-Ok.ensures.ok.0
    (c.in-Ok.ensures.ok.1 ∙ c.as_slice.ensures.value) c.requires.room (sym c.in-Some.ensures) c.in-Ok-advance.ensures.ok

pub returns-in_default : goal.returns-in_default
returns-in_default c =
    faulty c.args.scan.now c.fault_of-in_default.new.scan c.args.items.now c.fault_of-in_default.result c.fault_of-in_default.ensures
    (may_not c.args.scan.now.progress c.in-Ok.line c.args.scan.now.line.items c.in-Ok.ensures.ok.0 (c.in-Ok.ensures.ok.1 ∙ c.as_slice.ensures.value) (sym c.in_default.ensures))
