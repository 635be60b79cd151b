use Rattle.std.proofs.Common.{sym}
use Rattle.heesch_reader.proofs.Following.{completes, falls_short}
use Rattle.heesch_reader.proofs.Settling.{settles_at_end}
use Rattle.heesch_reader.proofs.scanning.take_end.Goals as goal

pub returns-then-is_complete : goal.returns-then-is_complete
returns-then-is_complete c = completes c.args.scan.now _ c.args.items.now c.settle.new.items c.requires.is c.in_ok-settle.ensures.ok (sym c.if-is_complete.ensures)

pub returns : goal.returns
returns c = falls_short c.args.scan.now c.settle.new.scan c.args.items.now c.settle.new.items _ _ c.requires.is c.in_ok-settle.ensures.ok (sym c.if-is_complete.ensures) c.line_number-line.ensures (rw c.as_slice.ensures.value at c.part_of-part.ensures)

pub line_number-line-requires : goal.line_number-line-requires
line_number-line-requires c = (settles_at_end c.args.scan.now c.settle.new.scan c.args.items.now c.settle.new.items c.requires.is.is c.in_ok-settle.ensures.ok).moves.is.room
