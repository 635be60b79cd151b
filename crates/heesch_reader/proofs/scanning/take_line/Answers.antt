use Rattle.heesch_reader.proofs.Bytes.{line_ended, room_filled}
use Rattle.heesch_reader.proofs.Following.{pushed_is}
use Rattle.heesch_reader.proofs.Settling.{settles, settled_once, settled_room}
use Rattle.heesch_reader.proofs.scanning.take_line.Goals as goal

pub settle-requires : goal.settle-requires
settle-requires c = record { is = pushed_is c.args.scan.now c.add_to_line.new.scan c.args.bytes.now c.requires.one_line c.in_ok-add_to_line.ensures c.requires.is }

pub end_line-requires-clause-is : goal.end_line-requires-clause-is
end_line-requires-clause-is c = (settles c.add_to_line.new.scan c.settle.new.scan c.args.items.now c.settle.new.items (pushed_is c.args.scan.now c.add_to_line.new.scan c.args.bytes.now c.requires.one_line c.in_ok-add_to_line.ensures c.requires.is) c.in_ok-settle.ensures.ok).moves.is

pub end_line-requires-clause-settled : goal.end_line-requires-clause-settled
end_line-requires-clause-settled c = settled_once c.add_to_line.new.scan c.settle.new.scan c.args.items.now c.settle.new.items c.in_ok-settle.ensures.ok

pub end_line-requires-clause-room : goal.end_line-requires-clause-room
end_line-requires-clause-room c =
    settled_room c.add_to_line.new.scan c.settle.new.scan c.args.items.now c.settle.new.items (settles c.add_to_line.new.scan c.settle.new.scan c.args.items.now c.settle.new.items (pushed_is c.args.scan.now c.add_to_line.new.scan c.args.bytes.now c.requires.one_line c.in_ok-add_to_line.ensures c.requires.is) c.in_ok-settle.ensures.ok)
    (room_filled c.args.scan.now c.add_to_line.new.scan c.args.bytes.now c.in_ok-add_to_line.ensures c.requires.room)

pub returns : goal.returns
returns c =
    line_ended c.args.scan.now c.add_to_line.new.scan c.settle.new.scan c.end_line.new.scan c.args.items.now c.settle.new.items c.end_line.new.items c.args.bytes.now c.end_line.result c.in_ok-add_to_line.ensures c.in_ok-settle.ensures.ok c.end_line.ensures
