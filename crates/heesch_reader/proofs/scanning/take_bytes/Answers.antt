use Rattle.std.proofs.Common.{refl}
use Rattle.std.proofs.lemmas.Result.{err_from_is_err_and}
use Rattle.heesch_reader.proofs.Bytes.{sets_out, goes_on, stops_at, stops_behind, filled_is, settled, room_on}
use Rattle.heesch_reader.proofs.scanning.take_bytes.Goals as goal

pub loop-line-init : goal.loop-line-init
loop-line-init c = sets_out c.args.scan.now c.args.items.now c.args.piece.now c.requires.is

pub take_line-requires-clause-room : goal.take_line-requires-clause-room
take_line-requires-clause-room c = room_on c.args.scan.now c.loop-line.scan c.args.items.now c.loop-line.items c.args.piece.now c.loop-line.rest.now c.in-Some.line.now c.in-Some.behind.now c.in-Some.ensures.0 c.loop-line.invariant c.requires.room

pub loop-line-preserved : goal.loop-line-preserved
loop-line-preserved c =
    goes_on c.args.scan.now c.loop-line.scan c.take_line.new.scan c.args.items.now c.loop-line.items c.take_line.new.items c.args.piece.now c.loop-line.rest.now c.in-Some.line.now c.in-Some.behind.now _ c.in-Some.ensures.0 c.in-Some.ensures.1 c.loop-line.invariant c.in_ok-take_line.ensures

pub returns-in_err-take_line : goal.returns-in_err-take_line
returns-in_err-take_line c =
    let p = err_from_is_err_and c.from_residual.result c.from_residual.ensures.1 in
    rw (p.1, p.2) (stops_at c.args.scan.now c.loop-line.scan c.take_line.new.scan c.take_line.new.scan c.args.items.now c.loop-line.items c.take_line.new.items c.args.piece.now c.loop-line.rest.now c.in-Some.line.now c.in-Some.behind.now c.in_err-take_line.field-0.0 c.in-Some.ensures.0 c.in-Some.ensures.1 c.loop-line.invariant c.in_err-take_line.ensures)

pub returns-in_err-add_to_line : goal.returns-in_err-add_to_line
returns-in_err-add_to_line c =
    let p = err_from_is_err_and c.from_residual-in_err-add_to_line.result c.from_residual-in_err-add_to_line.ensures.1 in
    rw (p.1, p.2) (stops_behind c.args.scan.now c.loop-line.scan c.args.items.now c.loop-line.items c.loop-line.items c.args.piece.now c.loop-line.rest.now c.loop-line.invariant refl)

pub settle-requires : goal.settle-requires
settle-requires c = record { is = (filled_is c.args.scan.now c.loop-line.scan c.add_to_line.new.scan c.args.items.now c.loop-line.items c.args.piece.now c.loop-line.rest.now c.in_default.ensures c.loop-line.invariant c.in_ok-add_to_line.ensures).is }

pub returns-in_err-settle : goal.returns-in_err-settle
returns-in_err-settle c =
    let p = err_from_is_err_and c.from_residual-in_err-settle.result c.from_residual-in_err-settle.ensures.1 in
    rw (p.1, p.2) (stops_behind c.args.scan.now c.loop-line.scan c.args.items.now c.loop-line.items c.settle.new.items c.args.piece.now c.loop-line.rest.now c.loop-line.invariant c.in_err-settle.ensures.err)

pub returns : goal.returns
returns c = settled c.args.scan.now c.loop-line.scan c.add_to_line.new.scan c.args.items.now c.loop-line.items c.args.piece.now c.loop-line.rest.now c.in_default.ensures c.loop-line.invariant c.in_ok-add_to_line.ensures c.settle.new.scan c.settle.new.items c.in_ok-settle.ensures.ok
