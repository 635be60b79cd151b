use Rattle.std.proofs.Common.{sym}
use Rattle.heesch_exchange.proofs.Literals.{not_begun, not_utf8, parsed}
use Rattle.heesch_exchange.proofs.lines.read_variable.Goals as goal

pub returns-then-not-begins_number : goal.returns-then-not-begins_number
returns-then-not-begins_number c = not_begun c.args.digits.now (sym c.if-not-begins_number.ensures)

pub returns-in-Ok : goal.returns-in-Ok
returns-in-Ok c =
    let told = rw c.in-Ok.ensures.cases.0 at c.parse.ensures.value.0 in
    rw c.ok.ensures.value (parsed c.args.digits.now c.parse.result (sym c.if-not-begins_number.ensures) told)

pub returns-in-Err : goal.returns-in-Err
returns-in-Err c = not_utf8 c.args.digits.now c.in-Err.ensures.cases.0
