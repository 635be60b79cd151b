use Rattle.std.proofs.Common.{◌≡◌, ◌≢◌, [], arith}
use Rattle.heesch_line.proofs.ListLaws.{some_bytes, goes_on, faults, too_many}
use Rattle.heesch_line.proofs.list.read_lines.Goals as goal

pub returns-in-Err-NotALine : goal.returns-in-Err-NotALine
returns-in-Err-NotALine c =
    let nothing = rw c.in-Err-NotALine.field-0-is at c.in-Err-NotALine.ensures in
    let more : c.loop-before.rest.now ≢ [] = some_bytes c.loop-before.rest.now c.if-is_empty.ensures in
    faults c.args.text.now c.loop-before.shapes c.loop-before.before c.loop-before.rest.now c.loop-before.invariant more c.loop-before-test.true nothing

pub loop-before-preserved : goal.loop-before-preserved
loop-before-preserved c =
    rw c.in_ok-push-in-Ok.ensures.ok (goes_on c.args.text.now c.loop-before.shapes c.loop-before.before c.loop-before.rest.now c.in-Ok.cells c.in-Ok.after.now c.loop-before.invariant c.in-Ok.ensures)

pub returns : goal.returns
returns c =
    let more : c.loop-before.rest.now ≢ [] = some_bytes c.loop-before.rest.now c.if-is_empty-2.ensures in
    let full : c.loop-before.before ≡ 10000 = omega arith in
    too_many c.args.text.now c.loop-before.shapes c.loop-before.before c.loop-before.rest.now c.loop-before.invariant more full
