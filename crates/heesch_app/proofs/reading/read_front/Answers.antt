use Rattle.std.proofs.Common.{◌≡◌, ◌<◌, ◌+◌, ◌-◌, min, length, rules, arith}
use Rattle.heesch_app.proofs.Fronts.{ended_front, full_front}
use Rattle.heesch_app.proofs.reading.read_front.Goals as goal

pub returns-then-count-eq0-clause-ok : goal.returns-then-count-eq0-clause-ok
returns-then-count-eq0-clause-ok g c =
    let kept = c.loop-piece.invariant in
    let room : c.min-room.result ≡ min (1099511627776 + 1 - c.len-in-loop-piece.result) 4096 = c.min-room.ensures in
    let long : length c.read.new.into ≡ c.min-room.result = search rules in
    let some : 0 < length c.read.new.into = omega (arith, c.loop-piece-test.true, c.len.ensures, c.len-in-loop-piece.ensures, room, long) in
    ended_front (g.R.Source.left c.args.source.now) (g.R.Source.left c.loop-piece.source) (g.R.Source.left c.read.new.self) c.loop-piece.bytes.items c.read.new.into c.in-Ok.count
    kept.0 c.in-Ok.ensures.bytes.0 c.if-count-eq0.true (c.in-Ok.ensures.bytes.1 c.if-count-eq0.true some) kept.1

pub returns-clause-ok : goal.returns-clause-ok
returns-clause-ok g c =
    let kept = c.loop-piece.invariant in
    full_front (g.R.Source.left c.args.source.now) (g.R.Source.left c.loop-piece.source) c.loop-piece.bytes.items kept.0 (omega (arith, kept.1, c.len.ensures, c.loop-piece-test.false))
