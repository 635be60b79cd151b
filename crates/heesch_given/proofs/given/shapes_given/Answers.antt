use Rattle.std.proofs.Common.{◌≡◌, ◌≤◌, ◌<◌, ◌+◌, ◌-◌, min, length, Err, rules, arith}
use Rattle.heesch_line.specs.declared.stops.InputStop.TheVariants.{Failed}
use Rattle.heesch_given.specs.Given.{GivesFault}
use Rattle.heesch_given.proofs.Going.{going_on, piece_stops, piece_not_failed, end_given, end_stopped, end_not_failed, goes_beyond, beyond_not_failed, no_further}
use Rattle.heesch_given.proofs.given.shapes_given.Goals as goal

pub returns-then-read-eq0-clause-ok : goal.returns-then-read-eq0-clause-ok
returns-then-read-eq0-clause-ok g c =
    let room : c.min-room.result ≡ min (g.row.MOST - c.pieces.count) 4096 = c.min-room.ensures in
    let long : length c.read.new.into ≡ c.min-room.result = search rules in
    let some : 0 < length c.read.new.into = omega (arith, c.pieces-test.true, room, long) in
    end_given (λ v. v.items) c.finish.result g.row.MOST g.G.Grid.geometry (g.R.Source.left c.args.source.now) (g.R.Source.left c.pieces.source) (g.R.Source.left c.read.new.self) c.pieces.count c.in_ok-read.read c.read.new.into c.pieces.lines.shapes.items c.pieces.lines.line
    c.pieces.invariant.going c.pieces.invariant.within c.if-read-eq0.true some c.in_ok-read.ensures.bytes.0 c.in_ok-read.ensures.bytes.1 c.finish.ensures.ok

pub returns-then-read-eq0-clause-stop : goal.returns-then-read-eq0-clause-stop
returns-then-read-eq0-clause-stop g c =
    let room : c.min-room.result ≡ min (g.row.MOST - c.pieces.count) 4096 = c.min-room.ensures in
    let long : length c.read.new.into ≡ c.min-room.result = search rules in
    let some : 0 < length c.read.new.into = omega (arith, c.pieces-test.true, room, long) in
    end_stopped c.finish.result g.row.MOST g.G.Grid.geometry (g.R.Source.left c.args.source.now) (g.R.Source.left c.pieces.source) (g.R.Source.left c.read.new.self) c.pieces.count c.in_ok-read.read c.read.new.into c.pieces.lines.shapes.items c.pieces.lines.line
    c.pieces.invariant.going c.pieces.invariant.within c.if-read-eq0.true some c.in_ok-read.ensures.bytes.0 c.in_ok-read.ensures.bytes.1 c.finish.ensures.stop

pub returns-then-read-eq0-clause-failed : goal.returns-then-read-eq0-clause-failed
returns-then-read-eq0-clause-failed g c = λ e.
    absurd (end_not_failed c.finish.result g.G.Grid.geometry (g.R.Source.left c.args.source.now) (g.R.Source.left c.pieces.source) c.pieces.count c.pieces.lines.shapes.items c.pieces.lines.line c.pieces.invariant.going e c.finish.ensures.stop)

pub returns-in_err-take-clause-stop : goal.returns-in_err-take-clause-stop
returns-in_err-take-clause-stop g c =
    let room : c.min-room.result ≡ min (g.row.MOST - c.pieces.count) 4096 = c.min-room.ensures in
    let long : length c.read.new.into ≡ c.min-room.result = search rules in
    let few : c.pieces.count + c.in_ok-read.read ≤ g.row.MOST = omega (arith, c.pieces-test.true, room, long, c.in_ok-read.ensures.bound.0) in
    let told : GivesFault g.row.MOST g.G.Grid.geometry (g.R.Source.left c.args.source.now) c.in_err-take.field-0.0 =
    piece_stops g.row.MOST g.G.Grid.geometry (g.R.Source.left c.args.source.now) (g.R.Source.left c.pieces.source) (g.R.Source.left c.read.new.self) c.pieces.count c.in_ok-read.read c.read.new.into _ c.pieces.lines.shapes.items c.pieces.lines.line c.in_err-take.field-0.0
    c.pieces.invariant.going c.in_ok-read.ensures.bound.0 c.in_ok-read.ensures.bytes.0 few c.in_err-take.ensures.stop in
    search rules

pub returns-in_err-take-clause-no_further : goal.returns-in_err-take-clause-no_further
returns-in_err-take-clause-no_further g c =
    let room : c.min-room.result ≡ min (g.row.MOST - c.pieces.count) 4096 = c.min-room.ensures in
    let long : length c.read.new.into ≡ c.min-room.result = search rules in
    no_further g.row.MOST g.G.Grid.geometry (g.R.Source.left c.args.source.now) (g.R.Source.left c.pieces.source) (g.R.Source.left c.read.new.self) c.pieces.count c.in_ok-read.read c.read.new.into c.pieces.lines.shapes.items c.pieces.lines.line
    c.pieces.invariant.going c.pieces.invariant.within c.in_ok-read.ensures.bound.0 c.in_ok-read.ensures.bytes.0 (omega (arith, room, long))

pub returns-in_err-take-clause-failed : goal.returns-in_err-take-clause-failed
returns-in_err-take-clause-failed g c = λ e.
    let same : c.from_residual-in_err-take.result ≡ Err c.in_err-take.field-0.0 = search rules in
    let failed : c.in_err-take.field-0.0 ≡ Failed = cc in
    absurd (piece_not_failed g.G.Grid.geometry (g.R.Source.left c.args.source.now) (g.R.Source.left c.pieces.source) c.pieces.count _ c.pieces.lines.shapes.items c.pieces.lines.line c.in_err-take.field-0.0 c.pieces.invariant.going failed c.in_err-take.ensures.stop)

pub pieces-preserved : goal.pieces-preserved
pieces-preserved g c =
    let room : c.min-room.result ≡ min (g.row.MOST - c.pieces.count) 4096 = c.min-room.ensures in
    let long : length c.read.new.into ≡ c.min-room.result = search rules in
    record {
      going = going_on g.G.Grid.geometry (g.R.Source.left c.args.source.now) (g.R.Source.left c.pieces.source) (g.R.Source.left c.read.new.self) c.pieces.count c.in_ok-read.read c.read.new.into _ c.pieces.lines.shapes.items c.take.new.self.shapes.items c.pieces.lines.line c.take.new.self.line
          c.pieces.invariant.going c.in_ok-read.ensures.bound.0 c.in_ok-read.ensures.bytes.0 c.in_ok-take.ensures.ok;
      within = omega (arith, c.pieces-test.true, room, long, c.in_ok-read.ensures.bound.0);
      later = omega (arith, c.pieces.invariant.later, c.in_ok-read.ensures.cause.later);
    }

pub returns-then-branch-eq0-clause-ok : goal.returns-then-branch-eq0-clause-ok
returns-then-branch-eq0-clause-ok g c =
    let some : 0 < length c.read-2.new.into = omega (arith, c.read-2.auto.into) in
    end_given (λ v. v.items) c.finish-then-branch-eq0.result g.row.MOST g.G.Grid.geometry (g.R.Source.left c.args.source.now) (g.R.Source.left c.pieces.source) (g.R.Source.left c.read-2.new.self) c.pieces.count c.in_ok-read-2.field-0 c.read-2.new.into c.pieces.lines.shapes.items c.pieces.lines.line
    c.pieces.invariant.going c.pieces.invariant.within c.if-branch-eq0.true some c.in_ok-read-2.ensures.bytes.0 c.in_ok-read-2.ensures.bytes.1 c.finish-then-branch-eq0.ensures.ok

pub returns-then-branch-eq0-clause-stop : goal.returns-then-branch-eq0-clause-stop
returns-then-branch-eq0-clause-stop g c =
    let some : 0 < length c.read-2.new.into = omega (arith, c.read-2.auto.into) in
    end_stopped c.finish-then-branch-eq0.result g.row.MOST g.G.Grid.geometry (g.R.Source.left c.args.source.now) (g.R.Source.left c.pieces.source) (g.R.Source.left c.read-2.new.self) c.pieces.count c.in_ok-read-2.field-0 c.read-2.new.into c.pieces.lines.shapes.items c.pieces.lines.line
    c.pieces.invariant.going c.pieces.invariant.within c.if-branch-eq0.true some c.in_ok-read-2.ensures.bytes.0 c.in_ok-read-2.ensures.bytes.1 c.finish-then-branch-eq0.ensures.stop

pub returns-then-branch-eq0-clause-failed : goal.returns-then-branch-eq0-clause-failed
returns-then-branch-eq0-clause-failed g c = λ e.
    absurd (end_not_failed c.finish-then-branch-eq0.result g.G.Grid.geometry (g.R.Source.left c.args.source.now) (g.R.Source.left c.pieces.source) c.pieces.count c.pieces.lines.shapes.items c.pieces.lines.line c.pieces.invariant.going e c.finish-then-branch-eq0.ensures.stop)

pub returns-clause-stop : goal.returns-clause-stop
returns-clause-stop g c =
    let all : c.pieces.count ≡ g.row.MOST = omega (arith, c.pieces-test.false, c.pieces.invariant.within) in
    let one : length c.read-2.new.into ≡ 1 = omega (arith, c.read-2.auto.into) in
    goes_beyond g.row.MOST g.G.Grid.geometry (g.R.Source.left c.args.source.now) (g.R.Source.left c.pieces.source) (g.R.Source.left c.read-2.new.self) c.pieces.count c.in_ok-read-2.field-0 c.read-2.new.into c.pieces.lines.shapes.items c.pieces.lines.line c.beyond.result
    c.pieces.invariant.going all one (omega (arith, one, c.in_ok-read-2.ensures.bound.0)) (omega (arith, c.if-branch-eq0.false)) c.in_ok-read-2.ensures.bytes.0 c.beyond.ensures

pub returns-clause-no_further : goal.returns-clause-no_further
returns-clause-no_further g c =
    no_further g.row.MOST g.G.Grid.geometry (g.R.Source.left c.args.source.now) (g.R.Source.left c.pieces.source) (g.R.Source.left c.read-2.new.self) c.pieces.count c.in_ok-read-2.field-0 c.read-2.new.into c.pieces.lines.shapes.items c.pieces.lines.line
    c.pieces.invariant.going c.pieces.invariant.within c.in_ok-read-2.ensures.bound.0 c.in_ok-read-2.ensures.bytes.0 (omega (arith, c.read-2.auto.into))

pub returns-clause-failed : goal.returns-clause-failed
returns-clause-failed g c = λ e.
    let failed : c.beyond.result ≡ Failed = cc in
    absurd (beyond_not_failed g.G.Grid.geometry (g.R.Source.left c.args.source.now) (g.R.Source.left c.pieces.source) c.pieces.count c.pieces.lines.shapes.items c.pieces.lines.line c.beyond.result c.pieces.invariant.going failed c.beyond.ensures)
