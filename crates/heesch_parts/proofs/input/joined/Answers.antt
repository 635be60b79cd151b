use Rattle.std.proofs.Common.{◌≡◌, ℕ, ◌≤◌, ◌<◌, ◌+◌, ◌-◌, min, length, rules, arith}
use Rattle.heesch_line.specs.Stops.{stop_of}
use Rattle.heesch_parts.specs.Inputs.{GivesFault}
use Rattle.heesch_parts.proofs.Going.{going_on, piece_stops, at_end, goes_beyond, no_further, no_further_kept}
use Rattle.heesch_parts.proofs.input.joined.Goals as goal

pub returns-in_err-read-clause-no_further : goal.returns-in_err-read-clause-no_further
returns-in_err-read-clause-no_further g c =
    no_further_kept g.row.MOST (g.R.Source.left c.args.source.now) (g.R.Source.left c.pieces.source) (g.R.Source.left c.read.new.self) c.pieces.count c.pieces.joiner.kept c.pieces.items c.pieces.invariant.going c.pieces.invariant.within c.in_err-read.ensures.bytes

-- a piece has room for a byte, and for no more than may be read
room_of : (most count room long : ℕ) → count < most → room ≡ min (most - count) 4096 → long ≡ room → (0 < long) × (count + long ≤ most) × (long ≤ 4096)
room_of most count room long less is same = (omega arith, omega arith, omega arith)

pub returns-then-read-eq0 : goal.returns-then-read-eq0
returns-then-read-eq0 g c =
    let room = room_of g.row.MOST c.pieces.count c.min-room.result (length c.read.new.into) c.pieces-test.true c.min-room.ensures (search rules) in
    let end = at_end c.finish.result g.row.MOST (g.R.Source.left c.args.source.now) (g.R.Source.left c.pieces.source) (g.R.Source.left c.read.new.self) c.pieces.count c.in_ok-read.read c.read.new.into c.pieces.joiner.kept c.pieces.items
    c.pieces.invariant.going c.pieces.invariant.within c.if-read-eq0.true room.0 room.2 c.in_ok-read.ensures.bound.0 c.in_ok-read.ensures.bytes.0 c.in_ok-read.ensures.bytes.1 c.finish.ensures.ok c.finish.ensures.stop in
    record { ok = end.ok; stop = end.stop; ended = end.ended; no_further = end.no_further; failed = λ failed. absurd (end.not_failed failed); later = omega (arith, c.pieces.invariant.later, c.in_ok-read.ensures.cause.later) }

pub returns-in_err-feed-clause-stop : goal.returns-in_err-feed-clause-stop
returns-in_err-feed-clause-stop g c =
    let room = room_of g.row.MOST c.pieces.count c.min-room.result (length c.read.new.into) c.pieces-test.true c.min-room.ensures (search rules) in
    let few : c.pieces.count + c.in_ok-read.read ≤ g.row.MOST = omega (arith, room.1, c.in_ok-read.ensures.bound.0) in
    let told : GivesFault g.row.MOST (g.R.Source.left c.args.source.now) (stop_of c.in_err-feed.field-0.0) =
    piece_stops g.row.MOST (g.R.Source.left c.args.source.now) (g.R.Source.left c.pieces.source) (g.R.Source.left c.read.new.self) c.pieces.count c.in_ok-read.read c.read.new.into _ c.pieces.items c.feed.new.items c.pieces.joiner.kept c.feed.new.self.kept c.in_err-feed.field-0.0
    c.pieces.invariant.going c.in_ok-read.ensures.bound.0 c.in_ok-read.ensures.bytes.0 few (λ bytes items fed. (c.in_err-feed.ensures.fed c.pieces.invariant.unrefused bytes items fed).0) in
    search rules

pub returns-in_err-feed-clause-no_further : goal.returns-in_err-feed-clause-no_further
returns-in_err-feed-clause-no_further g c =
    let room = room_of g.row.MOST c.pieces.count c.min-room.result (length c.read.new.into) c.pieces-test.true c.min-room.ensures (search rules) in
    no_further g.row.MOST (g.R.Source.left c.args.source.now) (g.R.Source.left c.pieces.source) (g.R.Source.left c.read.new.self) c.pieces.count c.in_ok-read.read c.read.new.into c.pieces.joiner.kept c.pieces.items
    c.pieces.invariant.going c.pieces.invariant.within c.in_ok-read.ensures.bound.0 c.in_ok-read.ensures.bytes.0 room.2

pub pieces-preserved : goal.pieces-preserved
pieces-preserved g c =
    let room = room_of g.row.MOST c.pieces.count c.min-room.result (length c.read.new.into) c.pieces-test.true c.min-room.ensures (search rules) in
    record {
      going = going_on (g.R.Source.left c.args.source.now) (g.R.Source.left c.pieces.source) (g.R.Source.left c.read.new.self) c.pieces.count c.in_ok-read.read c.read.new.into _ c.pieces.items c.feed.new.items c.pieces.joiner.kept c.feed.new.self.kept
          c.pieces.invariant.going c.in_ok-read.ensures.bound.0 c.in_ok-read.ensures.bytes.0 (c.in_ok-feed.ensures.fed c.pieces.invariant.unrefused) c.in_ok-feed.ensures.room;
      unrefused = c.in_ok-feed.ensures.refusal c.pieces.invariant.unrefused;
      within = omega (arith, room.1, c.in_ok-read.ensures.bound.0);
      later = omega (arith, c.pieces.invariant.later, c.in_ok-read.ensures.cause.later);
    }

pub returns-in_err-read-2-clause-no_further : goal.returns-in_err-read-2-clause-no_further
returns-in_err-read-2-clause-no_further g c =
    no_further_kept g.row.MOST (g.R.Source.left c.args.source.now) (g.R.Source.left c.pieces.source) (g.R.Source.left c.read-2.new.self) c.pieces.count c.pieces.joiner.kept c.pieces.items c.pieces.invariant.going c.pieces.invariant.within c.in_err-read-2.ensures.bytes

pub returns-then-branch-eq0 : goal.returns-then-branch-eq0
returns-then-branch-eq0 g c =
    let one = c.read-2.auto.into in
    let end = at_end c.finish-then-branch-eq0.result g.row.MOST (g.R.Source.left c.args.source.now) (g.R.Source.left c.pieces.source) (g.R.Source.left c.read-2.new.self) c.pieces.count c.in_ok-read-2.field-0 c.read-2.new.into c.pieces.joiner.kept c.pieces.items
    c.pieces.invariant.going c.pieces.invariant.within c.if-branch-eq0.true (omega (arith, one)) (omega (arith, one)) c.in_ok-read-2.ensures.bound.0 c.in_ok-read-2.ensures.bytes.0 c.in_ok-read-2.ensures.bytes.1 c.finish-then-branch-eq0.ensures.ok c.finish-then-branch-eq0.ensures.stop in
    record { ok = end.ok; stop = end.stop; ended = end.ended; no_further = end.no_further; failed = λ failed. absurd (end.not_failed failed); later = omega (arith, c.pieces.invariant.later, c.in_ok-read-2.ensures.cause.later) }

pub returns-clause-stop : goal.returns-clause-stop
returns-clause-stop g c =
    let all : c.pieces.count ≡ g.row.MOST = omega (arith, c.pieces-test.false, c.pieces.invariant.within) in
    let one : length c.read-2.new.into ≡ 1 = omega (arith, c.read-2.auto.into) in
    let told : GivesFault g.row.MOST (g.R.Source.left c.args.source.now) (stop_of c.beyond.result) =
    goes_beyond g.row.MOST (g.R.Source.left c.args.source.now) (g.R.Source.left c.pieces.source) (g.R.Source.left c.read-2.new.self) c.pieces.count c.in_ok-read-2.field-0 c.read-2.new.into c.pieces.joiner.kept c.pieces.items c.beyond.result
    c.pieces.invariant.going all one (omega (arith, one, c.in_ok-read-2.ensures.bound.0)) (omega (arith, c.if-branch-eq0.false)) c.in_ok-read-2.ensures.bytes.0 c.beyond.ensures in
    search rules

pub returns-clause-no_further : goal.returns-clause-no_further
returns-clause-no_further g c =
    no_further g.row.MOST (g.R.Source.left c.args.source.now) (g.R.Source.left c.pieces.source) (g.R.Source.left c.read-2.new.self) c.pieces.count c.in_ok-read-2.field-0 c.read-2.new.into c.pieces.joiner.kept c.pieces.items
    c.pieces.invariant.going c.pieces.invariant.within c.in_ok-read-2.ensures.bound.0 c.in_ok-read-2.ensures.bytes.0 (omega (arith, c.read-2.auto.into))
