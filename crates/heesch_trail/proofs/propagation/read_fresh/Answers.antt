use Rattle.std.proofs.Common.{◌<◌, length, ap, arith}
use Rattle.heesch_trail.specs.Seen.{GoesOn, StaySeen}
use Rattle.heesch_trail.proofs.Visits.{same_clauses}
use Rattle.heesch_trail.proofs.Guards.{GoesOn-both}
use Rattle.heesch_trail.proofs.Rounds.{StaySeen-goes_on, StaySeen-more}
use Rattle.heesch_trail.proofs.propagation.read_fresh.Goals as goal
use Rattle.heesch_trail.proofs.propagation.read_fresh.Goals.{After-visit_first}

-- what a visit leaves, whatever it finds
left : (c : After-visit_first) → GoesOn c.args.assigned.now c.args.watches.now c.visit_first.new.assigned c.visit_first.new.watches × StaySeen c.args.assigned.now c.args.watches.now c.args.fresh.now c.visit_first.new.assigned c.visit_first.new.watches c.loop-fresh.fresh
left c = (
  GoesOn-both c.args.assigned.now c.loop-fresh.assigned c.visit_first.new.assigned c.args.watches.now c.loop-fresh.watches c.visit_first.new.watches c.loop-fresh.invariant.goes_on c.visit_first.ensures.goes_on,
  StaySeen-goes_on c.args.assigned.now c.loop-fresh.assigned c.visit_first.new.assigned c.args.watches.now c.loop-fresh.watches c.visit_first.new.watches c.args.fresh.now c.loop-fresh.fresh c.loop-fresh.invariant.goes_on c.visit_first.ensures.goes_on c.loop-fresh.invariant.seen,
)

pub returns-in_err-number-clause-goes_on : goal.returns-in_err-number-clause-goes_on
returns-in_err-number-clause-goes_on c = (left (goal.at.returns-in_err-number-clause-goes_on c).After-visit_first).0

pub returns-in_err-number-clause-seen : goal.returns-in_err-number-clause-seen
returns-in_err-number-clause-seen c = (left (goal.at.returns-in_err-number-clause-seen c).After-visit_first).1

pub returns-in-AllFalse-clause-goes_on : goal.returns-in-AllFalse-clause-goes_on
returns-in-AllFalse-clause-goes_on c = (left (goal.at.returns-in-AllFalse-clause-goes_on c).After-visit_first).0

pub returns-in-AllFalse-clause-seen : goal.returns-in-AllFalse-clause-seen
returns-in-AllFalse-clause-seen c = (left (goal.at.returns-in-AllFalse-clause-seen c).After-visit_first).1

pub loop-fresh-preserved : goal.loop-fresh-preserved
loop-fresh-preserved c =
    let mid = c.loop-fresh.assigned in
    let new = c.visit_first.new.assigned in
    let on = c.visit_first.ensures.goes_on in
    let lt : c.loop-fresh.fresh < length mid.clauses = omega (arith, c.count.ensures.count, c.loop-fresh-test.true) in
    let count = ap length (same_clauses mid new on.steps) in
    record {
      goes_on = GoesOn-both c.args.assigned.now mid new c.args.watches.now c.loop-fresh.watches c.visit_first.new.watches c.loop-fresh.invariant.goes_on on;
      read = omega (arith, lt, count);
      seen = StaySeen-more c.args.assigned.now mid new c.args.watches.now c.loop-fresh.watches c.visit_first.new.watches c.args.fresh.now c.loop-fresh.fresh c.in_ok-number.field-0
          c.loop-fresh.invariant.goes_on on c.loop-fresh.invariant.seen c.in_default.not-AllFalse c.in_ok-number.ensures.found;
    }
