use Rattle.std.proofs.Common.{◌+◌, ◌<◌, length, sym, subst, ◌∙◌, arith}
use Rattle.heesch_trail.specs.Seen.{AreSeen, AreVisitedBy, GoesOn}
use Rattle.heesch_trail.proofs.Visits.{more_steps}
use Rattle.heesch_trail.proofs.Guards.{GoesOn-both}
use Rattle.heesch_trail.proofs.Rounds.{none_of, Made-few, Turned-at, Fits-opposite, Seen-next, Seen-fixpoint, AreSeen-as_many, AreSeen-all}
use Rattle.heesch_trail.proofs.propagation.drain.Goals as goal
use Rattle.heesch_trail.proofs.propagation.drain.Goals.{After-turned-lit, After-visit_list}

-- there is an assignment at the head
here : (c : After-turned-lit) → c.loop-head.head < length c.loop-head.assigned.steps
here c = let few = Made-few c.loop-head.assigned.steps c.made.result.now c.made.ensures.made in omega (arith, few, c.loop-head-test.true)

pub visit_list-requires-clause-fits : goal.visit_list-requires-clause-fits
visit_list-requires-clause-fits c =
    let go = c.loop-head.invariant.goes_on in
    Fits-opposite c.loop-head.assigned (length c.loop-head.watches.lists) c.loop-head.head c.turned-lit.result go.valid (here (goal.at.visit_list-requires-clause-fits c).After-turned-lit) go.whole.room c.turned-lit.ensures

pub visit_list-requires-clause-turned : goal.visit_list-requires-clause-turned
visit_list-requires-clause-turned c =
    Turned-at c.loop-head.assigned c.loop-head.head c.turned-lit.result c.loop-head.invariant.goes_on.valid (here (goal.at.visit_list-requires-clause-turned c).After-turned-lit) c.turned-lit.ensures

-- what a visit leaves, whatever it finds
left : (c : After-visit_list) → GoesOn c.args.assigned.now c.args.watches.now c.visit_list.new.assigned c.visit_list.new.watches × AreSeen c.loop-head.head c.visit_list.new.assigned c.visit_list.new.watches (length c.visit_list.new.assigned.clauses)
left c = (
  GoesOn-both c.args.assigned.now c.loop-head.assigned c.visit_list.new.assigned c.args.watches.now c.loop-head.watches c.visit_list.new.watches c.loop-head.invariant.goes_on c.visit_list.ensures.goes_on,
  AreSeen-all c.loop-head.assigned c.visit_list.new.assigned c.loop-head.watches c.visit_list.new.watches c.loop-head.head c.visit_list.ensures.goes_on c.loop-head.invariant.visited c.loop-head.invariant.seen,
)

pub returns-in_err-found-clause-goes_on : goal.returns-in_err-found-clause-goes_on
returns-in_err-found-clause-goes_on c = (left (goal.at.returns-in_err-found-clause-goes_on c).After-visit_list).0

pub returns-in_err-found-clause-seen : goal.returns-in_err-found-clause-seen
returns-in_err-found-clause-seen c = (left (goal.at.returns-in_err-found-clause-seen c).After-visit_list).1

pub returns-then-is_some-clause-goes_on : goal.returns-then-is_some-clause-goes_on
returns-then-is_some-clause-goes_on c = (left (goal.at.returns-then-is_some-clause-goes_on c).After-visit_list).0

pub returns-then-is_some-clause-seen : goal.returns-then-is_some-clause-seen
returns-then-is_some-clause-seen c = (left (goal.at.returns-then-is_some-clause-seen c).After-visit_list).1

pub loop-head-preserved : goal.loop-head-preserved
loop-head-preserved c =
    let lt = here (goal.at.loop-head-preserved c).After-turned-lit in
    let on = c.visit_list.ensures.goes_on in
    let none = none_of c.in_ok-found.found (sym c.is_some.ensures ∙ c.if-is_some.false) in
    let visited = subst (AreVisitedBy c.visit_list.new.assigned c.visit_list.new.watches c.turned-lit.result) none c.in_ok-found.ensures.found in
    let more = more_steps c.loop-head.assigned c.visit_list.new.assigned on.steps in
    record {
      goes_on = (left (goal.at.loop-head-preserved c).After-visit_list).0;
      visited = omega (arith, lt, more);
      seen = AreSeen-as_many c.loop-head.assigned c.visit_list.new.assigned c.visit_list.new.watches (c.loop-head.head + 1) on.steps
          (Seen-next c.loop-head.assigned c.visit_list.new.assigned c.loop-head.watches c.visit_list.new.watches c.loop-head.head (length c.loop-head.assigned.clauses) c.turned-lit.result on lt c.loop-head.invariant.seen c.turned-lit.ensures visited);
    }

pub returns-clause-found : goal.returns-clause-found
returns-clause-found c =
    let t = c.loop-head.assigned in
    let go = c.loop-head.invariant.goes_on in
    let few = Made-few t.steps c.made.result.now c.made.ensures.made in
    Seen-fixpoint t c.loop-head.watches c.loop-head.head go.whole (omega (arith, few, c.loop-head-test.false)) c.loop-head.invariant.seen
