use Rattle.std.proofs.Common.{Contains, ◌<◌, ◌≤◌, length, sym, subst, ◌∙◌}
use Rattle.heesch_trail.specs.Watches.{index_at}
use Rattle.heesch_trail.specs.Seen.{IsVisitBy, IsUnwatched}
use Rattle.heesch_trail.proofs.Visits.{Value-continues}
use Rattle.heesch_trail.proofs.Guards.{GoesOn-both}
use Rattle.heesch_trail.proofs.Passed.{Passed-before, Passed-true, Passed-without, Passed-whole, GoesOn-without, index-read}
use Rattle.heesch_trail.proofs.propagation.visit_list.Goals as goal

pub visit_by-requires-clause-turned : goal.visit_by-requires-clause-turned
visit_by-requires-clause-turned c =
    let go = c.loop-place.invariant.goes_on in
    Value-continues c.args.assigned.now c.loop-place.assigned c.args.lit _ go.valid go.steps c.requires.turned

pub visit_by-requires-clause-sound : goal.visit_by-requires-clause-sound
visit_by-requires-clause-sound c =
    let go = c.loop-place.invariant.goes_on in
    let e = c.index-list-place.result in
    let lt = subst (λ xs. c.loop-place.place < length xs) (c.list.ensures ∙ sym c.list-in-loop-place.ensures) c.loop-place-test.true in
    go.whole.sound c.args.lit e (subst (λ xs. Contains xs e) c.list-in-loop-place.ensures (c.loop-place.place, lt, sym c.index-list-place.is))

pub returns-in_err-visit_by-clause-goes_on : goal.returns-in_err-visit_by-clause-goes_on
returns-in_err-visit_by-clause-goes_on c =
    GoesOn-both c.args.assigned.now c.loop-place.assigned c.visit_by.new.assigned c.args.watches.now c.loop-place.watches c.visit_by.new.watches c.loop-place.invariant.goes_on c.visit_by.ensures.goes_on

pub returns-in-AllFalse-clause-goes_on : goal.returns-in-AllFalse-clause-goes_on
returns-in-AllFalse-clause-goes_on c =
    GoesOn-both c.args.assigned.now c.loop-place.assigned c.visit_by.new.assigned c.args.watches.now c.loop-place.watches c.visit_by.new.watches c.loop-place.invariant.goes_on c.visit_by.ensures.goes_on

pub loop-place-preserved-in-HasTrue : goal.loop-place-preserved-in-HasTrue
loop-place-preserved-in-HasTrue c =
    let go = c.loop-place.invariant.goes_on in
    let turned = Value-continues c.args.assigned.now c.loop-place.assigned c.args.lit _ go.valid go.steps c.requires.turned in
    let at = index-read c.list-in-loop-place.result.now c.loop-place.place c.index-list-place.result (subst (λ xs. c.loop-place.place < length xs) (c.list.ensures ∙ sym c.list-in-loop-place.ensures) c.loop-place-test.true) c.index-list-place.is in
    record {
      goes_on = GoesOn-both c.args.assigned.now c.loop-place.assigned c.visit_by.new.assigned c.args.watches.now c.loop-place.watches c.visit_by.new.watches go c.visit_by.ensures.goes_on;
      passed = Passed-true c.loop-place.assigned c.visit_by.new.assigned c.loop-place.watches c.visit_by.new.watches c.args.lit c.loop-place.place c.list-in-loop-place.result.now c.visit_by.ensures.goes_on turned c.list-in-loop-place.ensures c.visit_by.ensures.stays c.loop-place.invariant.passed
          (subst (IsVisitBy c.visit_by.new.assigned c.visit_by.new.watches c.args.lit (index_at c.list-in-loop-place.result.now c.loop-place.place)) c.in-HasTrue.is (subst (λ k. IsVisitBy c.visit_by.new.assigned c.visit_by.new.watches c.args.lit k c.in_ok-visit_by.field-0) at c.in_ok-visit_by.ensures.found));
    }

pub loop-place-preserved : goal.loop-place-preserved
loop-place-preserved c =
    let new = c.visit_by.new.assigned in
    let watching = c.visit_by.new.watches in
    let without = c.remove.new.self in
    let go = c.loop-place.invariant.goes_on in
    let turned = Value-continues c.args.assigned.now c.loop-place.assigned c.args.lit _ go.valid go.steps c.requires.turned in
    let at = index-read c.list-in-loop-place.result.now c.loop-place.place c.index-list-place.result (subst (λ xs. c.loop-place.place < length xs) (c.list.ensures ∙ sym c.list-in-loop-place.ensures) c.loop-place-test.true) c.index-list-place.is in
    let un =
    subst (λ xs. IsUnwatched watching c.args.lit (index_at xs c.loop-place.place)) (c.list-in-loop-place.ensures ∙ sym c.visit_by.ensures.stays)
    (subst (IsVisitBy c.visit_by.new.assigned c.visit_by.new.watches c.args.lit (index_at c.list-in-loop-place.result.now c.loop-place.place)) c.in-Watched.is (subst (λ k. IsVisitBy c.visit_by.new.assigned c.visit_by.new.watches c.args.lit k c.in_ok-visit_by.field-0) at c.in_ok-visit_by.ensures.found)) in
    let on = GoesOn-both c.args.assigned.now c.loop-place.assigned new c.args.watches.now c.loop-place.watches watching go c.visit_by.ensures.goes_on in
    record {
      goes_on = GoesOn-both c.args.assigned.now new new c.args.watches.now watching without on
          (GoesOn-without new watching without c.args.lit c.loop-place.place on.valid on.whole un (let lt = c.loop-place-test.true in subst (λ xs. c.loop-place.place < length xs) (c.list.ensures ∙ sym c.visit_by.ensures.stays) lt) c.remove.ensures.pairs c.remove.ensures.room c.remove.ensures.without c.remove.ensures.others);
      passed = Passed-without new watching without c.args.lit c.loop-place.place c.remove.ensures.pairs c.remove.ensures.without (Passed-before c.loop-place.assigned new c.loop-place.watches watching c.args.lit c.loop-place.place c.visit_by.ensures.goes_on turned c.visit_by.ensures.stays c.loop-place.invariant.passed);
    }

pub returns-clause-found : goal.returns-clause-found
returns-clause-found c =
    let go = c.loop-place.invariant.goes_on in
    Passed-whole c.loop-place.assigned c.loop-place.watches c.args.lit c.loop-place.place go.whole (subst (λ xs. length xs ≤ c.loop-place.place) c.list.ensures c.loop-place-test.false) c.loop-place.invariant.passed
