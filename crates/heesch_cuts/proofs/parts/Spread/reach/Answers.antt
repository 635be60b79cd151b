use Rattle.std.proofs.Common.{◌≡◌, ◌<◌, false, length, set, true, subst, sym, arith}
use Rattle.heesch_cuts.specs.Parts.{WentOn}
use Rattle.heesch_cuts.proofs.Covering.{get_below}
use Rattle.heesch_cuts.proofs.Marking.{marked-set_same}
use Rattle.heesch_cuts.proofs.Spreading.{went_one, reached_at, reached_absent, read_mark}
use Rattle.heesch_cuts.proofs.parts.Spread.reach.Goals as goal
use Rattle.heesch_cuts.proofs.parts.Spread.reach.Goals.{In-Some}

-- the place has a mark
within : (c : In-Some) → c.in-Some.at < length c.args.self.now.reached.items
within c = omega (arith, c.requires.size, c.args.self.now.reached.ok, get_below c.args.hole.now c.in-Some.at c.args.d c.in-Some.ensures.found)

pub returns-in_ok-push-clause-on : goal.returns-in_ok-push-clause-on
returns-in_ok-push-clause-on c =
    let hole = c.args.hole.now in
    let reached = c.args.self.now.reached.items in
    let todo = c.args.self.now.todo.items in
    let at = c.in-Some.at in
    let size : length reached ≡ length hole = omega (arith, c.requires.size, c.args.self.now.reached.ok) in
    let off = read_mark reached at c.index.result.now false (within (goal.at.returns-in_ok-push-clause-on c).In-Some) c.index.ensures c.if-not-index.true in
    subst (WentOn hole reached todo (set reached at true)) (sym c.in_ok-push.ensures.items) (went_one hole reached todo at size (get_below hole at c.args.d c.in-Some.ensures.found) off)

pub returns-in_ok-push-clause-there : goal.returns-in_ok-push-clause-there
returns-in_ok-push-clause-there c =
    let reached = c.args.self.now.reached.items in
    let at = c.in-Some.at in
    reached_at c.args.hole.now (set reached at true) c.args.d at c.requires.rising c.in-Some.ensures.found (marked-set_same reached at (within (goal.at.returns-in_ok-push-clause-there c).In-Some))

pub returns-else-not-index-clause-there : goal.returns-else-not-index-clause-there
returns-else-not-index-clause-there c =
    let reached = c.args.self.now.reached.items in
    let at = c.in-Some.at in
    let on = read_mark reached at c.index.result.now true (within (goal.at.returns-else-not-index-clause-there c).In-Some) c.index.ensures c.if-not-index.false in
    reached_at c.args.hole.now reached c.args.d at c.requires.rising c.in-Some.ensures.found on

pub returns-in_default-clause-there : goal.returns-in_default-clause-there
returns-in_default-clause-there c = reached_absent c.args.hole.now c.args.self.now.reached.items c.args.d c.in_default.ensures.none
