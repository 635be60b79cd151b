use Rattle.std.proofs.Common.{◌≤◌, ◌+◌, length, sym, subst, ap, arith}
use Rattle.heesch_trail.specs.State.{State, decision, level_of, StepHolds}
use Rattle.heesch_trail.proofs.Held.{Room-left}
use Rattle.heesch_trail.proofs.Levels.{StepHolds-decision}
use Rattle.heesch_trail.proofs.assigned.Assigned.next_level.Goals as goal

pub overflow_add-result : goal.overflow_add-result
overflow_add-result c =
    let t = c.self.inside in
    let st = c.args.self.now in
    let holds = StepHolds-decision st c.args.lit c.requires.low c.requires.high c.requires.is_open in
    let holds_inside = subst (λ (s : State). StepHolds s.vars s.clauses s.steps (decision c.args.lit (level_of st.steps + 1))) (sym c.self.view_is) holds in
    let left = Room-left t.formula.vars t.formula.clauses t.values.items t.levels.items t.reasons.items t.made.items c.args.lit (level_of st.steps + 1) c.self.invariant holds_inside in
    let room = subst (λ (s : State). length s.steps + 1 ≤ s.vars) c.self.view_is left in
    omega (arith, room, c.level.ensures.few, c.vars.ensures.vars, c.vars.ensures.small, ap (λ (s : State). s.vars) c.self.view_is)
