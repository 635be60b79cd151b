use Rattle.std.proofs.Common.{◌≡◌, ◌+◌, ◌≤◌, ◌∷◌, ◌++◌, [], ap, sym, subst, ◌∙◌, rules}
use Rattle.heesch_trail.specs.State.{State, StepHolds, values_of, level_of, decision}
use Rattle.heesch_trail.specs.Seen.{IsWatched}
use Rattle.heesch_trail.proofs.Levels.{StepHolds-decision}
use Rattle.heesch_trail.proofs.Marks.{Watched-decide}
use Rattle.heesch_trail.proofs.trail.Trail.decide.Goals as goal

pub assign-requires : goal.assign-requires
assign-requires c =
    let a = c.self.inside.assigned in
    let high = subst (λ (st : State). c.args.lit.var ≤ st.vars) (sym c.self.view_is) c.requires.high in
    let none = ap (λ (st : State). values_of st.steps c.args.lit.var) c.self.view_is ∙ c.requires.is_open in
    subst (λ l. StepHolds a.vars a.clauses a.steps (decision c.args.lit l)) (sym c.next_level-level.ensures) (StepHolds-decision a c.args.lit c.requires.low high none)

pub invariant_of-self-else-is_err-2 : goal.invariant_of-self-else-is_err-2
invariant_of-self-else-is_err-2 c =
    let t = c.self.inside in
    let n = c.guarded-mark.result in
    let none = ap (λ (st : State). values_of st.steps c.args.lit.var) c.self.view_is ∙ c.requires.is_open in
    let marks : c.push.new.self.items ≡ t.marks.items ++ n ∷ [] = search rules in
    let made : c.assign.new.self ≡ record t.assigned { steps = t.assigned.steps ++ decision c.args.lit c.next_level-level.result ∷ [] } = search rules in
    let is = subst (λ l. c.assign.new.self ≡ record t.assigned { steps = t.assigned.steps ++ decision c.args.lit l ∷ [] }) c.next_level-level.ensures made in
    subst (λ ms. IsWatched c.assign.new.self t.watches t.head t.fresh ms) (sym marks)
    (Watched-decide t.assigned c.assign.new.self t.watches t.head t.fresh t.marks.items c.args.lit n c.self.invariant none c.guarded-mark.ensures.few c.guarded-mark.ensures.nothing_waits c.assign.ensures.valid is)
