use Rattle.std.proofs.Common.{◌≤◌, length, ap, subst, ◌∙◌, arith}
use Rattle.std.proofs.lemmas.List.{get_or_default}
use Rattle.heesch_trail.specs.State.{State, level_of}
use Rattle.heesch_trail.specs.Inner.{steps_of}
use Rattle.heesch_trail.proofs.Levels.{level-whole}
use Rattle.heesch_trail.proofs.Held.{Last-held}
use Rattle.heesch_trail.proofs.assigned.Assigned.level.Goals as goal

pub index-requires : goal.index-requires
index-requires c =
    let t = c.self.inside in
    let last = Last-held t.formula.vars t.formula.clauses t.levels.items t.reasons.items t.made.items c.deref.result.now c.in-Some.lit.now c.self.invariant.valid.steps c.deref.ensures.value c.in-Some.ensures.item.3.0 c.in-Some.ensures.item.1 in
    omega (arith, last.0, c.self.invariant.held.level_room, t.levels.ok)

pub returns-in-Some-clause-level : goal.returns-in-Some-clause-level
returns-in-Some-clause-level c =
    let t = c.self.inside in
    let last = Last-held t.formula.vars t.formula.clauses t.levels.items t.reasons.items t.made.items c.deref.result.now c.in-Some.lit.now c.self.invariant.valid.steps c.deref.ensures.value c.in-Some.ensures.item.3.0 c.in-Some.ensures.item.1 in
    c.index.ensures ∙ get_or_default t.levels.items c.in-Some.lit.now.var c.index.result.now 0 (omega (arith, last.0, c.self.invariant.held.level_room))
    ∙ last.1 ∙ ap (λ (s : State). level_of s.steps) c.self.view_is

pub returns-in-Some-clause-few : goal.returns-in-Some-clause-few
returns-in-Some-clause-few c =
    let t = c.self.inside in
    let level = returns-in-Some-clause-level c in
    let few = subst (λ (s : State). level_of s.steps ≤ length s.steps) c.self.view_is (level-whole t.formula.vars t.formula.clauses (steps_of t.levels.items t.reasons.items t.made.items) c.self.invariant.valid.steps) in
    omega (arith, level, few)
