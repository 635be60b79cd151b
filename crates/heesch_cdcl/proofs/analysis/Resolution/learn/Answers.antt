use Rattle.std.proofs.Common.{◌≤◌, ◌∙◌, sym, subst}
use Rattle.heesch_trail.specs.State.{level_of}
use Rattle.heesch_cdcl.specs.Conflicts.{Clash}
use Rattle.heesch_cdcl.specs.Learning.{IsLearnt}
use Rattle.heesch_cdcl.specs.Marked.{IsLevelIn}
use Rattle.heesch_cdcl.specs.Resolved.{IsResolved}
use Rattle.heesch_cdcl.proofs.Learnt.{Learnt-resolved}
use Rattle.heesch_cdcl.proofs.analysis.Resolution.learn.Goals as goal

pub returns-clause-learnt : goal.returns-clause-learnt
returns-clause-learnt c =
    let trail = c.conflict.inside.trail.now in
    let m = c.resolve.new.self.marks in
    let hints = c.in_ok-copy_of.field-0 in
    let view = c.conflict.view_is in
    let level = subst (λ (x : Clash). 1 ≤ level_of x.trail.steps) (sym view) c.requires.level in
    let resolved = subst (IsResolved trail m) (sym (c.in_ok-copy_of.ensures ∙ c.deref.ensures.value)) (subst (λ (x : Clash). IsResolved x.trail m c.resolve.new.self.hints.items) (sym view) c.in_ok-resolve.ensures.resolved) in
    subst (λ (x : Clash). IsLearnt x.trail (record { clause = c.in_ok-clause.clause; hints = hints; back = c.back_of-back.result })) view
    (Learnt-resolved trail m (record { clause = c.in_ok-clause.clause; hints = hints; back = c.back_of-back.result }) c.back_of-back.ensures.valid level resolved c.in_ok-clause.ensures c.back_of-back.ensures.below
    (subst (λ clause. IsLevelIn trail.steps clause c.back_of-back.result) c.as_slice.ensures c.back_of-back.ensures.reached))
