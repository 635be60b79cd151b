use Rattle.std.proofs.Common.{false, true, ◌≡◌, sym, subst, ◌∙◌}
use Rattle.heesch_cdcl.specs.Conflicts.{Clash}
use Rattle.heesch_cdcl.specs.Marking.{HavePlaces, MarksClause, AreMarks}
use Rattle.heesch_cdcl.specs.Resolved.{IsBegun}
use Rattle.heesch_cdcl.proofs.MarkLemmas.{AreMarks-clear}
use Rattle.heesch_cdcl.proofs.Resolving.{Begun-conflict}
use Rattle.heesch_cdcl.proofs.ReadSteps.{form_of}
use Rattle.heesch_cdcl.proofs.analysis.begin.Goals as goal

pub mark-requires-clause-form : goal.mark-requires-clause-form
mark-requires-clause-form c =
    form_of c.conflict.inside.trail.now c.conflict.inside.number c.clause-clause.result.now c.conflict.invariant.valid c.conflict.invariant.conflict.0 c.clause-clause.ensures.clause

pub mark-requires-clause-marks : goal.mark-requires-clause-marks
mark-requires-clause-marks c =
    let places = subst (λ (x : Clash). HavePlaces x.trail.vars c.args.marks.now) (sym c.conflict.view_is) c.requires in
    AreMarks-clear c.conflict.inside.trail.now c.level.result c.clear.new.self
    (record { seen_room = c.clear.ensures.seen_room ∙ places.seen_room; here_room = c.clear.ensures.here_room ∙ places.here_room }) c.clear.ensures.clear

pub returns-clause-begun : goal.returns-clause-begun
returns-clause-begun c =
    let trail = c.conflict.inside.trail.now in
    let none = c.clear.new.self.seen in
    let n = c.mark.new.self in
    subst (λ (x : Clash). IsBegun x.trail x.number n) c.conflict.view_is
    (Begun-conflict trail c.conflict.inside.number none n c.conflict.invariant.valid c.conflict.invariant.lower c.conflict.invariant.conflict
    (λ v m. let bad : false ≡ true = sym (c.clear.ensures.clear.none_seen v) ∙ m in cc)
    (subst (MarksClause none n.seen) c.clause-clause.ensures.clause c.in_ok-mark.ensures.seen)
    (subst (λ k. AreMarks trail k n) c.level.ensures.level c.mark.ensures.marks))
