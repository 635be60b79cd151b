use Rattle.std.proofs.Common.{filter, ap, subst, ◌∙◌, length, arith}
use Rattle.std.proofs.lemmas.List.{take_all}
use Rattle.heesch_cdcl.specs.Marking.{Marking, AreMarked, marked}
use Rattle.heesch_cdcl.proofs.MarkLemmas.{AreMarked-listed}
use Rattle.heesch_cdcl.proofs.marks.Marks.keep.Goals as goal

pub returns : goal.returns
returns c =
    let s = c.self.inside in
    let kept = c.loop-var.kept.items in
    let all = take_all c.loop-var.var-index s.touched.items (omega (arith, ap length c.deref-var-items.ensures.value)) in
    subst (λ (m : Marking). AreMarked m.seen kept) c.self.view_is
    (AreMarked-listed s.seen.items s.here.items s.touched.items kept c.self.invariant.listed (c.loop-var.invariant ∙ ap (filter (marked s.seen.items)) all))
