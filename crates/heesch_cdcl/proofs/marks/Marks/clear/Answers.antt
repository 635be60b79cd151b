use Rattle.std.proofs.Common.{◌≡◌, [], sym, subst, ◌∙◌, rules}
use Rattle.heesch_cdcl.specs.Marking.{AreListed}
use Rattle.heesch_cdcl.proofs.MarkLemmas.{none_counted}
use Rattle.heesch_cdcl.proofs.marks.Marks.clear.Goals as goal

pub invariant_of-self : goal.invariant_of-self
invariant_of-self c =
    let s = c.loop-var.self-inside in
    let listed = c.loop-var.invariant.listed in
    let before : s.touched.items ≡ [] = search rules in
    let after : c.pop.new.self.items ≡ [] = search rules in
    record {
      listed = subst (AreListed s.seen.items s.here.items) (before ∙ sym after) listed;
      counted = none_counted s.seen.items s.here.items s.touched.items listed before;
    }
