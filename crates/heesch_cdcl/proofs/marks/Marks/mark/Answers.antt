use Rattle.std.proofs.Common.{◌≡◌, true, take, ◌+◌, get_or, sym, ap, subst, ◌∙◌, arith}
use Rattle.std.proofs.Math.ListN.{set}
use Rattle.heesch_cnf.specs.declared.literal.Lit.{Lit}
use Rattle.heesch_cdcl.specs.Marking.{MarksClause}
use Rattle.heesch_cdcl.proofs.MarkLemmas.{MarksClause-more}
use Rattle.heesch_cdcl.proofs.marks.Marks.mark.Goals as goal

pub loop-lit-preserved : goal.loop-lit-preserved
loop-lit-preserved c =
    let d = c.lit-item.result in
    let i = c.loop-lit.lit-index in
    let range = c.requires.form.in_range i d c.loop-lit-test.true in
    let seen = c.loop-lit.self.seen in
    let var : c.var.result ≡ (get_or c.args.clause.now i d).var = c.var.ensures.is ∙ ap (λ (l : Lit). l.var) c.lit-item.is in
    record {
      marks = c.mark_one.ensures.marks;
      seen = subst (λ ps. MarksClause c.args.self.now.seen ps (take (i + 1) c.args.clause.now)) (sym (c.in_ok-mark_one.ensures.seen ∙ ap (λ n. set seen n true) var))
          (MarksClause-more c.args.self.now.seen seen c.args.clause.now i d c.loop-lit-test.true (omega (arith, range.1, c.loop-lit.invariant.marks.seen_room)) c.loop-lit.invariant.seen);
      more = omega (arith, c.mark_one.ensures.more, c.loop-lit.invariant.more);
    }
