use Rattle.std.proofs.Common.{sym, subst}
use Rattle.std.proofs.lemmas.Result.{on_ok_weaker}
use Rattle.heesch_grid.specs.Listing.{ListsExactly}
use Rattle.heesch_encode.specs.Literals.{lit_before, IsOfImplication}
use Rattle.heesch_encode.proofs.Implications.{implication_listed, written}
use Rattle.heesch_encode.proofs.clauses.write_implication.Goals as goal

pub returns : goal.returns
returns c =
    let n = c.args.var in
    let ns = c.args.numbers.now in
    let at = c.count_below-at.result in
    on_ok_weaker c.add_plus-2.result
    (λ m. subst (ListsExactly lit_before (IsOfImplication n ns))
    (sym (written n at ns c.clear.new.self.items c.add_plus.new.clause.items c.add.new.all.items c.add_plus-2.new.clause.items c.minus.result c.clear.ensures.items c.in_ok-add_plus.ensures c.in_ok-add.ensures c.minus.ensures m))
    (implication_listed n at ns c.requires.rising c.requires.absent c.count_below-at.ensures.below c.count_below-at.ensures.above)) c.add_plus-2.ensures
