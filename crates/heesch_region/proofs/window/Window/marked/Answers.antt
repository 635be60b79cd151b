use Rattle.std.proofs.Common.{◌≡◌, replicate, subst, sym, false, rules}
use Rattle.heesch_region.specs.Windows.{is_marked}
use Rattle.heesch_region.proofs.Marking.{unmarked}
use Rattle.heesch_region.proofs.window.Window.marked.Goals as goal

pub mark_all-requires-clause-none : goal.mark_all-requires-clause-none
mark_all-requires-clause-none c d =
    let e : c.deref_mut.result.now ≡ replicate c.size.result 0 = search rules in
    subst (λ ws. is_marked c.args.self ws d ≡ false) (sym e) (unmarked c.args.self c.size.result d)
