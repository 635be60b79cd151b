use Rattle.std.proofs.Common.{◌+◌, length, sym, ap, subst, arith}
use Rattle.heesch_index.specs.Entries.{IsIndexOf}
use Rattle.heesch_index.proofs.EntryFacts.{IsIndexOf-push, on_ok}
use Rattle.heesch_index.proofs.index.CellIndex.add.Goals as goal

pub invariant_of-self-else-is_err : goal.invariant_of-self-else-is_err
invariant_of-self-else-is_err c =
    let t = c.self.inside in
    let count = ap length c.self.view_is in
    let few = c.self.invariant.0 in
    subst (λ sets. IsIndexOf sets c.enter.new.numbers) (sym (on_ok c.push.result c.if-is_err.ensures.value c.push.ensures.ok))
    (IsIndexOf-push t.sets c.args.cells.now t.numbers c.enter.new.numbers (c.len-count.result + 1) c.self.invariant (omega arith) (omega arith) c.in_ok-enter.ensures.ok)
