use Rattle.std.proofs.Common.{◌≡◌, ◌<◌, ◌∙◌, ap, sym, subst, get_or, length, take, arith, length-set}
use Rattle.std.proofs.lemmas.List.{get_or_read, take_all}
use Rattle.heesch_grid.specs.Cells.{origin}
use Rattle.heesch_grid.specs.OwnerFormula.{holders}
use Rattle.heesch_pairwise.specs.Later.{ArePassed, ArePassedAt, IsNextAfter, no_number}
use Rattle.heesch_pairwise.proofs.Merging.{counts_more, next_none, next_more}
use Rattle.heesch_pairwise.proofs.later.next_after.Given as given
use Rattle.heesch_pairwise.proofs.later.next_after.Goals as goal
use Rattle.heesch_pairwise.proofs.later.next_after.Goals.{After-holders_of-numbers}

-- the variables that have the cell
own : (g : given.Over) (c : After-holders_of-numbers g) → c.holders_of-numbers.result.now ≡ holders c.args.universe.now.vars (get_or c.args.cells.now c.loop-i.i origin)
own g c = c.holders_of-numbers.ensures

pub loop-i-init : goal.loop-i-init
loop-i-init g c = record { size = λ i. length c.args.counts.now; passed = c.requires.passed; next = next_none c.args.universe.now.vars c.args.cells.now c.args.n }

pub passed-count-requires-clause-from : goal.passed-count-requires-clause-from
passed-count-requires-clause-from g c =
    let here = own g (goal.at.passed-count-requires-clause-from g c).After-holders_of-numbers in
    subst (λ ns. ArePassed ns (get_or c.loop-i.counts c.loop-i.i 0) c.args.n) (sym here) (c.loop-i.invariant.passed c.loop-i.i (omega arith))

pub loop-i-preserved : goal.loop-i-preserved
loop-i-preserved g c =
    let vars = c.args.universe.now.vars in
    let cells = c.args.cells.now in
    let i = c.loop-i.i in
    let here = own g (goal.at.loop-i-preserved g c).After-holders_of-numbers in
    let numbers = c.holders_of-numbers.result.now in
    let count = c.passed-count.result in
    let size = c.loop-i.invariant.size in
    let all = c.requires.size in
    let test = c.loop-i-test.true in
    let at = subst (λ ns. ArePassed ns count c.args.n) here c.passed-count.ensures.passed in
    let head = c.number_at.ensures in
    let least = c.min-least.ensures in
    record {
      size = length-set c.loop-i.counts i count ∙ size;
      passed = counts_more vars cells c.loop-i.counts i count c.args.n (omega arith) at c.loop-i.invariant.passed;
      next = next_more vars cells i c.args.n (omega arith) numbers here count c.passed-count.ensures.passed c.passed-count.ensures.next c.loop-i.least c.min-least.result (omega arith) c.loop-i.invariant.next;
    }

pub returns-clause-next : goal.returns-clause-next
returns-clause-next g c =
    let whole = take_all c.loop-i.i c.args.cells.now (omega (arith, c.loop-i-test.false)) in
    subst (λ cs. IsNextAfter c.args.universe.now.vars cs c.args.n c.loop-i.least) whole c.loop-i.invariant.next
