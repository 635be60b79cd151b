use Rattle.std.proofs.Common.{◌+◌, ◌-◌, ◌<◌, ℕ, length, get_or, sym, ap, arith, true≢false}
use Rattle.std.specs.List.{enumerate_from}
use Rattle.std.proofs.lemmas.List.{take_all}
use Rattle.std.proofs.lemmas.List.FromFn.{length-enumerate_from}
use Rattle.std.proofs.lemmas.List.Sums.{sum_by_more}
use Rattle.std.specs.Prelude.{sum_by}
use Rattle.heesch_grid.specs.Clauses.{formula_size}
use Rattle.heesch_grid.specs.CoronaFormula.{Variable}
use Rattle.heesch_encode.specs.Families.{support_at}
use Rattle.heesch_encode.proofs.Numbered.{no_entry}
use Rattle.heesch_encode.proofs.Pieces.{some_at, entry_read}
use Rattle.heesch_numbers.proofs.Rooms.{size_pieces}
use Rattle.heesch_numbers.proofs.bound.supports_fit.Goals as goal

pub loop-i-preserved : goal.loop-i-preserved
loop-i-preserved g c =
    let vars = c.args.plan.now.universe.now.vars in
    let i = c.loop-i.i in
    let less : i < length vars = omega (arith, c.loop-i-test.true, c.count-i-end.ensures.count) in
    let long = length-enumerate_from 1 vars in
    let f = λ (x : ℕ × Variable). formula_size (support_at g.G.Grid.geometry vars x) in
    let sums = sum_by_more f (enumerate_from 1 vars) i no_entry (omega (arith, long, less)) in
    let piece = c.support_bound-bound.ensures (get_or vars (i + 1 - 1) no_entry.1) (some_at vars (i + 1) (omega arith) (omega (arith, less))) in
    let read = ap f (entry_read vars i less) in
    omega (arith, sums, piece, read, c.loop-i.invariant, c.if-left-bound.false)

pub returns-then-left-bound : goal.returns-then-left-bound
returns-then-left-bound g c = λ t. absurd (true≢false (sym t))

pub returns : goal.returns
returns g c = λ t.
    let vars = c.args.plan.now.universe.now.vars in
    let long = length-enumerate_from 1 vars in
    let f = support_at g.G.Grid.geometry vars in
    let all = ap (sum_by (λ (x : ℕ × Variable). formula_size (f x))) (take_all c.loop-i.i (enumerate_from 1 vars) (omega (arith, long, c.loop-i-test.false, c.count-i-end.ensures.count))) in
    let pieces = size_pieces f (enumerate_from 1 vars) in
    omega (arith, all, pieces, c.loop-i.invariant)
