use Rattle.std.proofs.Common.{◌≡◌, ◌+◌, ◌-◌, ◌<◌, ℕ, length, get_or, take, sym, ap, ◌∙◌, arith}
use Rattle.std.specs.Prelude.{min, sum_by}
use Rattle.std.specs.List.{enumerate_from}
use Rattle.std.proofs.lemmas.List.FromFn.{length-enumerate_from}
use Rattle.heesch_grid.specs.Clauses.{formula_size}
use Rattle.heesch_grid.specs.CoronaFormula.{Variable}
use Rattle.heesch_encode.specs.Families.{support_at}
use Rattle.heesch_encode.proofs.Numbered.{no_entry}
use Rattle.heesch_encode.proofs.Pieces.{some_at, entry_read}
use Rattle.heesch_numbers.proofs.Rooms.{min_more, min_full, min_whole, size_pieces}
use Rattle.heesch_numbers.proofs.room.support_sizes.Given as given
use Rattle.heesch_numbers.proofs.room.support_sizes.Goals as goal
use Rattle.heesch_numbers.proofs.room.support_sizes.Goals.{After-min-size}

-- the sizes up to that of one variable
more : (g : given.Over) (c : After-min-size g) → c.min-size.result ≡ min (sum_by (λ x. formula_size (support_at g.G.Grid.geometry c.args.plan.now.universe.now.vars x)) (take (c.loop-i.i + 1) (enumerate_from 1 c.args.plan.now.universe.now.vars))) c.args.most
more g c =
    let vars = c.args.plan.now.universe.now.vars in
    let i = c.loop-i.i in
    let less : i < length vars = omega (arith, c.loop-i-test.true, c.count-i-end.ensures.count) in
    let long = length-enumerate_from 1 vars in
    let f = λ (x : ℕ × Variable). formula_size (support_at g.G.Grid.geometry vars x) in
    let piece = c.in_ok-support_size.ensures.size (get_or vars (i + 1 - 1) no_entry.1) (some_at vars (i + 1) (omega arith) (omega (arith, less))) in
    min_more f (enumerate_from 1 vars) i no_entry (omega (arith, long, less)) c.args.most c.loop-i.size c.loop-i.invariant.size c.in_ok-support_size.field-0 c.min-size.result (piece ∙ ap f (sym (entry_read vars i less))) c.min-size.ensures

pub loop-i-preserved : goal.loop-i-preserved
loop-i-preserved g c = record { unmarked = c.in_ok-support_size.ensures.unmarked; size = more g (goal.at.loop-i-preserved g c).After-min-size }

pub returns-then-size-most : goal.returns-then-size-most
returns-then-size-most g c =
    let vars = c.args.plan.now.universe.now.vars in
    let f = support_at g.G.Grid.geometry vars in
    min_full (λ (x : ℕ × Variable). formula_size (f x)) (enumerate_from 1 vars) (c.loop-i.i + 1) c.args.most c.min-size.result (more g (goal.at.returns-then-size-most g c).After-min-size) c.if-size-most.true
    ∙ ap (λ n. min n c.args.most) (sym (size_pieces f (enumerate_from 1 vars)))

pub returns : goal.returns
returns g c =
    let vars = c.args.plan.now.universe.now.vars in
    let long = length-enumerate_from 1 vars in
    let f = support_at g.G.Grid.geometry vars in
    min_whole (λ (x : ℕ × Variable). formula_size (f x)) (enumerate_from 1 vars) c.loop-i.i c.args.most c.loop-i.size (omega (arith, long, c.loop-i-test.false, c.count-i-end.ensures.count)) c.loop-i.invariant.size
    ∙ ap (λ n. min n c.args.most) (sym (size_pieces f (enumerate_from 1 vars)))
