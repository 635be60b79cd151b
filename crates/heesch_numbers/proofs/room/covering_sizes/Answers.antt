use Rattle.std.proofs.Common.{◌≡◌, ◌+◌, ◌-◌, ◌<◌, ℕ, List, length, get_or, take, sym, ap, ◌∙◌, arith}
use Rattle.std.specs.Prelude.{min, sum_by}
use Rattle.std.specs.List.{enumerate_from}
use Rattle.std.proofs.lemmas.List.FromFn.{length-enumerate_from}
use Rattle.heesch_grid.specs.declared.Cell.{Cell}
use Rattle.heesch_grid.specs.Clauses.{formula_size}
use Rattle.heesch_grid.specs.CoronaFormula.{Variable, GivesCellsAround}
use Rattle.heesch_grid.proofs.AroundFacts.{cells_around, around_given}
use Rattle.heesch_encode.specs.Families.{covering_at}
use Rattle.heesch_encode.proofs.Numbered.{no_entry}
use Rattle.heesch_encode.proofs.Pieces.{some_at, entry_read}
use Rattle.heesch_numbers.proofs.Rooms.{min_more_capped, min_full, min_whole, size_pieces}
use Rattle.heesch_numbers.proofs.room.covering_sizes.Given as given
use Rattle.heesch_numbers.proofs.room.covering_sizes.Goals as goal
use Rattle.heesch_numbers.proofs.room.covering_sizes.Goals.{After-min-size, After-covering_size}

-- the size of one variable's clauses
piece : (g : given.Over) (c : After-covering_size g) (around : List Cell → List Cell) → GivesCellsAround g.G.Grid.geometry around →
    c.covering_size.result ≡ min (formula_size (covering_at around c.args.plan.now.shape.now c.args.plan.now.level c.args.plan.now.universe.now.vars (get_or (enumerate_from 1 c.args.plan.now.universe.now.vars) c.loop-i.i no_entry))) c.args.most
piece g c around gives =
    let vars = c.args.plan.now.universe.now.vars in
    let i = c.loop-i.i in
    let less : i < length vars = omega (arith, c.loop-i-test.true, c.count-i-end.ensures.count) in
    c.covering_size.ensures around (get_or vars (i + 1 - 1) no_entry.1) gives (some_at vars (i + 1) (omega arith) (omega (arith, less)))
    ∙ ap (λ e. min (formula_size (covering_at around c.args.plan.now.shape.now c.args.plan.now.level vars e)) c.args.most) (sym (entry_read vars i less))

-- the sizes up to it
more : (g : given.Over) (c : After-min-size g) (around : List Cell → List Cell) → GivesCellsAround g.G.Grid.geometry around →
    c.covering_size.result ≡ min (formula_size (covering_at around c.args.plan.now.shape.now c.args.plan.now.level c.args.plan.now.universe.now.vars (get_or (enumerate_from 1 c.args.plan.now.universe.now.vars) c.loop-i.i no_entry))) c.args.most →
    c.min-size.result ≡ min (sum_by (λ x. formula_size (covering_at around c.args.plan.now.shape.now c.args.plan.now.level c.args.plan.now.universe.now.vars x)) (take (c.loop-i.i + 1) (enumerate_from 1 c.args.plan.now.universe.now.vars))) c.args.most
more g c around gives p =
    let vars = c.args.plan.now.universe.now.vars in
    let long = length-enumerate_from 1 vars in
    min_more_capped (λ (x : ℕ × Variable). formula_size (covering_at around c.args.plan.now.shape.now c.args.plan.now.level vars x)) (enumerate_from 1 vars) c.loop-i.i no_entry (omega (arith, long, c.loop-i-test.true, c.count-i-end.ensures.count)) c.args.most c.loop-i.size (c.loop-i.invariant around gives) c.covering_size.result c.min-size.result p c.min-size.ensures

pub overflow_add-size : goal.overflow_add-size
overflow_add-size g c =
    let around = cells_around g.G.Grid.geometry in
    let gives = around_given g.G.Grid.geometry g.met.G.Grid.laws in
    let p = piece g (goal.at.overflow_add-size g c).After-covering_size around gives in
    let s = c.loop-i.invariant around gives in
    let m = c.requires.most in
    omega (arith, p, s, m)

pub loop-i-preserved : goal.loop-i-preserved
loop-i-preserved g c = λ around gives. let at = goal.at.loop-i-preserved g c in more g at.After-min-size around gives (piece g at.After-covering_size around gives)

pub returns-then-size-most : goal.returns-then-size-most
returns-then-size-most g c = λ around gives.
    let at = goal.at.returns-then-size-most g c in
    let vars = c.args.plan.now.universe.now.vars in
    let f = covering_at around c.args.plan.now.shape.now c.args.plan.now.level vars in
    min_full (λ (x : ℕ × Variable). formula_size (f x)) (enumerate_from 1 vars) (c.loop-i.i + 1) c.args.most c.min-size.result (more g at.After-min-size around gives (piece g at.After-covering_size around gives)) c.if-size-most.true
    ∙ ap (λ n. min n c.args.most) (sym (size_pieces f (enumerate_from 1 vars)))

pub returns : goal.returns
returns g c = λ around gives.
    let vars = c.args.plan.now.universe.now.vars in
    let long = length-enumerate_from 1 vars in
    let f = covering_at around c.args.plan.now.shape.now c.args.plan.now.level vars in
    min_whole (λ (x : ℕ × Variable). formula_size (f x)) (enumerate_from 1 vars) c.loop-i.i c.args.most c.loop-i.size (omega (arith, long, c.loop-i-test.false, c.count-i-end.ensures.count)) (c.loop-i.invariant around gives)
    ∙ ap (λ n. min n c.args.most) (sym (size_pieces f (enumerate_from 1 vars)))
