use Rattle.std.proofs.Common.{◌+◌, ◌++◌, List, ℕ, filter, not, sym, subst, take, arith}
use Rattle.std.proofs.lemmas.List.{append-nil}
use Rattle.heesch_cnf.specs.declared.literal.Lit.{Lit}
use Rattle.heesch_cnf.specs.declared.values.Left.{Left}
use Rattle.heesch_cnf.specs.Literals.{held}
use Rattle.heesch_grid.specs.Cells.{meet}
use Rattle.heesch_encode.specs.Literals.{plus_all}
use Rattle.heesch_numbers.specs.Common.{tile_of}
use Rattle.heesch_numbers.specs.Seen.{IsSeen}
use Rattle.heesch_numbers.proofs.Seeing.{kept_joins, walk_more, walk_stopped, walk_whole}
use Rattle.heesch_numbers.proofs.walks.left_with_all_apart.Given as given
use Rattle.heesch_numbers.proofs.walks.left_with_all_apart.Goals as goal
use Rattle.heesch_numbers.proofs.walks.left_with_all_apart.Goals.{After-left_with_apart-now}

pub loop-var-init : goal.loop-var-init
loop-var-init g c = λ seen h. subst (λ ls. IsSeen (held c.args.values.now) ls c.args.left) (sym (append-nil seen)) h

-- after one number more
more : (g : given.Over) (c : After-left_with_apart-now g) (seen : List Lit) → IsSeen (held c.args.values.now) seen c.args.left →
    IsSeen (held c.args.values.now) (seen ++ plus_all (filter (λ n. not (meet (tile_of c.args.universe.now.vars n) c.args.tile.now)) (take (c.loop-var.var-index + 1) c.args.numbers.now))) c.left_with_apart-now.result
more g c seen h =
    let p = λ (n : ℕ). not (meet (tile_of c.args.universe.now.vars n) c.args.tile.now) in
    let i = c.loop-var.var-index in
    walk_more (λ ns. plus_all (filter p ns)) (kept_joins p) (held c.args.values.now) seen c.args.numbers.now i 0 c.left_with_apart-now.result c.loop-var-test.true
    (c.left_with_apart-now.ensures (seen ++ plus_all (filter p (take i c.args.numbers.now))) (c.loop-var.invariant seen h))

pub loop-var-preserved : goal.loop-var-preserved
loop-var-preserved g c = λ seen h. more g (goal.at.loop-var-preserved g c).After-left_with_apart-now seen h

pub returns-in-More : goal.returns-in-More
returns-in-More g c = λ seen h.
    let p = λ (n : ℕ). not (meet (tile_of c.args.universe.now.vars n) c.args.tile.now) in
    let v = held c.args.values.now in
    let i = c.loop-var.var-index in
    subst (λ (left : Left). IsSeen v (seen ++ plus_all (filter p c.args.numbers.now)) left) (sym c.in-More.is)
    (walk_stopped (λ ns. plus_all (filter p ns)) (kept_joins p) v seen c.args.numbers.now (i + 1)
    (subst (λ (left : Left). IsSeen v (seen ++ plus_all (filter p (take (i + 1) c.args.numbers.now))) left) c.in-More.is (more g (goal.at.returns-in-More g c).After-left_with_apart-now seen h)))

pub returns : goal.returns
returns g c = λ seen h.
    let p = λ (n : ℕ). not (meet (tile_of c.args.universe.now.vars n) c.args.tile.now) in
    walk_whole (λ ns. plus_all (filter p ns)) (kept_joins p) (held c.args.values.now) seen c.args.numbers.now c.loop-var.var-index c.loop-var.now (omega (arith, c.loop-var-test.false)) (c.loop-var.invariant seen h)
