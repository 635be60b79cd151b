use Rattle.std.proofs.Common.{◌≡◌, ◌<◌, ◌≤◌, ◌+◌, ◌-◌, ◌∙◌, ℕ, List, replicate, sym, ap, subst, get_or, length, inl, inr, arith}
use Rattle.std.proofs.lemmas.Bool.{cases_lt}
use Rattle.std.proofs.lemmas.List.{get_or-replicate, get_or_past, length-replicate}
use Rattle.heesch_grid.specs.declared.Cell.{Cell}
use Rattle.heesch_grid.specs.CoronaFormula.{Variable, IsNumbered}
use Rattle.heesch_encode.proofs.Numbered.{no_entry}
use Rattle.heesch_encode.proofs.Pieces.{some_at}
use Rattle.heesch_pairwise.specs.Later.{later_of, ArePassedAt, IsNextAfter}
use Rattle.heesch_encode.proofs.Rising.{rising_at}
use Rattle.heesch_pairwise.proofs.LaterLists.{later_rising}
use Rattle.heesch_pairwise.proofs.Merging.{counts_none, counts_up, later_above, first_is, next_is}
use Rattle.heesch_pairwise.proofs.later.later_at.Given as given
use Rattle.heesch_pairwise.proofs.later.later_at.Goals as goal
use Rattle.heesch_pairwise.proofs.later.later_at.Goals.{After-cells-cells, After-next_after-now, After-next_after-now-in-loop-rank}

-- nothing is passed at first
abbrev none : List ℕ
none = replicate 32 0

zeros : (i : ℕ) → get_or none i 0 ≡ 0
zeros i =
    let long : length none ≡ 32 = length-replicate {A = ℕ} 32 0 in
    elim (cases_lt i 32) [ inl l ↦ get_or-replicate {A = ℕ} 32 i 0 0 l | inr past ↦ get_or_past none i 0 (omega (arith, long, past)) ]

-- the cells are those of the variable's tile
own : (g : given.Over) (c : After-cells-cells g) (x : Variable) → IsNumbered c.args.universe.now.vars c.args.var x → c.cells-cells.result.now ≡ x.tile
own g c x number = c.cells-cells.ensures.cells ∙ c.shape.ensures ∙ c.placement_of.ensures.tile x number

-- the first one that was found
found : (g : given.Over) (c : After-next_after-now g) (there : After-cells-cells g) (x : Variable) → IsNumbered c.args.universe.now.vars c.args.var x → c.cells-cells.result.now ≡ x.tile → c.next_after-now.result ≡ get_or (later_of c.args.universe.now.vars (c.args.var, x)) 0 0
found g c there x number is =
    let vars = c.args.universe.now.vars in
    let within = c.requires.place x number in
    first_is vars c.requires.few c.args.var x c.next_after-now.result (omega (arith, within)) (subst (λ (cs : List Cell). IsNextAfter vars cs c.args.var c.next_after-now.result) is c.next_after-now.ensures.next)

pub loop-rank-init : goal.loop-rank-init
loop-rank-init g c =
    let vars = c.args.universe.now.vars in
    let n = c.args.var in
    let x = get_or vars (n - 1) no_entry.1 in
    let number = some_at vars n c.requires.number.0 c.requires.number.1 in
    let at = goal.at.loop-rank-init g c in
    let first = found g at.After-next_after-now at.After-cells-cells x number (own g at.After-cells-cells x number) in
    let within = c.requires.place x number in
    let above = (later_above vars c.requires.few n x 0 (omega (arith, within))).0 in
    record {
      size = c.next_after-now.ensures.size;
      passed = counts_up vars c.cells-cells.result.now c.next_after-now.new.counts n c.next_after-now.result (omega (arith, first, above)) c.next_after-now.ensures.passed;
      is = λ y numbered. found g at.After-next_after-now at.After-cells-cells y numbered (own g at.After-cells-cells y numbered);
    }

-- the next one
more : (g : given.Over) (c : After-next_after-now-in-loop-rank g) (x : Variable) → IsNumbered c.args.universe.now.vars c.args.var x → c.cells-cells.result.now ≡ x.tile → c.next_after-now-in-loop-rank.result ≡ get_or (later_of c.args.universe.now.vars (c.args.var, x)) (c.loop-rank._rank + 1) 0
more g c x number is =
    let vars = c.args.universe.now.vars in
    let within = c.requires.place x number in
    let test = c.loop-rank-test.true in
    let now = c.loop-rank.invariant.is x number in
    next_is vars c.requires.few c.args.var x c.loop-rank._rank c.next_after-now-in-loop-rank.result (omega (arith, within, test))
    (subst (λ k. IsNextAfter vars x.tile k c.next_after-now-in-loop-rank.result) now (subst (λ (cs : List Cell). IsNextAfter vars cs c.loop-rank.now c.next_after-now-in-loop-rank.result) is c.next_after-now-in-loop-rank.ensures.next))

pub loop-rank-preserved : goal.loop-rank-preserved
loop-rank-preserved g c =
    let vars = c.args.universe.now.vars in
    let n = c.args.var in
    let x = get_or vars (n - 1) no_entry.1 in
    let number = some_at vars n c.requires.number.0 c.requires.number.1 in
    let at = goal.at.loop-rank-preserved g c in
    let next = more g at.After-next_after-now-in-loop-rank x number (own g at.After-cells-cells x number) in
    let now = c.loop-rank.invariant.is x number in
    let within = c.requires.place x number in
    let test = c.loop-rank-test.true in
    let less = rising_at (later_of vars (n, x)) (later_rising vars n x) c.loop-rank._rank (c.loop-rank._rank + 1) 0 (omega arith) (omega (arith, within, test)) in
    record {
      size = c.next_after-now-in-loop-rank.ensures.size ∙ c.loop-rank.invariant.size;
      passed = counts_up vars c.cells-cells.result.now c.next_after-now-in-loop-rank.new.counts c.loop-rank.now c.next_after-now-in-loop-rank.result (omega (arith, next, now, less)) c.next_after-now-in-loop-rank.ensures.passed;
      is = λ y numbered. more g at.After-next_after-now-in-loop-rank y numbered (own g at.After-cells-cells y numbered);
    }

pub next_after-now-requires-in-loop-rank-clause-small : goal.next_after-now-requires-in-loop-rank-clause-small
next_after-now-requires-in-loop-rank-clause-small g c =
    let vars = c.args.universe.now.vars in
    let n = c.args.var in
    let x = get_or vars (n - 1) no_entry.1 in
    let number = some_at vars n c.requires.number.0 c.requires.number.1 in
    let now = c.loop-rank.invariant.is x number in
    let within = c.requires.place x number in
    let high = (later_above vars c.requires.few n x c.loop-rank._rank (omega (arith, within, c.loop-rank-test.true))).1 in
    omega (arith, now, high, c.requires.few)

pub next_after-now-requires-clause-size : goal.next_after-now-requires-clause-size
next_after-now-requires-clause-size g c = let few = c.cells-cells.ensures.shape.few in let same = ap (λ (cs : List Cell). length cs) c.cells-cells.ensures.cells in omega (arith, few, same)

pub next_after-now-requires-in-loop-rank-clause-size : goal.next_after-now-requires-in-loop-rank-clause-size
next_after-now-requires-in-loop-rank-clause-size g c = let few = c.cells-cells.ensures.shape.few in let same = ap (λ (cs : List Cell). length cs) c.cells-cells.ensures.cells in let size = c.loop-rank.invariant.size in omega (arith, few, same, size)

pub next_after-now-requires-clause-passed : goal.next_after-now-requires-clause-passed
next_after-now-requires-clause-passed g c = counts_none c.args.universe.now.vars c.cells-cells.result.now none c.args.var zeros

pub next_after-now-requires-in-loop-rank-clause-passed : goal.next_after-now-requires-in-loop-rank-clause-passed
next_after-now-requires-in-loop-rank-clause-passed g c = c.loop-rank.invariant.passed

pub returns : goal.returns
returns g c = λ x number.
    let same : c.loop-rank._rank ≡ c.args.place = omega (arith, c.loop-rank-test.false) in
    c.loop-rank.invariant.is x number ∙ ap (λ k. get_or (later_of c.args.universe.now.vars (c.args.var, x)) k 0) same
