use Rattle.std.proofs.Common.{◌≡◌, ◌≤◌, ◌∙◌, ap, All, get_or, length, take, subst, arith}
use Rattle.std.proofs.lemmas.List.{take_all}
use Rattle.heesch_grid.specs.Cells.{origin}
use Rattle.heesch_grid.specs.OwnerFormula.{holders}
use Rattle.heesch_numbers.proofs.MostHolders.{most_more}
use Rattle.heesch_numbers.proofs.OwnersByNumber.{holders_few}
use Rattle.heesch_pairwise.proofs.pairs.most_with.Goals as goal

pub loop-c-preserved : goal.loop-c-preserved
loop-c-preserved g c =
    let vars = c.args.universe.now.vars in
    let items = c.cells-c-items.result.now in
    let i = c.loop-c.c-index in
    record {
      more = let more = c.loop-c.invariant.more in let found = c.max-found.ensures in omega arith;
      each = most_more vars items i origin c.loop-c-test.true c.loop-c.found c.max-found.result (length c.holders_of.result.now) (omega arith) (ap length c.holders_of.ensures) c.loop-c.invariant.each;
    }

pub returns-clause-each : goal.returns-clause-each
returns-clause-each g c = λ x number.
    let vars = c.args.universe.now.vars in
    let items = c.cells-c-items.result.now in
    let tile = take_all c.loop-c.c-index items (omega (arith, c.loop-c-test.false)) ∙ c.cells-c-items.ensures.cells ∙ c.shape.ensures ∙ c.placement_of.ensures.tile x number in
    let found = c.loop-c.found in
    subst (All (λ d. length (holders vars d) ≤ found)) tile c.loop-c.invariant.each

pub overflow_cast-holders_of : goal.overflow_cast-holders_of
overflow_cast-holders_of g c =
    let vars = c.args.universe.now.vars in
    let few = holders_few vars (get_or c.cells-c-items.result.now c.loop-c.c-index origin) in
    let is = ap length c.holders_of.ensures in
    let all = c.requires.few in
    omega arith
