use Rattle.std.proofs.Common.{◌≡◌, None, subst, rules}
use Rattle.heesch_table.specs.TableSteps.{CountsItem}
use Rattle.heesch_table.proofs.EntryCounts.{within_at, few_at, counts_on, stops_on}
use Rattle.heesch_table.proofs.counting.count_entries_of.Goals as goal

pub count_item-requires-clause-within : goal.count_item-requires-clause-within
count_item-requires-clause-within g c = within_at c.args.items.now c.loop-item.item-index c.item-item.result c.loop-item-test.true c.item-item.is c.requires.within

pub count_item-requires-clause-few : goal.count_item-requires-clause-few
count_item-requires-clause-few g c =
    few_at g.G.Grid.geometry c.args.tally.now c.loop-item.tally c.args.items.now c.loop-item.item-index c.item-item.result c.loop-item-test.true c.item-item.is c.loop-item.invariant c.requires.few

pub returns-in-Some : goal.returns-in-Some
returns-in-Some g c =
    stops_on g.G.Grid.geometry c.args.tally.now c.loop-item.tally c.args.items.now c.loop-item.item-index c.item-item.result c.in-Some.fault c.count_item.new.tally c.loop-item-test.true c.item-item.is c.loop-item.invariant
    (subst (λ o. CountsItem g.G.Grid.geometry c.loop-item.tally c.count_item.new.tally c.item-item.result o) c.in-Some.is c.in_ok-fault.ensures)

pub loop-item-preserved : goal.loop-item-preserved
loop-item-preserved g c =
    let none : c.in_ok-fault.field-0 ≡ None = search rules in
    counts_on g.G.Grid.geometry c.args.tally.now c.loop-item.tally c.count_item.new.tally c.args.items.now c.loop-item.item-index c.item-item.result c.loop-item-test.true c.item-item.is c.loop-item.invariant
    (subst (λ o. CountsItem g.G.Grid.geometry c.loop-item.tally c.count_item.new.tally c.item-item.result o) none c.in_ok-fault.ensures)
