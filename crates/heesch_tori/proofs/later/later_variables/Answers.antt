use Rattle.std.proofs.Common.{◌≡◌, ◌+◌, ◌-◌, ◌<◌, length, arith}
use Rattle.heesch_tori.specs.Later.{later_sharing, variable_at}
use Rattle.heesch_tori.specs.Shared.{tabled_sets}
use Rattle.heesch_tori.proofs.Clauses.{sets_many}
use Rattle.heesch_tori.proofs.Passed.{later_few, numbers_long, counts_more, counts_whole, numbers_more, numbers_whole, sum_more}
use Rattle.heesch_tori.proofs.later.later_variables.Goals as goal

pub overflow_cast-len : goal.overflow_cast-len
overflow_cast-len c =
    let sets = tabled_sets c.args.table.now in
    let many = sets_many c.args.table.now.variables in
    let long = numbers_long sets c.loop-i.i c.loop-i.numbers.items c.add_later.new.numbers.items c.in_ok-add_later.ensures in
    let few = later_few sets (variable_at sets (c.loop-i.i + 1)) in
    let now = c.len.ensures in
    let before = c.len-before.ensures in
    let most = c.count-i-end.ensures.few in
    let count = c.count-i-end.ensures.count in
    omega (arith, many, long, few, now, before, most, count)

pub loop-i-preserved : goal.loop-i-preserved
loop-i-preserved c =
    let sets = tabled_sets c.args.table.now in
    let many = sets_many c.args.table.now.variables in
    let less : c.loop-i.i < length (tabled_sets c.args.table.now) = omega (arith, many, c.loop-i-test.true, c.count-i-end.ensures.count) in
    let long = numbers_long sets c.loop-i.i c.loop-i.numbers.items c.add_later.new.numbers.items c.in_ok-add_later.ensures in
    let now = c.len.ensures in
    let before = c.len-before.ensures in
    let count : c.len.result - c.len-before.result ≡ length (later_sharing (tabled_sets c.args.table.now) (variable_at (tabled_sets c.args.table.now) (c.loop-i.i + 1))) = omega (arith, long, now, before) in
    let whole = sum_more c.loop-i.counts c.push.new.self (c.len.result - c.len-before.result) c.in_ok-push.ensures.ok in
    let few = later_few sets (variable_at sets (c.loop-i.i + 1)) in
    let most = c.count-i-end.ensures.few in
    let all = c.count-i-end.ensures.count in
    let sum = c.loop-i.invariant.few in
    record {
      counts = counts_more sets c.loop-i.i (c.len.result - c.len-before.result) c.loop-i.counts c.push.new.self less c.in_ok-push.ensures.ok count c.loop-i.invariant.counts;
      numbers = numbers_more sets c.loop-i.i c.loop-i.numbers.items c.add_later.new.numbers.items less c.in_ok-add_later.ensures c.loop-i.invariant.numbers;
      few = omega (arith, whole, count, few, many, most, all, sum);
    }

pub returns-clause-counts : goal.returns-clause-counts
returns-clause-counts c =
    let many = sets_many c.args.table.now.variables in
    counts_whole (tabled_sets c.args.table.now) c.loop-i.i c.loop-i.counts (omega (arith, many, c.loop-i-test.false, c.count-i-end.ensures.count)) c.loop-i.invariant.counts

pub returns-clause-numbers : goal.returns-clause-numbers
returns-clause-numbers c =
    let many = sets_many c.args.table.now.variables in
    numbers_whole (tabled_sets c.args.table.now) c.loop-i.i c.loop-i.numbers.items (omega (arith, many, c.loop-i-test.false, c.count-i-end.ensures.count)) c.loop-i.invariant.numbers
