use Rattle.std.proofs.Common.{◌≡◌, true, false, rules, ◌+◌, ◌<◌, ◌≤◌, ℕ, leb, arith, leb-true, leb-false, get_or, sym, subst}
use Rattle.std.specs.List.Sorted.{IsPartitionPoint}
use Rattle.std.proofs.lemmas.List.{get_or-take, get_or-drop, length-take, length-drop}
use Rattle.std.proofs.lemmas.List.Sorted.{IsPartitionPoint-from_clause, IsPartitionedBy-leb}
use Rattle.heesch_numbers.proofs.Counting.{ends-rise}
use Rattle.heesch_numbers.proofs.prefix.count_to.Goals as goal
use Rattle.heesch_numbers.proofs.prefix.count_to.Goals.{After-partition_point}

-- what a binary search for the place gives
point : (c : After-partition_point) → IsPartitionPoint (λ m. leb m c.args.place ≡ true) (λ m. leb m c.args.place ≡ false) c.args.ends.now c.partition_point.result
point c =
    let xs = c.args.ends.now in
    let parted = IsPartitionedBy-leb (λ (m : ℕ). m) xs c.args.place (ends-rise 0 xs c.args.size c.requires) in
    IsPartitionPoint-from_clause (λ (m : ℕ). leb m c.args.place) xs c.partition_point.result c.partition_point.ensures.partitioned parted (λ a r q k. search rules)

pub returns-clause-below : goal.returns-clause-below
returns-clause-below c = λ k d l.
    let xs = c.args.ends.now in
    let below = (point (goal.at.returns-clause-below c).After-partition_point).0 in
    let long = length-take c.partition_point.result xs in
    let less : k < c.partition_point.result = omega (arith, l, long) in
    subst (λ (m : ℕ). m ≤ c.args.place) (sym (get_or-take c.partition_point.result xs k d less)) (leb-true (get_or xs k d) c.args.place (below k d (omega arith) less))

pub returns-clause-above : goal.returns-clause-above
returns-clause-above c = λ k d l.
    let xs = c.args.ends.now in
    let above = (point (goal.at.returns-clause-above c).After-partition_point).1 in
    let long = length-drop c.partition_point.result xs in
    subst (λ (m : ℕ). c.args.place < m) (sym (get_or-drop c.partition_point.result xs k d)) (leb-false (get_or xs (c.partition_point.result + k) d) c.args.place (above (c.partition_point.result + k) d (omega arith) (omega (arith, l, long))))
