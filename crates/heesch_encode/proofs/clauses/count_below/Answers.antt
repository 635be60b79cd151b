use Rattle.std.proofs.Common.{◌≡◌, true, false, rules, ◌+◌, ◌<◌, ◌≤◌, ℕ, ltb, arith, ltb-true, ltb-false, get_or, sym, subst}
use Rattle.std.specs.List.Sorted.{IsPartitionPoint}
use Rattle.std.proofs.lemmas.List.{get_or-take, get_or-drop, length-take, length-drop}
use Rattle.std.proofs.lemmas.List.Sorted.{IsPartitionPoint-from_clause, IsPartitionedBy-ltb}
use Rattle.heesch_encode.proofs.Rising.{never_falls}
use Rattle.heesch_encode.proofs.clauses.count_below.Goals as goal
use Rattle.heesch_encode.proofs.clauses.count_below.Goals.{After-partition_point}

-- what a binary search for the number gives
point : (c : After-partition_point) → IsPartitionPoint (λ m. ltb m c.args.n ≡ true) (λ m. ltb m c.args.n ≡ false) c.args.numbers.now c.partition_point.result
point c =
    let xs = c.args.numbers.now in
    let parted = IsPartitionedBy-ltb (λ (m : ℕ). m) xs c.args.n (never_falls xs c.requires) in
    IsPartitionPoint-from_clause (λ (m : ℕ). ltb m c.args.n) xs c.partition_point.result c.partition_point.ensures.partitioned parted (λ a r q k. search rules)

pub returns-clause-below : goal.returns-clause-below
returns-clause-below c = λ k d l.
    let xs = c.args.numbers.now in
    let below = (point (goal.at.returns-clause-below c).After-partition_point).0 in
    let long = length-take c.partition_point.result xs in
    let less : k < c.partition_point.result = omega (arith, l, long) in
    subst (λ (m : ℕ). m < c.args.n) (sym (get_or-take c.partition_point.result xs k d less)) (ltb-true (get_or xs k d) c.args.n (below k d (omega arith) less))

pub returns-clause-above : goal.returns-clause-above
returns-clause-above c = λ k d l.
    let xs = c.args.numbers.now in
    let above = (point (goal.at.returns-clause-above c).After-partition_point).1 in
    let long = length-drop c.partition_point.result xs in
    subst (λ (m : ℕ). c.args.n ≤ m) (sym (get_or-drop c.partition_point.result xs k d)) (ltb-false (get_or xs (c.partition_point.result + k) d) c.args.n (above (c.partition_point.result + k) d (omega arith) (omega (arith, l, long))))
