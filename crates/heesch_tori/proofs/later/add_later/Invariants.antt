use Rattle.std.proofs.Common.{◌≡◌, ◌++◌}
use Rattle.heesch_tori.specs.Shared.{tabled_sets}
use Rattle.heesch_tori.proofs.Passed.{numbers_to}
use Rattle.heesch_tori.proofs.later.add_later.Given as goal

abbrev pub invariant-loop-other : goal.invariant-loop-other
invariant-loop-other l = l.numbers.items ≡ l.fn.numbers.items ++ numbers_to (tabled_sets l.table) l.first l.other
