use Rattle.std.proofs.Common.{◌≡◌, ℕ, ◌-◌, ◌≤◌, List, [], Option}
use Rattle.heesch_reader.specs.Taking.{HasRead}
use Rattle.heesch_check.proofs.reading.read_first.Given as goal

abbrev pub invariant-pieces : goal.invariant-pieces
invariant-pieces g l = record {
  none : l.items ≡ [];
  reads : (first : Option (List ℕ)) → HasRead first (g.R.Source.left l.fn.source) [] l.fn.stream → HasRead first (g.R.Source.left l.source) [] l.stream;
  later : g.R.Source.faults l.fn.source ≤ g.R.Source.faults l.source;
}

abbrev pub decreases-pieces : goal.decreases-pieces
decreases-pieces g l = 1099511627776 - l.stream.count
