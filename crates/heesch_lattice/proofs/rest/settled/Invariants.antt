use Rattle.std.proofs.Common.{◌+◌, ◌-◌, ◌≡◌, ◌≤◌}
use Rattle.heesch_lattice.specs.Listed.{triples_from}
use Rattle.heesch_lattice.proofs.rest.settled.Given as goal

abbrev pub invariant-loop-column : goal.invariant-loop-column
invariant-loop-column l =
    record { positive : 1 ≤ l.column; below : l.column ≤ l.area + 1; rest : triples_from l.area l.column l.shift ≡ triples_from l.area l.p l.s }

abbrev pub decreases-loop-column : goal.decreases-loop-column
decreases-loop-column l = l.area + 1 - l.column
