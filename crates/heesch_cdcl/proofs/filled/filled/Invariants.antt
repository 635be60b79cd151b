use Rattle.std.proofs.Common.{◌≡◌, replicate}
use Rattle.heesch_cdcl.proofs.filled.filled.Given as goal

abbrev pub invariant-loop : goal.invariant-loop
invariant-loop l = l.places.items ≡ replicate l.counter l.value
