use Rattle.std.proofs.Common.{◌≡◌, replicate}
use Rattle.heesch_trail.specs.declared.truth.Truth.TheVariants.{Open}
use Rattle.heesch_trail.proofs.assigned.opens.Given as goal

abbrev pub invariant-loop : goal.invariant-loop
invariant-loop l = l.values.items ≡ replicate l.counter Open
