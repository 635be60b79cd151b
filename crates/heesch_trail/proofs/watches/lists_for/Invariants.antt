use Rattle.std.proofs.Common.{◌≡◌, replicate, []}
use Rattle.heesch_trail.proofs.watches.lists_for.Given as goal

abbrev pub invariant-loop-code : goal.invariant-loop-code
invariant-loop-code l = l.lists.items ≡ replicate l.code []
