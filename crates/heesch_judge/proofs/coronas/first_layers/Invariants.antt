use Rattle.std.proofs.Common.{◌≡◌, take}
use Rattle.heesch_judge.proofs.coronas.first_layers.Given as goal

abbrev pub invariant-loop-index : goal.invariant-loop-index
invariant-loop-index l = l.first ≡ take l.index l.layers
