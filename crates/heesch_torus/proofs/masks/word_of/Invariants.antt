use Rattle.std.proofs.Common.{take}
use Rattle.heesch_torus.specs.Stepping.{HasBits}
use Rattle.heesch_torus.proofs.masks.word_of.Given as goal

abbrev pub invariant-loop-point : goal.invariant-loop-point
invariant-loop-point l = HasBits (take l.point-index l.points) l.word
