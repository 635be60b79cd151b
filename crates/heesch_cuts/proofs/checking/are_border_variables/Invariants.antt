use Rattle.std.proofs.Common.{All, take}
use Rattle.heesch_cert.specs.Cuts.{IsBorderVariable}
use Rattle.heesch_cuts.proofs.checking.are_border_variables.Given as goal

abbrev pub invariant-loop-n : goal.invariant-loop-n
invariant-loop-n g l = All (IsBorderVariable l.universe.vars l.level l.hole) (take l.n-index l.border)
