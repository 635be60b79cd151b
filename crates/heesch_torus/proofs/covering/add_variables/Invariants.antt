use Rattle.std.proofs.Common.{take}
use Rattle.heesch_torus.specs.Variables.{sets_of}
use Rattle.heesch_torus.specs.Covering.{AreCovering}
use Rattle.heesch_torus.proofs.covering.add_variables.Given as goal

abbrev pub invariant-loop-before : goal.invariant-loop-before
invariant-loop-before g l = AreCovering g.G.Grid.geometry l.sets.triple (sets_of (take l.before l.sets.variables.now)) l.lists
