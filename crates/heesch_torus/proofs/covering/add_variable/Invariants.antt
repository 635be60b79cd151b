use Rattle.std.proofs.Common.{take}
use Rattle.heesch_torus.specs.Covering.{AddsNumber}
use Rattle.heesch_torus.proofs.covering.add_variable.Given as goal

abbrev pub invariant-loop-c : goal.invariant-loop-c
invariant-loop-c g l = AddsNumber g.G.Grid.geometry l.triple (take l.c-index l.cells) l.variable l.initial.lists l.lists
