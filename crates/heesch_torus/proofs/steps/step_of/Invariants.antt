use Rattle.heesch_torus.proofs.Stepping.{Begun}
use Rattle.heesch_torus.proofs.steps.step_of.Given as goal

abbrev pub invariant-loop-k : goal.invariant-loop-k
invariant-loop-k g l = Begun g.G.Grid.geometry l.torus.triple l.by.iso.da l.by.iso.db l.k l.step.items
