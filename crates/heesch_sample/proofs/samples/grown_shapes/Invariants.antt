use Rattle.heesch_sample.proofs.Growing.{AreGrownSoFar}
use Rattle.heesch_sample.proofs.samples.grown_shapes.Given as goal

abbrev pub invariant-loop-made : goal.invariant-loop-made
invariant-loop-made g l = AreGrownSoFar g.G.Grid.geometry l.fn.growth.n l.fn.growth.seed l._made l.shapes.items l.draws
