use Rattle.heesch_grow.proofs.Generated.{IsGrownSoFar}
use Rattle.heesch_grow.proofs.random.grown.Given as goal

abbrev pub invariant-loop-draw : goal.invariant-loop-draw
invariant-loop-draw g l = IsGrownSoFar g.G.Grid.geometry l.fn.draws l._draw l.shape l.draws
