use Rattle.heesch_sample.proofs.Growing.{grown_next}
use Rattle.heesch_sample.proofs.samples.grown_shapes.Goals as goal

pub loop-made-preserved : goal.loop-made-preserved
loop-made-preserved g c =
    grown_next g.G.Grid.geometry c.args.growth.n c.args.growth.seed c.loop-made._made c.loop-made.shapes.items c.push.new.self.items c.loop-made.draws c.grown-shape.new.draws c.grown-shape.result c.canonical.result
    c.loop-made.invariant c.grown-shape.ensures.grown c.grown-shape.ensures.state c.canonical.ensures.canonical c.in_ok-push.ensures.items
