use Rattle.heesch_verdict.proofs.Coronas.{no_layers}
use Rattle.heesch_verdict.proofs.subject.Subject.hole_free.Goals as goal

pub loop-h-init : goal.loop-h-init
loop-h-init g c = no_layers g.G.Grid.geometry c.args.self.now.shape.now c.new.result c.new.ensures
