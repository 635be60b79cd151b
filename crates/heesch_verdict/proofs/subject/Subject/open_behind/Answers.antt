use Rattle.heesch_verdict.proofs.Coronas.{opened_result}
use Rattle.heesch_verdict.proofs.subject.Subject.open_behind.Goals as goal

pub returns-in-Some : goal.returns-in-Some
returns-in-Some g c = opened_result g.G.Grid.geometry c.args.self.now.limits c.args.self.now.shape.now c.args.h c.args.wall.now c.args.holed c.in-Some.layers c.requires.holed c.in-Some.is c.holes_allowed.result c.holes_allowed.ensures
