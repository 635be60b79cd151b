use Rattle.heesch_written.proofs.Shapes.{shapes_are_near}
use Rattle.heesch_written.proofs.laws.shapes_are_near.Goals as goal

pub returns : goal.returns
returns c = shapes_are_near
