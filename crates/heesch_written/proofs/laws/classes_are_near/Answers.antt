use Rattle.heesch_written.proofs.Classes.{classes_are_near}
use Rattle.heesch_written.proofs.laws.classes_are_near.Goals as goal

pub returns : goal.returns
returns c = classes_are_near
