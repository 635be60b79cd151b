use Rattle.heesch_corona.proofs.Unique.{tiles_are_unique}
use Rattle.heesch_corona.proofs.laws.tiles_are_unique.Goals as goal

pub returns : goal.returns
returns c = tiles_are_unique
