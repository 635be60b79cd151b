use Rattle.heesch_reader.proofs.PartNames.{names_part}
use Rattle.heesch_reader.proofs.laws.parts_are_the_formats.Goals as goal

pub returns : goal.returns
returns c = names_part
