use Rattle.heesch_reader.proofs.Finishing.{finished_or_short}
use Rattle.heesch_reader.proofs.laws.whole_texts_fall_not_short.Goals as goal

pub returns : goal.returns
returns c = finished_or_short
