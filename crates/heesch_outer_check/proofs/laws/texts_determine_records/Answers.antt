use Rattle.heesch_outer_check.proofs.Records.{texts_determine}
use Rattle.heesch_outer_check.proofs.laws.texts_determine_records.Goals as goal

pub returns : goal.returns
returns c = texts_determine
