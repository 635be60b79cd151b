use Rattle.heesch_outer_check.proofs.Records.{readable, texts_determine}
use Rattle.heesch_outer_check.proofs.OneAnswer.{one_answer}
use Rattle.heesch_outer_check.proofs.laws.one_answer.Goals as goal

pub returns : goal.returns
returns c = one_answer texts_determine readable
