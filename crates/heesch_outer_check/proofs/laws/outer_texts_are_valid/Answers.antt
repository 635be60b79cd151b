use Rattle.heesch_outer_check.proofs.Written.{written_is_valid}
use Rattle.heesch_outer_check.proofs.laws.outer_texts_are_valid.Goals as goal

pub returns : goal.returns
returns c = λ header es limits good all. written_is_valid header limits es good all
