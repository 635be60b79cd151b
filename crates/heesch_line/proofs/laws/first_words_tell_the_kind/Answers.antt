use Rattle.heesch_line.proofs.FirstWords.{begins_shape, begins_end}
use Rattle.heesch_line.proofs.laws.first_words_tell_the_kind.Goals as goal

pub returns-clause-shape : goal.returns-clause-shape
returns-clause-shape c = begins_shape

pub returns-clause-end : goal.returns-clause-end
returns-clause-end c = begins_end
