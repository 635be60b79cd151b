use Rattle.heesch_line.proofs.LinesAgain.{words_tell}
use Rattle.heesch_line.proofs.laws.words_tell_the_line.Goals as goal

pub returns : goal.returns
returns c = words_tell
