use Rattle.heesch_line.proofs.Newlines.{no_newline}
use Rattle.heesch_line.proofs.laws.words_have_no_newline.Goals as goal

pub returns : goal.returns
returns c = no_newline
