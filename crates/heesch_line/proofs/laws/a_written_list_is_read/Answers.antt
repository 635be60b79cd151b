use Rattle.heesch_line.proofs.OneList.{written}
use Rattle.heesch_line.proofs.laws.a_written_list_is_read.Goals as goal

pub returns : goal.returns
returns c = written
