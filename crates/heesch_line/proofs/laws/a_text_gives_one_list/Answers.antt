use Rattle.heesch_line.proofs.OneList.{one_list}
use Rattle.heesch_line.proofs.laws.a_text_gives_one_list.Goals as goal

pub returns : goal.returns
returns c = one_list
