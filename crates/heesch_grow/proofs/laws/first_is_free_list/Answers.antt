use Rattle.heesch_grow.proofs.OneCell.{first_is_free_list}
use Rattle.heesch_grow.proofs.laws.first_is_free_list.Goals as goal

pub returns : goal.returns
returns c = first_is_free_list
