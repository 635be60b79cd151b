use Rattle.heesch_parts.proofs.Spans.{shares_are_the_list}
use Rattle.heesch_parts.proofs.laws.shares_are_the_list.Goals as goal

pub returns : goal.returns
returns c = λ k shapes some. shares_are_the_list k shapes some
