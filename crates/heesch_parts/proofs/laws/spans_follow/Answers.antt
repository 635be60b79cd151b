use Rattle.heesch_parts.proofs.Spans.{spans_follow}
use Rattle.heesch_parts.proofs.laws.spans_follow.Goals as goal

pub returns : goal.returns
returns c = spans_follow
