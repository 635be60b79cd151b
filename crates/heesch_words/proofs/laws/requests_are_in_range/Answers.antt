use Rattle.heesch_words.proofs.Ranges.{asked_in_range}
use Rattle.heesch_words.proofs.laws.requests_are_in_range.Goals as goal

pub returns : goal.returns
returns c = asked_in_range
