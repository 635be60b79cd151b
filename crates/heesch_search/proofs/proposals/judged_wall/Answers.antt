use Rattle.std.proofs.Common.{◌≡◌, true, rules}
use Rattle.heesch_search.proofs.proposals.judged_wall.Goals as goal

pub returns-then-holds-clause-answer : goal.returns-then-holds-clause-answer
returns-then-holds-clause-answer g c =
    let is : c.in_ok-holds.holds ≡ true = search rules in
    c.in_ok-holds.ensures.answer is
