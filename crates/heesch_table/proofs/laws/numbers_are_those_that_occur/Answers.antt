use Rattle.heesch_table.proofs.HeeschFacts.{numbers_are_those_that_occur}
use Rattle.heesch_table.proofs.laws.numbers_are_those_that_occur.Goals as goal

pub returns : goal.returns
returns c = numbers_are_those_that_occur
