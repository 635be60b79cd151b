use Rattle.heesch_periods.proofs.numbers.pair_number.Goals as goal

pub returns-in-Some : goal.returns-in-Some
returns-in-Some g c = λ low high inside. c.in-Some.ensures.1

pub returns-in-None : goal.returns-in-None
returns-in-None g c = λ low high inside. absurd (c.in-None.ensures inside)
