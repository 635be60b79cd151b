use Rattle.heesch_tiling.proofs.Answering.{answers_doubled, answers_missed, answers_exact}
use Rattle.heesch_tiling.proofs.check.answer.Goals as goal

pub returns-in-Some : goal.returns-in-Some
returns-in-Some g c = answers_doubled g.G.Grid.geometry g.met.G.Grid.laws c.args.triple c.args.counts.now c.in-Some.cell c.in-Some.ensures.found

pub returns-in-Some-first_amiss : goal.returns-in-Some-first_amiss
returns-in-Some-first_amiss g c = answers_missed g.G.Grid.geometry g.met.G.Grid.laws c.args.triple c.args.counts.now c.in_default.ensures.none c.in-Some-first_amiss.cell c.in-Some-first_amiss.ensures.found

pub returns : goal.returns
returns g c = answers_exact g.G.Grid.geometry g.met.G.Grid.laws c.args.triple c.args.counts.now c.in_default-first_amiss.ensures.none
