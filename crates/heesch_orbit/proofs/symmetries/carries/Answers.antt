use Rattle.heesch_orbit.proofs.Carrying.{no_step_carries, step_carries}
use Rattle.heesch_orbit.proofs.symmetries.carries.Goals as goal

pub returns-in_default : goal.returns-in_default
returns-in_default g c =
    no_step_carries g.G.Grid.geometry g.met.G.Grid.laws c.args.turned.now c.args.from c.args.to c.requires.from.turn c.args.triple c.args.by c.requires.turn c.compose.result c.compose.ensures c.in_default.ensures.none

pub returns : goal.returns
returns g c =
    step_carries g.G.Grid.geometry g.met.G.Grid.laws c.args.turned.now c.args.from c.args.to c.requires.from.turn c.args.triple c.args.by c.requires.turn c.compose.result c.compose.ensures
    c.turned_translation-moved.result c.in-Some.step c.left_over.result c.turned_translation-moved.ensures.is c.in-Some.ensures.some c.in-Some.ensures.only c.left_over.ensures.is c.has_vector.result c.has_vector.ensures
