use Rattle.heesch_orbit.proofs.Carrying.{no_step_takes, stepping_takes, stepping_only}
use Rattle.heesch_orbit.proofs.symmetries.taking.Goals as goal

pub returns-in_default-clause-none : goal.returns-in_default-clause-none
returns-in_default-clause-none g c = no_step_takes g.G.Grid.geometry g.met.G.Grid.laws c.args.turned.now c.args.from c.args.to c.requires.from.turn c.args.k c.requires.turn c.compose.result c.compose.ensures c.in_default.ensures.none

pub returns-clause-some : goal.returns-clause-some
returns-clause-some g c = stepping_takes g.G.Grid.geometry g.met.G.Grid.laws c.args.turned.now c.args.from c.args.to c.requires.from.turn c.args.k c.requires.turn c.compose.result c.compose.ensures c.turned_translation-moved.result c.in-Some.step c.turned_translation-moved.ensures.is c.stepping.result c.stepping.ensures.turn c.stepping.ensures.is c.in-Some.ensures.some

pub returns-clause-only : goal.returns-clause-only
returns-clause-only g c = stepping_only g.G.Grid.geometry g.met.G.Grid.laws c.args.turned.now c.args.from c.args.to c.requires.from.turn c.args.k c.requires.turn c.compose.result c.compose.ensures c.turned_translation-moved.result c.in-Some.step c.turned_translation-moved.ensures.is c.stepping.result c.stepping.ensures.turn c.stepping.ensures.is c.in-Some.ensures.only
