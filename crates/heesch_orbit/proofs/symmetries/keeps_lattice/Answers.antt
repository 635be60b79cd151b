use Rattle.heesch_orbit.proofs.Carrying.{first_decides, second_decides}
use Rattle.heesch_orbit.proofs.symmetries.keeps_lattice.Goals as goal

pub returns-then-carries_places : goal.returns-then-carries_places
returns-then-carries_places g c =
    second_decides g.G.Grid.geometry c.args.turned.now c.args.triple c.args.places.now c.args.k c.turned_shift-first.result c.first_vector.result c.turned_shift-first.ensures.is c.first_vector.ensures.is (c.carries_places.ensures.0 c.if-carries_places.true)
    c.turned_shift-second.result c.second_vector.result c.turned_shift-second.ensures.is c.second_vector.ensures.is c.carries_places-then-carries_places.result c.carries_places-then-carries_places.ensures

pub returns-else-carries_places : goal.returns-else-carries_places
returns-else-carries_places g c = first_decides g.G.Grid.geometry c.args.turned.now c.args.triple c.args.places.now c.args.k c.turned_shift-first.result c.first_vector.result c.turned_shift-first.ensures.is c.first_vector.ensures.is c.carries_places.result c.if-carries_places.false c.carries_places.ensures
