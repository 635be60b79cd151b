use Rattle.heesch_cnf.specs.declared.version.Version.TheVariants.{Two}
use Rattle.heesch_search.proofs.Saying.{says_wall}
use Rattle.heesch_search.proofs.walls.second_wall.Goals as goal

pub returns-in-None : goal.returns-in-None
returns-in-None g c =
    let a = c.args in
    let e = c.wall.ensures in
    says_wall Two g.G.Grid.geometry a.shape.now a.j a.turns a.size c.wall.result e.answer e.holes e.too_large e.at_once
