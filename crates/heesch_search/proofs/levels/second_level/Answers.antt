use Rattle.heesch_cnf.specs.declared.version.Version.TheVariants.{Two}
use Rattle.heesch_search.proofs.Saying.{says_level}
use Rattle.heesch_search.proofs.levels.second_level.Goals as goal

pub returns-in-None : goal.returns-in-None
returns-in-None g c =
    let a = c.args in
    let e = c.level_up_to.ensures in
    says_level Two g.G.Grid.geometry a.shape.now a.j a.turns a.size a.free_levels c.level_up_to.result e.answer e.too_large e.at_once
