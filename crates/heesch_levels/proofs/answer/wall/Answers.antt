use Rattle.std.proofs.lemmas.Result.{IfOk-weaker}
use Rattle.heesch_levels.specs.Searching.{IsUnder}
use Rattle.heesch_levels.proofs.LevelFacts.{at_some, fits_under}
use Rattle.heesch_levels.proofs.answer.wall.Goals as goal

pub returns-in-Some : goal.returns-in-Some
returns-in-Some g c =
    let a = c.args in
    let d = c.in-Some.ended in
    let under : IsUnder a.version g.G.Grid.geometry a.shape.now a.j a.j a.turns a.size d.asked.universe d.asked.free_levels d.search = at_some _ _ _ c.in-Some.is c.in_ok-ended.ensures.under in
    let all = c.into_wall.ensures.answer a.version a.shape.now a.j a.turns a.size under in
    let none = fits_under a.version g.G.Grid.geometry g.met.G.Grid.laws a.shape.now a.j a.j a.turns a.size d.asked.universe d.asked.free_levels d.search d.ending (at_some _ _ _ c.in-Some.is c.in_ok-ended.ensures.ended) under in
    record {
      answer = IfOk-weaker c.into_wall.result _ _ (λ answer says. says.0) all;
      holes = IfOk-weaker c.into_wall.result _ _ (λ answer says. says.2) all;
      too_large = IfOk-weaker c.into_wall.result _ _ (λ answer says large. absurd (none large)) all;
      at_once = IfOk-weaker c.into_wall.result _ _ (λ answer says other. says.1) all;
    }
