use Rattle.std.proofs.Common.{sym, subst}
use Rattle.std.specs.Prelude.{IfOk}
use Rattle.std.proofs.lemmas.Result.{IfOk-weaker}
use Rattle.heesch_cnf.specs.declared.version.Version.{Version}
use Rattle.heesch_search.specs.Said.{SaysWall}
use Rattle.heesch_search.proofs.walls.wall.Goals as goal

pub returns-in-Two : goal.returns-in-Two
returns-in-Two g c =
    let a = c.args in
    let says = subst (λ (v : Version). IfOk c.second_wall.result (SaysWall v g.G.Grid.geometry a.shape.now a.j a.turns a.size)) (sym c.in-Two.is) c.second_wall.ensures in
    record {
      answer = IfOk-weaker c.second_wall.result _ _ (λ answer s. s.right) says;
      holes = IfOk-weaker c.second_wall.result _ _ (λ answer s. s.holes) says;
      too_large = IfOk-weaker c.second_wall.result _ _ (λ answer s. s.too_large) says;
      at_once = IfOk-weaker c.second_wall.result _ _ (λ answer s. s.at_once) says;
    }
