use Rattle.std.proofs.Common.{sym, subst}
use Rattle.std.specs.Prelude.{IfOk}
use Rattle.std.proofs.lemmas.Result.{IfOk-weaker}
use Rattle.heesch_cnf.specs.declared.version.Version.{Version}
use Rattle.heesch_search.specs.Said.{SaysLevel}
use Rattle.heesch_search.proofs.levels.level_up_to.Goals as goal

pub returns-in-Two : goal.returns-in-Two
returns-in-Two g c =
    let a = c.args in
    let says = subst (λ (v : Version). IfOk c.second_level.result (SaysLevel v g.G.Grid.geometry a.shape.now a.j a.free_levels a.turns a.size)) (sym c.in-Two.is) c.second_level.ensures in
    record {
      answer = IfOk-weaker c.second_level.result _ _ (λ answer s. s.right) says;
      too_large = IfOk-weaker c.second_level.result _ _ (λ answer s. s.too_large) says;
      at_once = IfOk-weaker c.second_level.result _ _ (λ answer s. s.at_once) says;
    }
