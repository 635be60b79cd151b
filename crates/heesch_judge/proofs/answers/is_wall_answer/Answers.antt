use Rattle.std.proofs.Common.{◌≡◌, ◌≤◌, ◌∙◌, Bool, ap, subst}
use Rattle.std.specs.Prelude.{◌↔◌, IsTrue, IfOk}
use Rattle.std.proofs.lemmas.Result.{IfOk-weaker}
use Rattle.heesch_place.specs.Universes.{Levels}
use Rattle.heesch_judge.specs.Judged.{IsJudgedWall}
use Rattle.heesch_judge.proofs.Judging.{wall_holes, wall_named, wall_right}
use Rattle.heesch_judge.proofs.answers.is_wall_answer.Goals as goal

pub returns : goal.returns
returns g c =
    let geometry = g.G.Grid.geometry in
    let law = g.met.G.Grid.laws in
    let form = c.cells-cells.ensures.shape.polyform in
    let shape = c.args.shape.now in
    let s = c.args.source.now in
    let answer = c.args.answer.now in
    let some : 1 ≤ s.universe.level = subst (λ (u : Levels). 1 ≤ u.level) c.universe.ensures c.level-level.ensures.range.0 in
    let same : c.level-level.result ≡ s.universe.level = c.level-level.ensures.level ∙ ap (λ (u : Levels). u.level) c.universe.ensures in
    let judged : IfOk c.judges_wall.result (λ (yes : Bool). IsTrue yes ↔ IsJudgedWall geometry shape s s.universe.level c.args.turns answer)
    = subst (λ n. IfOk c.judges_wall.result (λ (yes : Bool). IsTrue yes ↔ IsJudgedWall geometry shape s n c.args.turns answer)) same c.judges_wall.ensures in
    record {
      judged = judged;
      answer = IfOk-weaker c.judges_wall.result _ _ (λ told is t size fits. wall_right geometry law shape form s c.requires.source some c.args.turns answer (is.0 t) size fits) judged;
      holes = IfOk-weaker c.judges_wall.result _ _ (λ told is t. wall_holes geometry law shape form s c.requires.source some c.args.turns answer (is.0 t)) judged;
      at_once = IfOk-weaker c.judges_wall.result _ _ (λ told is t. wall_named geometry law shape form s c.requires.source some c.args.turns s.universe.level answer (is.0 t)) judged;
    }
