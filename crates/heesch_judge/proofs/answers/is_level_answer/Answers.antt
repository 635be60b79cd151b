use Rattle.std.proofs.Common.{◌≤◌, ap, subst}
use Rattle.std.proofs.lemmas.Result.{IfOk-weaker}
use Rattle.heesch_place.specs.Universes.{Levels}
use Rattle.heesch_judge.proofs.Judging.{level_named, level_right}
use Rattle.heesch_judge.proofs.answers.is_level_answer.Goals as goal

pub returns : goal.returns
returns g c =
    let geometry = g.G.Grid.geometry in
    let law = g.met.G.Grid.laws in
    let form = c.cells-cells.ensures.shape.polyform in
    let s = c.args.source.now in
    let some : 1 ≤ s.universe.level = subst (λ (u : Levels). 1 ≤ u.level) c.universe.ensures c.level-level.ensures.range.0 in
    record {
      judged = c.judges_level.ensures;
      answer = IfOk-weaker c.judges_level.result _ _ (λ told judged t size fits. level_right geometry law c.args.shape.now form s c.requires.source some c.args.turns c.args.free_levels c.args.answer.now (judged.0 t) size fits) c.judges_level.ensures;
      at_once = IfOk-weaker c.judges_level.result _ _ (λ told judged t. level_named geometry law c.args.shape.now form s c.requires.source some c.args.turns c.args.free_levels c.args.answer.now (judged.0 t)) c.judges_level.ensures;
    }
