use Rattle.std.proofs.Common.{subst}
use Rattle.std.proofs.lemmas.Result.{IfOk-weaker}
use Rattle.heesch_levels.specs.Answer.{IsLevelAnswer}
use Rattle.heesch_levels.specs.UpTo.{IsAnswerUpTo}
use Rattle.heesch_levels.proofs.UpToFacts.{level_answer_of}
use Rattle.heesch_search.proofs.levels.level.Goals as goal

pub returns-clause-answer : goal.returns-clause-answer
returns-clause-answer g c =
    let geometry = g.G.Grid.geometry in
    let a = c.args in
    let form = c.cells-cells.ensures.shape.polyform in
    IfOk-weaker c.level_up_to.result (IsAnswerUpTo a.version geometry a.shape.now a.j c.levels_without_holes-free_levels.result a.turns a.size) (IsLevelAnswer a.version geometry a.shape.now a.j a.hole_free a.turns a.size)
    (λ answer says. level_answer_of geometry a.shape.now a.j a.hole_free a.version g.met.G.Grid.laws form c.requires.level.0 a.turns a.size answer
    (subst (λ k. IsAnswerUpTo a.version geometry a.shape.now a.j k a.turns a.size answer) c.levels_without_holes-free_levels.ensures says))
    c.level_up_to.ensures.answer
