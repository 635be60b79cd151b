use Rattle.std.proofs.Common.{Bool, subst, sym}
use Rattle.std.specs.Prelude.{◌↔◌, IsTrue, IfOk}
use Rattle.heesch_levels.specs.declared.answer.LevelAnswer.{LevelAnswer}
use Rattle.heesch_judge.specs.Judged.{IsJudgedLevel}
use Rattle.heesch_judge.proofs.answers.judges_level.Goals as goal

pub returns-in-Coronas : goal.returns-in-Coronas
returns-in-Coronas g c =
    let a = c.args in
    subst (λ (answer : LevelAnswer). IfOk c.are_layers.result (λ (yes : Bool). IsTrue yes ↔ IsJudgedLevel g.G.Grid.geometry a.shape.now a.source.now a.free_levels a.turns answer)) (sym c.in-Coronas.is) c.are_layers.ensures

pub returns-in-Refuted : goal.returns-in-Refuted
returns-in-Refuted g c =
    let a = c.args in
    subst (λ (answer : LevelAnswer). IfOk c.is_refutation.result (λ (yes : Bool). IsTrue yes ↔ IsJudgedLevel g.G.Grid.geometry a.shape.now a.source.now a.free_levels a.turns answer)) (sym c.in-Refuted.is) c.is_refutation.ensures

pub returns-in-Spent : goal.returns-in-Spent
returns-in-Spent g c =
    let a = c.args in
    subst (λ (answer : LevelAnswer). IfOk c.is_spent_up_to.result (λ (yes : Bool). IsTrue yes ↔ IsJudgedLevel g.G.Grid.geometry a.shape.now a.source.now a.free_levels a.turns answer)) (sym c.in-Spent.is) c.is_spent_up_to.ensures.judged
