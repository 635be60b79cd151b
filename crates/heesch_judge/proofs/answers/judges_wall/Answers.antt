use Rattle.std.proofs.Common.{◌≡◌, ◌∙◌, Bool, false, rules, subst, sym, true, true≢false}
use Rattle.std.specs.Prelude.{◌↔◌, IsTrue, IfOk}
use Rattle.std.proofs.lemmas.Result.{IfOk-weaker}
use Rattle.heesch_levels.specs.declared.answer.WallAnswer.{WallAnswer}
use Rattle.heesch_judge.specs.Judged.{IsJudgedWall}
use Rattle.heesch_logs.proofs.Equal.{refused}
use Rattle.heesch_judge.proofs.answers.judges_wall.Goals as goal

pub returns-in-Coronas : goal.returns-in-Coronas
returns-in-Coronas g c =
    let a = c.args in
    subst (λ (answer : WallAnswer). IfOk c.are_layers.result (λ (yes : Bool). IsTrue yes ↔ IsJudgedWall g.G.Grid.geometry a.shape.now a.source.now a.level a.turns answer)) (sym c.in-Coronas.is) c.are_layers.ensures

pub returns-else-not-has_no_cut : goal.returns-else-not-has_no_cut
returns-else-not-has_no_cut g c =
    let a = c.args in
    let no_cut : c.has_no_cut.result ≡ true = search rules in
    subst (λ (answer : WallAnswer). IfOk c.is_refutation.result (λ (yes : Bool). IsTrue yes ↔ IsJudgedWall g.G.Grid.geometry a.shape.now a.source.now a.level a.turns answer)) (sym c.in-Refuted.is)
    (IfOk-weaker c.is_refutation.result _ _ (λ told is. ((λ t. (c.has_no_cut.ensures.0 no_cut, is.0 t)), (λ judged. is.1 judged.1))) c.is_refutation.ensures)

pub returns-then-not-spelled : goal.returns-then-not-spelled
returns-then-not-spelled g c =
    let a = c.args in
    let fails : c.in_ok-spelled-in-Holed.spelled ≡ false = search rules in
    subst (λ (answer : WallAnswer). IsTrue false ↔ IsJudgedWall g.G.Grid.geometry a.shape.now a.source.now a.level a.turns answer) (sym c.in-Holed.is)
    (refused (λ judged. true≢false (sym (c.in_ok-spelled-in-Holed.ensures.1 judged.0) ∙ fails)))

pub returns-else-not-spelled : goal.returns-else-not-spelled
returns-else-not-spelled g c =
    let a = c.args in
    let spelled : c.in_ok-spelled-in-Holed.spelled ≡ true = search rules in
    subst (λ (answer : WallAnswer). IfOk c.is_refutation-in-Holed.result (λ (yes : Bool). IsTrue yes ↔ IsJudgedWall g.G.Grid.geometry a.shape.now a.source.now a.level a.turns answer)) (sym c.in-Holed.is)
    (IfOk-weaker c.is_refutation-in-Holed.result _ _ (λ told is. ((λ t. (c.in_ok-spelled-in-Holed.ensures.0 spelled, is.0 t)), (λ judged. is.1 judged.1))) c.is_refutation-in-Holed.ensures)

pub returns-in-Spent : goal.returns-in-Spent
returns-in-Spent g c =
    let a = c.args in
    subst (λ (answer : WallAnswer). IfOk c.is_spent_up_to.result (λ (yes : Bool). IsTrue yes ↔ IsJudgedWall g.G.Grid.geometry a.shape.now a.source.now a.level a.turns answer)) (sym c.in-Spent.is) c.is_spent_up_to.ensures.judged
