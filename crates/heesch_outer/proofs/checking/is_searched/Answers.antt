use Rattle.std.proofs.Common.{sym, subst}
use Rattle.std.specs.Prelude.{IfOk, IsTrue, ◌↔◌}
use Rattle.heesch_outer.specs.Answer.{IsSearched}
use Rattle.heesch_outer.proofs.checking.is_searched.Goals as goal

pub returns-in-More : goal.returns-in-More
returns-in-More g c =
    let a = c.args in
    subst (λ answer. IfOk c.are_outer.result (λ yes. IsTrue yes ↔ IsSearched g.G.Grid.geometry a.limits a.shape.now a.h answer)) (sym c.in-More.is) c.are_outer.ensures

pub returns-in-Same : goal.returns-in-Same
returns-in-Same g c =
    let a = c.args in
    subst (λ answer. IfOk c.is_ended_outer.result (λ yes. IsTrue yes ↔ IsSearched g.G.Grid.geometry a.limits a.shape.now a.h answer)) (sym c.in-Same.is) c.is_ended_outer.ensures

pub returns-in-Spent : goal.returns-in-Spent
returns-in-Spent g c =
    let a = c.args in
    subst (λ answer. IfOk c.is_ended_outer-in-Spent.result (λ yes. IsTrue yes ↔ IsSearched g.G.Grid.geometry a.limits a.shape.now a.h answer)) (sym c.in-Spent.is) c.is_ended_outer-in-Spent.ensures
