use Rattle.std.proofs.Common.{◌≤◌, ap, ◌∙◌, sym, subst}
use Rattle.std.specs.Prelude.{IfOk, IsTrue, ◌↔◌}
use Rattle.heesch_grid.specs.Clauses.{formula_size}
use Rattle.heesch_place.specs.Universes.{Levels}
use Rattle.heesch_numbers.specs.Common.{common_of}
use Rattle.heesch_numbers.proofs.common.CommonClauses.fits.Goals as goal

pub are_within-requires-clause-first : goal.are_within-requires-clause-first
are_within-requires-clause-first g c = λ around gives.
    c.deref.ensures.value ∙ c.self.invariant.first_is around gives ∙ ap (λ (w : Levels). around w.shape) (c.self.view_is ∙ sym c.plan-plan.ensures.universe)

pub returns : goal.returns
returns g c = λ around gives.
    subst (λ (w : Levels). IfOk c.are_within.result (λ yes. IsTrue yes ↔ (formula_size (common_of g.G.Grid.geometry around w) ≤ c.args.room))) c.plan-plan.ensures.universe (c.are_within.ensures around gives)
