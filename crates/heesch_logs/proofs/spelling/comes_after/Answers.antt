use Rattle.std.proofs.Common.{◌≡◌, ◌∙◌, is_lt, sym, ap, subst}
use Rattle.std.specs.Prelude.{◌↔◌, IsTrue, Option, MatchOption}
use Rattle.heesch_grid.specs.Cells.{cells_before}
use Rattle.heesch_grid.proofs.OrderFacts.{cells_less}
use Rattle.heesch_place.specs.Universes.{Placed}
use Rattle.heesch_logs.proofs.spelling.comes_after.Goals as goal

pub returns-in-Some : goal.returns-in-Some
returns-in-Some g c =
    let before = c.in-Some.before in
    let place = c.args.place.now in
    let test : c.is_lt.result ≡ cells_before before.tile place.tile = c.is_lt.ensures ∙ (ap is_lt c.cmp.ensures ∙ (cells_less c.shape.result.now c.shape-in-Some.result.now ∙ (λ i. cells_before (c.shape.ensures i) (c.shape-in-Some.ensures i)))) in
    subst (λ (o : Option Placed). IsTrue c.is_lt.result ↔ MatchOption o (Unit {0}) (λ p. IsTrue (cells_before p.tile place.tile))) (sym c.in-Some.is) ((λ e. sym test ∙ e), (λ e. test ∙ e))
