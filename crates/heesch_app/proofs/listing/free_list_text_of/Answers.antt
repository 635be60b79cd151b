use Rattle.std.specs.Prelude.{IsTrue}
use Rattle.std.proofs.Common.{sym, subst}
use Rattle.std.proofs.lemmas.Result.{IfOk-weaker}
use Rattle.heesch_grid.specs.Polyform.{IsFreeList}
use Rattle.heesch_grow.proofs.Small.{free_lists_pass}
use Rattle.heesch_listing.specs.Parts.{are_small}
use Rattle.heesch_app.proofs.listing.free_list_text_of.Goals as goal

pub returns-in-Cells : goal.returns-in-Cells
returns-in-Cells g c =
    let free = subst (IsFreeList g.G.Grid.geometry c.args.n) (sym c.deref.ensures.value) c.in_ok-shapes.ensures.free in
    rw c.in-Cells.is (IfOk-weaker c.text_of.result _ _ (λ text is. (c.deref.result.now, free, is)) c.text_of.ensures)

pub tilings_of-requires-clause-small : goal.tilings_of-requires-clause-small
tilings_of-requires-clause-small g c κs within =
    let laws = (g.met.G.Grid g.world.𝓛 g.world.𝓜 g.world.𝓡 ((λ s x. x), (λ x. x), (λ x. x), λ x. x)).laws in
    subst (λ xs. IsTrue (are_small xs)) (sym c.deref-in-Tilings.ensures.value) (free_lists_pass g.G.Grid.geometry laws c.args.n c.requires.size.1 c.in_ok-shapes.shapes.items c.in_ok-shapes.ensures.free.only)
