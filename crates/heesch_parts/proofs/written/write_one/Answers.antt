use Rattle.std.specs.Prelude.{All}
use Rattle.std.proofs.Common.{sym, subst}
use Rattle.heesch_grid.specs.Polyform.{IsCanonicalListOf}
use Rattle.heesch_catalogue.proofs.EntryLists.{free_are_canonical}
use Rattle.heesch_parts.proofs.written.write_one.Goals as goal

pub write_share_of-requires-clause-canonical : goal.write_share_of-requires-clause-canonical
write_share_of-requires-clause-canonical g c κs within =
    let geometry = g.G.Grid.geometry in
    let laws = (g.met.G.Grid g.world.𝓛 g.world.𝓜 g.world.𝓡 ((λ s x. x), (λ x. x), (λ x. x), λ x. x)).laws in
    subst (λ xs. All (λ s. IsCanonicalListOf geometry s s) xs) (sym c.deref.ensures.value)
    (free_are_canonical geometry laws c.args.n c.in_ok-shapes.shapes.items c.in_ok-shapes.ensures.free.only)
