use Rattle.std.proofs.Common.{All, List, sym, subst}
use Rattle.std.proofs.lemmas.List.Elements.{All-push}
use Rattle.heesch_grid.specs.declared.Cell.{Cell}
use Rattle.heesch_grid.specs.Polyform.{IsCanonicalListOf}
use Rattle.heesch_command_tests.proofs.tests.catalogue.single_cells.Goals as goal

pub loop-preserved : goal.loop-preserved
loop-preserved g c =
    subst (λ (shapes : List (List Cell)). All (λ s. IsCanonicalListOf g.G.Grid.geometry s s) shapes) (sym c.in_ok-push.ensures.items)
    (All-push (λ s. IsCanonicalListOf g.G.Grid.geometry s s) c.loop.shapes.items c.in_ok-shape.shape c.loop.invariant c.in_ok-shape.ensures.canonical)
