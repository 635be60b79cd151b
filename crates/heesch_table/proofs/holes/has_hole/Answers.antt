use Rattle.std.proofs.Common.{List, sym, subst, ◌∙◌}
use Rattle.std.specs.Prelude.{is_some}
use Rattle.heesch_grid.specs.declared.Cell.{Cell}
use Rattle.heesch_shape.specs.Walks.{IsShape}
use Rattle.heesch_table.specs.Holed.{IsHoled}
use Rattle.heesch_table.proofs.HoleFacts.{cells_close, holed_by_search}
use Rattle.heesch_table.proofs.holes.has_hole.Goals as goal

pub from_cells-requires-clause-together : goal.from_cells-requires-clause-together
from_cells-requires-clause-together g c =
    let geometry = g.G.Grid.geometry in
    cells_close geometry g.met.G.Grid.laws c.cells.result.now (subst (IsShape geometry) (sym c.cells.ensures.cells) c.cells.ensures.shape)

pub returns : goal.returns
returns g c =
    let geometry = g.G.Grid.geometry in
    let same = c.in_ok-region.ensures ∙ c.cells.ensures.cells in
    let found = holed_by_search geometry c.in_ok-region.region c.in_ok-hole.hole c.in_ok-hole.ensures in
    subst (λ answer. IsHoled geometry c.args.shape.now answer) (sym c.is_some.ensures)
    (subst (λ (cells : List Cell). IsHoled geometry cells (is_some c.in_ok-hole.hole)) same found)
