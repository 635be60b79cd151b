use Rattle.std.proofs.Common.{sym, subst, ◌++◌}
use Rattle.std.proofs.lemmas.List.Elements.{All-append, All-same}
use Rattle.heesch_grid.specs.Vectors.{IsWithin}
use Rattle.heesch_shape.specs.Walks.{IsShape}
use Rattle.heesch_cuts.proofs.PatchCells.{shape_within}
use Rattle.heesch_cuts.proofs.patches.add_tile.Goals as goal

pub returns-in_ok-extend_from_slice-clause-within : goal.returns-in_ok-extend_from_slice-clause-within
returns-in_ok-extend_from_slice-clause-within g c =
    let tile = c.cells.result.now in
    let cells = c.args.cells.now.items in
    λ h. All-same (IsWithin 1000000) c.extend_from_slice.new.self.items (cells ++ tile) c.in_ok-extend_from_slice.ensures.items (All-append (IsWithin 1000000) cells tile h (shape_within g.G.Grid.geometry tile (subst (IsShape g.G.Grid.geometry) (sym c.cells.ensures.cells) c.cells.ensures.shape)))
