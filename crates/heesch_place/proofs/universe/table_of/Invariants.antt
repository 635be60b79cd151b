use Rattle.std.proofs.Common.{◌≡◌, map, take, All}
use Rattle.heesch_grid.specs.Cells.{cell_before}
use Rattle.heesch_grid.specs.Listing.{IsRising}
use Rattle.heesch_place.proofs.universe.table_of.Given as goal

abbrev pub invariant-loop-entry : goal.invariant-loop-entry
invariant-loop-entry g l = record {
  same : l.sets ≡ map (λ e. e.place.tile) (take l.entry-index l.entries);
  rising : All (IsRising cell_before) l.sets;
}
