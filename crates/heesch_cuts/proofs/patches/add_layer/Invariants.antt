use Rattle.std.proofs.Common.{◌≡◌, ◌++◌, All, take}
use Rattle.std.specs.List.{flat_map, enumerate_from}
use Rattle.heesch_grid.specs.Vectors.{IsWithin}
use Rattle.heesch_cuts.specs.Patches.{layer_cells}
use Rattle.heesch_cuts.proofs.patches.add_layer.Given as goal

abbrev pub invariant-loop-i : goal.invariant-loop-i
invariant-loop-i g l =
    (l.cells.items ≡ l.initial.cells.items ++ flat_map (layer_cells l.model l.level) (take l.i (enumerate_from 1 l.universe.vars)))
    × (All (IsWithin 1000000) l.initial.cells.items → All (IsWithin 1000000) l.cells.items)
