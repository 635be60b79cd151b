use Rattle.std.proofs.Common.{ℕ, ◌<◌, get_or}
use Rattle.heesch_grid.specs.declared.Cell.{Cell}
use Rattle.heesch_grid.specs.Vectors.{IsWithin}
use Rattle.heesch_geometry_tests.proofs.tests.made.are_within.Given as goal

abbrev pub invariant-loop-c : goal.invariant-loop-c
invariant-loop-c l = (k : ℕ) (d : Cell) → k < l.c-index → IsWithin 100000 (get_or l.cells k d)
