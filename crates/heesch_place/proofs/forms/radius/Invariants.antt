use Rattle.std.proofs.Common.{◌≡◌, ◌≤◌, true, take}
use Rattle.std.specs.Prelude.{ℕ}
use Rattle.heesch_grid.specs.declared.Cell.{Cell}
use Rattle.heesch_grid.specs.Cells.{has}
use Rattle.heesch_grid.specs.Vectors.{IsWithin}
use Rattle.heesch_place.proofs.forms.radius.Given as goal

abbrev pub invariant-loop-c : goal.invariant-loop-c
invariant-loop-c l = record {
  within : (c : Cell) → has (take l.c-index l.cells) c ≡ true → IsWithin l.radius c;
  bound : (n : ℕ) → ((c : Cell) → has l.cells c ≡ true → IsWithin n c) → l.radius ≤ n;
}
