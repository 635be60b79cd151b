-- Lists of cells from which shapes are grown.
use Rattle.std.specs.Prelude.{◌≤◌, Bool, ◌&&◌, nat_le, List, length, All}
use Rattle.std.specs.List.{list_all}
use Rattle.heesch_grid.specs.declared.Cell.{Cell}
use Rattle.heesch_grid.specs.Pattern.{within_test}
use Rattle.heesch_grid.specs.Vectors.{IsWithin}

-- the list has at most 31 cells, each within 100,000 of 0, as the canonical lists of at most 31 cells do
pub record IsSmall (cells : List Cell) : Type 0 where
  pub few : length cells ≤ 31
  pub near : All (IsWithin 100000) cells

-- whether it does
abbrev pub is_small : List Cell → Bool
is_small cells = nat_le (length cells) 31 && list_all (within_test 100000) cells
