-- Corners with cells between them, and sets of cells by a mark for each cell between two corners.
use Rattle.std.specs.Prelude.{◌≡◌, ℕ, ◌+◌, ◌*◌, ◌-ℤ◌, ◌≤ℤ◌, nat_abs, int_le, Bool, true, false, ◌&&◌, List, slice_index_or}
use Rattle.heesch_grid.specs.declared.Cell.{Cell}
use Rattle.heesch_grid.specs.Cells.{has}

-- both coordinates lie between those of the two corners, which count
pub record IsBetween (low high c : Cell) : Type 0 where
  pub a_low : low.a ≤ℤ c.a
  pub a_high : c.a ≤ℤ high.a
  pub b_low : low.b ≤ℤ c.b
  pub b_high : c.b ≤ℤ high.b

-- the same, as a test
abbrev pub is_between : Cell → Cell → Cell → Bool
is_between low high c =
    (int_le low.a c.a && int_le c.a high.a) && (int_le low.b c.b && int_le c.b high.b)

-- the new corners have between them what lies between the old ones, and some cells, and are the least that do
pub record Span (low high : Cell) (cells : List Cell) (new_low new_high : Cell) : Type 0 where
  pub old : (c : Cell) → IsBetween low high c → IsBetween new_low new_high c
  pub new : (c : Cell) → has cells c ≡ true → IsBetween new_low new_high c
  pub least : (from to : Cell) → IsBetween from to low → IsBetween from to high → ((c : Cell) → has cells c ≡ true → IsBetween from to c) → IsBetween from to new_low × IsBetween from to new_high

-- the place of a cell, row by row from `low` on, where a row has `wide` cells
abbrev pub place_from : Cell → ℕ → Cell → ℕ
place_from low wide c = nat_abs (c.b -ℤ low.b) * wide + nat_abs (c.a -ℤ low.a)

-- a set of cells between two corners: the marks stand row by row, and a row has `wide` cells
pub record Marked : Type 0 where
  pub low : Cell
  pub high : Cell
  pub wide : ℕ
  pub marks : List Bool

-- whether the set has the cell
abbrev pub is_marked : Marked → Cell → Bool
is_marked m c =
    is_between m.low m.high c && slice_index_or m.marks (place_from m.low m.wide c) false
