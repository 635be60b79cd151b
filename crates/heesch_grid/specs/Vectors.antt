-- Sums, differences and multiples of pairs, and pairs near 0.
use Rattle.std.specs.Prelude.{◌≡◌, ℕ, zero, suc, List, [], ◌∷◌, ◌++◌, ℤ, pos, ◌+ℤ◌, ◌-ℤ◌, ◌*ℤ◌, ◌≤ℤ◌, neg_ℤ}
use Rattle.heesch_grid.specs.declared.Cell.{Cell}
use Rattle.heesch_grid.specs.Cells.{cell}

-- the sum, the difference, a multiple and the negative of pairs
abbrev pub plus : Cell → Cell → Cell
plus c d = record { a = c.a +ℤ d.a; b = c.b +ℤ d.b }

abbrev pub minus : Cell → Cell → Cell
minus c d = record { a = c.a -ℤ d.a; b = c.b -ℤ d.b }

abbrev pub times : ℕ → Cell → Cell
times n c = record { a = pos n *ℤ c.a; b = pos n *ℤ c.b }

abbrev pub negated : Cell → Cell
negated c = record { a = neg_ℤ c.a; b = neg_ℤ c.b }

-- both coordinates lie within n of 0
pub record IsWithin (n : ℕ) (c : Cell) : Type 0 where
  pub a_low : neg_ℤ (pos n) ≤ℤ c.a
  pub a_high : c.a ≤ℤ pos n
  pub b_low : neg_ℤ (pos n) ≤ℤ c.b
  pub b_high : c.b ≤ℤ pos n

-- so many units in each coordinate are this pair
pub record AreUnitsOf (unit : ℤ) (units c : Cell) : Type 0 where
  pub in_a : unit *ℤ units.a ≡ c.a
  pub in_b : unit *ℤ units.b ≡ c.b

-- `wide` pairs of row b, from a on
abbrev pub row_from : ℕ → ℕ → ℤ → List Cell
row_from a zero b = []
row_from a (suc wide) b = cell (pos a) b ∷ row_from (suc a) wide b

-- `high` such rows from row b on, in cell order
abbrev pub box_from : ℕ → ℕ → ℕ → List Cell
box_from wide b zero = []
box_from wide b (suc high) = row_from 0 wide (pos b) ++ box_from wide (suc b) high

-- and so the pairs with 0 <= a < wide and 0 <= b < high
abbrev pub box_of : ℕ → ℕ → List Cell
box_of wide high = box_from wide 0 high
