-- Boxes of pairs.
use Rattle.std.specs.Prelude.{◌≤ℤ◌}
use Rattle.heesch_grid.specs.declared.Cell.{Cell}

-- each coordinate of c lies between those of low and high
pub record IsBetween (low high c : Cell) : Type 0 where
  pub a_from : low.a ≤ℤ c.a
  pub a_to : c.a ≤ℤ high.a
  pub b_from : low.b ≤ℤ c.b
  pub b_to : c.b ≤ℤ high.b
