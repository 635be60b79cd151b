-- Placements of the levels 1 to 6 lie near 0.
use Rattle.std.proofs.Common.{ℕ, ◌+◌, ◌*◌, ◌≤◌, List, Contains, arith}
use Rattle.std.proofs.lemmas.Int.{ints}
use Rattle.heesch_grid.specs.declared.Cell.{Cell}
use Rattle.heesch_grid.specs.Geometry.{Geometry, IsGrid}
use Rattle.heesch_grid.specs.CoronaFormula.{IsAtLevel}
use Rattle.heesch_grid.specs.Vectors.{IsWithin}
use Rattle.heesch_cuts.proofs.Nearby.{AreNear, level_near}
use Rattle.heesch_grid.proofs.Images.{wider}
use Rattle.heesch_written.proofs.Shapes.{IsNearShape}

-- a cell near one within m of 0
beside : (n m : ℕ) (c d : Cell) → AreNear n c d → IsWithin m c → IsWithin (m + n) d
beside n m c d h w = record {
  a_low = omega (arith, ints, w.a_low, h.a_down);
  a_high = omega (arith, ints, w.a_high, h.a_up);
  b_low = omega (arith, ints, w.b_low, h.b_down);
  b_high = omega (arith, ints, w.b_high, h.b_up);
}

pub level_within : (g : Geometry) → IsGrid g → (shape : List Cell) → IsNearShape g shape → (k : ℕ) (tile : List Cell) → k ≤ 6 → IsAtLevel g shape k tile → (c : Cell) → Contains tile c → IsWithin 1200 c
level_within g law shape s k tile few at c m =
    wider (200 + (131 + 135 * k)) 1200 c (omega arith) (beside (131 + 135 * k) 200 s.base c (level_near g law shape s.polyform s.few k tile at s.base c s.inside m) (s.near s.base s.inside))
