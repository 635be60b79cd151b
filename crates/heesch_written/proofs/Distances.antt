-- Pairs within bounds, and the translations that lead from one to another.
use Rattle.std.proofs.Common.{ℕ, ◌+◌, ◌*◌, ◌≤◌, ℤ, pos, neg_ℤ, ◌+ℤ◌, ◌*ℤ◌, ◌≤ℤ◌, arith}
use Rattle.std.proofs.lemmas.Int.{ints}
use Rattle.heesch_grid.specs.declared.Cell.{Cell}
use Rattle.heesch_grid.specs.declared.isometries.Iso.{Iso}
use Rattle.heesch_grid.specs.Cells.{cell}
use Rattle.heesch_grid.specs.Geometry.{Geometry, IsGrid, IsIsometry, apply}
use Rattle.heesch_grid.specs.Vectors.{IsWithin}
use Rattle.heesch_grid.proofs.Images.{turn_within}
use Rattle.heesch_shape.proofs.Near.{factor_near}

-- what leads from one number to another, in steps of at least 1
step_near : (n m k : ℕ) (x q : ℤ) → 1 ≤ n → neg_ℤ (pos m) ≤ℤ x → x ≤ℤ pos m → neg_ℤ (pos k) ≤ℤ (x +ℤ pos n *ℤ q) → (x +ℤ pos n *ℤ q) ≤ℤ pos k → (neg_ℤ (pos (m + k)) ≤ℤ q) × (q ≤ℤ pos (m + k))
step_near n m k x q low xl xh yl yh = factor_near n (m + k) q low (below (pos n *ℤ q) yl) (above (pos n *ℤ q) yh)
  where
    below : (p : ℤ) → neg_ℤ (pos k) ≤ℤ (x +ℤ p) → neg_ℤ (pos (m + k)) ≤ℤ p
    below p h = omega (arith, ints, h, xh)

    above : (p : ℤ) → (x +ℤ p) ≤ℤ pos k → p ≤ℤ pos (m + k)
    above p h = omega (arith, ints, h, xl)

module _ (g : Geometry) (law : IsGrid g) where
  -- the translation of an isometry that takes a cell near 0 to one
  pub translation_near : (m n : ℕ) (by : Iso) (c : Cell) → IsIsometry g by → IsWithin m c → IsWithin n (apply g by c) → IsWithin (2 * m + n) (cell by.da by.db)
  translation_near m n by c less from to =
      let turned = turn_within g law by.turn m c less from in
      let a = step_near g.unit (2 * m) n (g.turn by.turn c).a by.da law.unit_range.0 turned.a_low turned.a_high to.a_low to.a_high in
      let b = step_near g.unit (2 * m) n (g.turn by.turn c).b by.db law.unit_range.0 turned.b_low turned.b_high to.b_low to.b_high in
      record { a_low = a.0; a_high = a.1; b_low = b.0; b_high = b.1 }
