-- What holds in every grid.
use Rattle.std.proofs.Common.{◌≡◌, ◌↔◌, true, ◌==◌, arith, eqb-true, lt-ltb}
use Rattle.std.specs.Prelude.{nat_lt}
use Rattle.std.proofs.lemmas.List.Elements.{All-contains}
use Rattle.std.proofs.lemmas.Bool.{and_parts, and_from}
use Rattle.heesch_grid.specs.declared.Cell.{Cell}
use Rattle.heesch_grid.specs.Cells.{has}
use Rattle.heesch_grid.specs.Vectors.{IsWithin, minus}
use Rattle.heesch_grid.specs.Geometry.{Geometry, IsCell, are_two_cells, shared_corners, Adjacent, Touching, IsGrid}
use Rattle.heesch_grid.specs.Statements.{GrowthLaw}
use Rattle.heesch_grid.specs.Pairs.{has-true, within_abs}
use Rattle.heesch_grid.proofs.CellFacts.{has-is}
use Rattle.heesch_grid.proofs.Growth.{growth}

module _ (g : Geometry) (law : IsGrid g) where
  pub Adjacent-symmetric : (c d : Cell) → Adjacent g c d → Adjacent g d c
  Adjacent-symmetric = law.adjacent_back

  pub Touching-symmetric : (c d : Cell) → Touching g c d → Touching g d c
  Touching-symmetric = law.touching_back

  -- adjacent cells touch, and cells that touch are near each other
  pub adjacent_touching : (c d : Cell) → Adjacent g c d → Touching g c d
  adjacent_touching c d h =
      let n = shared_corners g c d in
      let both = and_parts (are_two_cells g c d) (n == 2) h in
      let two = eqb-true n 2 both.1 in
      and_from (are_two_cells g c d) (nat_lt 0 n) both.0 (lt-ltb 0 n (omega arith))

  pub touching_near : (c d : Cell) → Touching g c d → IsWithin 4 (minus d c)
  touching_near c d h = let r = law.reach c d h in within_abs 4 (minus d c) r.0 r.1

  pub adjacent_near : (c d : Cell) → Adjacent g c d → IsWithin 4 (minus d c)
  adjacent_near c d h = touching_near c d (adjacent_touching c d h)

  -- the lists of a cell's neighbours, by the test of members
  pub adjacent_exact : (c d : Cell) → IsCell g c → (has (g.adjacent c) d ≡ true) ↔ Adjacent g c d
  adjacent_exact c d c_in =
      let l = (law.adjacent_listed c c_in).0 in
      ((λ h. All-contains (Adjacent g c) (g.adjacent c) d l.only (has-true (g.adjacent c) d h)), (λ a. has-is (g.adjacent c) d (l.every d a)))

  pub touching_exact : (c d : Cell) → IsCell g c → (has (g.touching c) d ≡ true) ↔ Touching g c d
  touching_exact c d c_in =
      let l = (law.touching_listed c c_in).0 in
      ((λ h. All-contains (Touching g c) (g.touching c) d l.only (has-true (g.touching c) d h)), (λ a. has-is (g.touching c) d (l.every d a)))

  -- a polyform of at least two cells has a cell whose removal leaves a polyform
  pub growth_law : GrowthLaw g
  growth_law cells form two = growth g Adjacent-symmetric cells form two
