-- Shapes as sets of cells whose holes are sought.
use Rattle.std.proofs.Common.{◌≡◌, ◌<◌, ◌≤ℤ◌, ◌+ℤ◌, pos, true, List, [], ◌∷◌, length, arith}
use Rattle.std.specs.Prelude.{Option, Some, None, MatchOption, is_some}
use Rattle.std.proofs.lemmas.Int.{ints}
use Rattle.heesch_grid.specs.declared.Cell.{Cell}
use Rattle.heesch_grid.specs.Cells.{has}
use Rattle.heesch_grid.specs.Geometry.{Geometry, IsGrid}
use Rattle.heesch_grid.specs.Hole.{IsHoleFree, IsInHole, IsGreatestHole}
use Rattle.heesch_shape.specs.Walks.{IsShape}
use Rattle.heesch_shape.proofs.Words.{form_of}
use Rattle.heesch_shape.proofs.Forms.{spread_a, spread_b}
use Rattle.heesch_table.specs.Holed.{IsHoled}

-- the cells of a shape lie close together
pub cells_close : (g : Geometry) → IsGrid g → (cells : List Cell) → IsShape g cells → (c d : Cell) → has cells c ≡ true → has cells d ≡ true → (d.a ≤ℤ (c.a +ℤ pos 4096)) × (d.b ≤ℤ (c.b +ℤ pos 4096))
cells_close g law cells shape c d c_in d_in =
    let form = form_of g cells shape.polyform in
    let a = spread_a g law cells c d form c_in d_in in
    let b = spread_b g law cells c d form c_in d_in in
    let few = shape.few in
    (omega (arith, ints, a, few), omega (arith, ints, b, few))

-- a set whose greatest hole has a cell is not hole-free
pub not_hole_free : (g : Geometry) (cells hole : List Cell) → 0 < length hole → IsGreatestHole g cells hole → ¬ IsHoleFree g cells
not_hole_free g cells [] some greatest free = omega (arith, some)
not_hole_free g cells (c ∷ hole) some greatest free =
    let inside : IsInHole g cells c = greatest.only 0 c (omega arith) in
    free inside.hole inside.is_hole

-- whether a greatest hole was found says whether the set has a hole
pub holed_by_search : (g : Geometry) (cells : List Cell) (found : Option (List Cell)) → MatchOption found (IsHoleFree g cells) (λ hole. (0 < length hole) × IsGreatestHole g cells hole) → IsHoled g cells (is_some found)
holed_by_search g cells (Some hole) (some, greatest) = not_hole_free g cells hole some greatest
holed_by_search g cells None free = free
