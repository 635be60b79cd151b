-- When an isometry is a symmetry, by finitely many tiles.
use Rattle.std.specs.Prelude.{ℕ, ◌≤◌, pos, ◌+ℤ◌, ◌-ℤ◌, List, Contains}
use Rattle.heesch_grid.specs.declared.Cell.{Cell}
use Rattle.heesch_grid.specs.declared.isometries.Iso.{Iso}
use Rattle.heesch_grid.specs.Cells.{cell, SameCells}
use Rattle.heesch_grid.specs.Geometry.{Geometry, IsIsometry, image}
use Rattle.heesch_grid.specs.Lattice.{Triple}
use Rattle.heesch_grid.specs.Symmetry.{CarriesToTranslate, TakesExactly}
use Rattle.heesch_orbit.specs.Steps.{turn_and_shift}

-- the isometry carries the tile to a translate of a tile
abbrev pub HasImage : Geometry → List Cell → Triple → List Iso → Iso → Iso → Type 0
HasImage g shape t places by from = (to : Iso) × Contains places to × CarriesToTranslate g t by (image g from shape) (image g to shape)

-- the isometry carries each tile to a translate of a tile
abbrev pub CarriesPlaces : Geometry → List Cell → Triple → List Iso → Iso → Type 0
CarriesPlaces g shape t places by = (from : Iso) → Contains places from → HasImage g shape t places by from

-- the translation by v units
abbrev pub shift : Cell → Iso
shift v = turn_and_shift 0 v

-- the vectors (p, 0) and (s, q)
abbrev pub first_vector : Triple → Cell
first_vector t = cell (pos t.p) (pos 0)

abbrev pub second_vector : Triple → Cell
second_vector t = cell (pos t.s) (pos t.q)

-- the two vectors under turn k carry each tile to a translate of a tile
pub record KeepsLattice (g : Geometry) (shape : List Cell) (t : Triple) (places : List Iso) (k : ℕ) : Type 0 where
  pub first : CarriesPlaces g shape t places (shift (g.turn k (first_vector t)))
  pub second : CarriesPlaces g shape t places (shift (g.turn k (second_vector t)))

-- the isometry, and the two vectors under its turn, carry each tile to a translate of a tile
pub record IsSymmetryOfPlaces (g : Geometry) (shape : List Cell) (t : Triple) (places : List Iso) (by : Iso) : Type 0 where
  pub is_isometry : IsIsometry g by
  pub carries : CarriesPlaces g shape t places by
  pub lattice : KeepsLattice g shape t places by.turn

-- the symmetry takes the first tile exactly to the second, and none of a lesser turn does
pub record IsLeastTaking (g : Geometry) (shape : List Cell) (t : Triple) (places : List Iso) (from to by : Iso) : Type 0 where
  pub takes : TakesExactly g shape t places from to by
  pub least : (other : Iso) → TakesExactly g shape t places from to other → by.turn ≤ other.turn

-- the isometry takes the first tile exactly to the second
abbrev pub Takes : Geometry → List Cell → Iso → Iso → Iso → Type 0
Takes g shape from to by = SameCells (image g by (image g from shape)) (image g to shape)

-- how much further than the second tile the first is moved, where the first is moved by `moved` under the turn of the isometry, and `step` leads from one turn of the shape to the other
abbrev pub excess : Cell → Iso → Cell → Iso → Cell
excess moved by step to = cell (moved.a +ℤ by.da -ℤ step.a -ℤ to.da) (moved.b +ℤ by.db -ℤ step.b -ℤ to.db)
