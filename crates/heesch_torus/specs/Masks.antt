-- Masks of tiles: bit k is that of the k-th reduced cell, in cell order.
use Rattle.std.specs.Prelude.{◌≡◌, ◌≤◌, ◌<◌, ◌+◌, ◌-◌, ◌*◌, ◌⊎◌, ℕ, true, Some, List, length, slice_index, Contains}
use Rattle.std.specs.List.{slice_get}
use Rattle.std.specs.Int.{bit_at}
use Rattle.heesch_grid.specs.declared.Cell.{Cell}
use Rattle.heesch_grid.specs.declared.isometries.Iso.{Iso}
use Rattle.heesch_grid.specs.Cells.{has}
use Rattle.heesch_grid.specs.Geometry.{Geometry, IsCell, IsIsometry}
use Rattle.heesch_grid.specs.Vectors.{IsWithin}
use Rattle.heesch_grid.specs.Lattice.{Triple, IsTriple, IsReduced}
use Rattle.heesch_tiling.specs.Counting.{window_size, in_window, tile_residues, times_in}
use Rattle.heesch_torus.specs.Formula.{reduced_cells}
use Rattle.heesch_torus.specs.Trying.{tried}

-- the cells of the window have their numbers among the reduced cells, of which there are so many
pub record ArePoints (g : Geometry) (t : Triple) (numbers : List ℕ) (count : ℕ) : Type 0 where
  pub all : length numbers ≡ window_size g t
  pub each : (n : ℕ) → n < window_size g t → IsCell g (in_window g t n) → slice_get (reduced_cells g t) (slice_index numbers n) ≡ Some (in_window g t n)
  pub count_is : count ≡ length (reduced_cells g t)

-- the cells of the shape, at most 32, lie in the grid near 0, and the reduced cells of the triple, at most 64, have these numbers
pub record IsMaskable (g : Geometry) (shape : List Cell) (t : Triple) (numbers : List ℕ) : Type 0 where
  pub triple : IsTriple t
  pub points : ArePoints g t numbers (length (reduced_cells g t))
  pub few : length (reduced_cells g t) ≤ 64
  pub cells : (c : Cell) → has shape c ≡ true → IsCell g c × IsWithin 100000 c
  pub size : length shape ≤ 32

-- the mask has the bit of a reduced cell as often as the tile has the cell: once or not at all
pub record IsMaskOf (g : Geometry) (shape : List Cell) (t : Triple) (by : Iso) (mask : ℕ) : Type 0 where
  pub cells : (k : ℕ) (c : Cell) → slice_get (reduced_cells g t) k ≡ Some c → bit_at mask k ≡ times_in (tile_residues g shape t by) c
  pub others : (k : ℕ) → length (reduced_cells g t) ≤ k → bit_at mask k ≡ 0

-- the tile has some reduced cell twice
pub record HasDouble (g : Geometry) (shape : List Cell) (t : Triple) (by : Iso) : Type 0 where
  pub cell : Cell
  pub reduced : IsReduced g t cell
  pub twice : 2 ≤ times_in (tile_residues g shape t by) cell

-- the masks of the first k tiles of a turn within the triple stand there too, and no others
pub record AddsMasks (g : Geometry) (shape : List Cell) (t : Triple) (turn k : ℕ) (old new : List ℕ) : Type 0 where
  pub kept : (m : ℕ) → Contains old m → Contains new m
  pub only : (m : ℕ) → Contains new m → Contains old m ⊎ ((j : ℕ) × (j < k) × IsMaskOf g shape t (tried t turn j) m)
  pub every : (j : ℕ) → j < k → (m : ℕ) → IsMaskOf g shape t (tried t turn j) m → Contains new m
  pub few : length new ≤ length old + k

-- the masks of all tiles of this turn and later ones, and no others
pub record HasMasksFrom (g : Geometry) (shape : List Cell) (t : Triple) (turn : ℕ) (masks : List ℕ) : Type 0 where
  pub only : (m : ℕ) → Contains masks m → (by : Iso) × IsIsometry g by × (turn ≤ by.turn) × IsMaskOf g shape t by m
  pub every : (by : Iso) → IsIsometry g by → turn ≤ by.turn → (m : ℕ) → IsMaskOf g shape t by m → Contains masks m
  pub few : length masks ≤ (g.turns - turn) * (t.p * t.q)
