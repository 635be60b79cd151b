-- The reduced cells of tiles, how often a cell stands among them, and these counts by the numbers of the cells.
use Rattle.std.specs.Prelude.{◌≡◌, ◌≢◌, ◌<◌, ◌≤◌, ◌+◌, ◌*◌, ◌%◌, ◌/◌, slice_index, Bool, true, false, ◌&&◌, ◌||◌, nat_lt, ℕ, ℤ, pos, neg_ℤ, ◌+ℤ◌, ◌*ℤ◌, List, [], ◌∷◌, ◌++◌, map, filter, length}
use Rattle.heesch_grid.specs.declared.Cell.{Cell}
use Rattle.heesch_grid.specs.declared.isometries.Iso.{Iso}
use Rattle.heesch_grid.specs.Cells.{cell, same_cell, cell_before}
use Rattle.heesch_grid.specs.Vectors.{IsWithin}
use Rattle.heesch_grid.specs.Geometry.{Geometry, IsIsometry, image}
use Rattle.heesch_grid.specs.Polyform.{floor_div}
use Rattle.heesch_grid.specs.Lattice.{Triple, translated, IsReduced}
use Rattle.heesch_grid.specs.Tiling.{HasCell}

-- the reduced pair of c
abbrev pub residue : Geometry → Triple → Cell → Cell
residue g t c =
    let j = neg_ℤ (floor_div (floor_div c.b g.unit) t.q) in
    let i = neg_ℤ (floor_div (floor_div c.a g.unit +ℤ j *ℤ pos t.s) t.p) in
    translated g t i j c

-- the cells of the places, one place after another
abbrev pub tile_cells : Geometry → List Cell → List Iso → List Cell
tile_cells g shape [] = []
tile_cells g shape (by ∷ places) = image g by shape ++ tile_cells g shape places

-- the reduced cells of the places, one place after another
abbrev pub residues : Geometry → List Cell → Triple → List Iso → List Cell
residues g shape t places = map (residue g t) (tile_cells g shape places)

-- the reduced cells of one tile
abbrev pub tile_residues : Geometry → List Cell → Triple → Iso → List Cell
tile_residues g shape t by = map (residue g t) (image g by shape)

-- how often the cell stands in the list
abbrev pub times_in : List Cell → Cell → ℕ
times_in cells c = length (filter (same_cell c) cells)

-- two different translates of places have the cell
pub record IsDoubled (g : Geometry) (shape : List Cell) (t : Triple) (places : List Iso) (c : Cell) : Type 0 where
  pub one : ℕ × ℤ × ℤ
  pub other : ℕ × ℤ × ℤ
  pub differ : one ≢ other
  pub first : HasCell g shape t places c one
  pub second : HasCell g shape t places c other

-- no translate of a place has the cell
pub record IsMissed (g : Geometry) (shape : List Cell) (t : Triple) (places : List Iso) (c : Cell) : Type 0 where
  pub none : (at : ℕ × ℤ × ℤ) → ¬ HasCell g shape t places c at

-- the isometry's turn is one of the grid's, and its translation lies near 0
pub record IsInRange (g : Geometry) (by : Iso) : Type 0 where
  pub turn : IsIsometry g by
  pub near : IsWithin 100000 (cell by.da by.db)

-- whether the pair is a cell that stands fewer than low or more than most times in the list
abbrev pub is_amiss : Geometry → List Cell → ℕ → ℕ → Cell → Bool
is_amiss g cells low most c = g.is_cell c && (nat_lt (times_in cells c) low || nat_lt most (times_in cells c))

-- the first reduced cell that passes the test
pub record IsFirstAmiss (g : Geometry) (t : Triple) (test : Cell → Bool) (c : Cell) : Type 0 where
  pub reduced : IsReduced g t c
  pub amiss : test c ≡ true
  pub first : (d : Cell) → IsReduced g t d → test d ≡ true → cell_before d c ≡ true → ⊥

-- the k-th pair of a window that is so wide, in cell order
abbrev pub spot : ℕ → ℕ → Cell
spot wide k = cell (pos (k % wide)) (pos (k / wide))

-- how many pairs have a reduced unit, and the k-th of them
abbrev pub window_size : Geometry → Triple → ℕ
window_size g t = (g.unit * t.p) * (g.unit * t.q)

abbrev pub in_window : Geometry → Triple → ℕ → Cell
in_window g t k = spot (g.unit * t.p) k

-- the numbers say of each pair of the window how often it stands among the cells
pub record AreCounts (g : Geometry) (t : Triple) (cells : List Cell) (counts : List ℕ) : Type 0 where
  pub all : length counts ≡ window_size g t
  pub each : (k : ℕ) → k < window_size g t → slice_index counts k ≡ times_in cells (in_window g t k)

-- each pair of the window counts once more for each time that it stands among the cells
pub record AddsCounts (g : Geometry) (t : Triple) (cells : List Cell) (old new : List ℕ) : Type 0 where
  pub same : length new ≡ length old
  pub each : (k : ℕ) → k < length old → slice_index new k ≡ slice_index old k + times_in cells (in_window g t k)

-- some reduced cell counts twice, with its count before and the times that it stands among the cells
pub record HasRepeat (g : Geometry) (t : Triple) (cells : List Cell) (old : List ℕ) : Type 0 where
  pub at : ℕ
  pub below : at < length old
  pub reduced : IsReduced g t (in_window g t at)
  pub twice : 2 ≤ slice_index old at + times_in cells (in_window g t at)

-- whether the k-th pair is a cell whose count is below low or above most
abbrev pub is_amiss_at : Geometry → Triple → List ℕ → ℕ → ℕ → ℕ → Bool
is_amiss_at g t counts low most k = g.is_cell (in_window g t k) && (nat_lt (slice_index counts k) low || nat_lt most (slice_index counts k))

-- the first pair of the window whose number passes the test
pub record IsFirstNumber (g : Geometry) (t : Triple) (test : ℕ → Bool) (c : Cell) : Type 0 where
  pub at : ℕ
  pub below : at < window_size g t
  pub is : c ≡ in_window g t at
  pub amiss : test at ≡ true
  pub before : (k : ℕ) → k < at → test k ≡ false

-- each cell of the window counts once
abbrev pub IsFull : Geometry → Triple → List ℕ → Type 0
IsFull g t counts = (k : ℕ) → k < window_size g t → is_amiss_at g t counts 1 1 k ≡ false
