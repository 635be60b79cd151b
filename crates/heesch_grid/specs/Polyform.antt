-- Polyforms, canonical lists and free lists.
-- A polyform is an edge-connected finite set of cells, and two of them are one free polyform where an isometry carries one to the other, reflections included (Kaplan; Myers). Which image stands for the free polyform is this repository's own choice.
use Rattle.std.specs.Prelude.{◌≡◌, ℕ, ◌<◌, ◌/◌, ℤ, pos, negsuc, List, length, IsFalse, All, Contains}
use Rattle.heesch_grid.specs.declared.Cell.{Cell}
use Rattle.heesch_grid.specs.declared.isometries.Iso.{Iso}
use Rattle.heesch_grid.specs.Listing.{IsRising, ListsExactly, IsLeastOver}
use Rattle.heesch_grid.specs.Cells.{cell_before, cells_before, IsCellListOf}
use Rattle.heesch_grid.specs.Geometry.{Geometry, IsCell, Adjacent, IsIsometry, image}

-- z / n, rounded down
abbrev pub floor_div : ℤ → ℕ → ℤ
floor_div (pos a) n = pos (a / n)
floor_div (negsuc a) n = negsuc (a / n)

-- a path of adjacent cells of the set leads from c to another cell
pub data Joined (g : Geometry) (cells : List Cell) (c : Cell) : Cell → Type 0 where
  start : Joined g cells c c
  next : {d e : Cell} → Joined g cells c d → Adjacent g d e → Contains cells e → Joined g cells c e

-- the list is a finite set of cells of the grid, in cell order
pub record IsCellSet (g : Geometry) (cells : List Cell) : Type 0 where
  pub rising : IsRising cell_before cells
  pub in_grid : All (IsCell g) cells

-- the cell list of a polyform: a finite non-empty set of cells, any two joined by a path of adjacent cells of the set
pub record IsPolyform (g : Geometry) (cells : List Cell) : Type 0 where
  pub is_set : IsCellSet g cells
  pub some : 0 < length cells
  pub joined : (c d : Cell) → Contains cells c → Contains cells d → Joined g cells c d

-- the list is the cell list of an image of the set
pub record IsImageOf (g : Geometry) (cells result : List Cell) : Type 0 where
  pub by : Iso
  pub is_isometry : IsIsometry g by
  pub is_list : IsCellListOf (image g by cells) result

-- the least floor(a / unit) and the least floor(b / unit) over the cells are 0
pub record IsNormalised (g : Geometry) (cells : List Cell) : Type 0 where
  pub least_a : IsLeastOver (λ (c : Cell). floor_div c.a g.unit) cells (pos 0)
  pub least_b : IsLeastOver (λ (c : Cell). floor_div c.b g.unit) cells (pos 0)

-- the list is the least, cell by cell, of the cell lists of all normalised images of the set
pub record IsCanonicalListOf (g : Geometry) (cells result : List Cell) : Type 0 where
  pub is_image : IsImageOf g cells result
  pub normalised : IsNormalised g result
  pub least : (other : List Cell) → IsImageOf g cells other → IsNormalised g other → IsFalse (cells_before other result)

-- the list is the canonical list of a polyform of n cells
pub record IsFreePolyform (g : Geometry) (n : ℕ) (result : List Cell) : Type 0 where
  pub cells : List Cell
  pub polyform : IsPolyform g cells
  pub size : length cells ≡ n
  pub canonical : IsCanonicalListOf g cells result

-- the strictly rising list whose members are exactly the canonical lists of all polyforms of n cells
abbrev pub IsFreeList : Geometry → ℕ → List (List Cell) → Type 0
IsFreeList g n lists = ListsExactly cells_before (IsFreePolyform g n) lists
