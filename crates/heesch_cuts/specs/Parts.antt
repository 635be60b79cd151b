-- Parts of a hole that are closed under adjacency in it, and how a spread over its places goes.
use Rattle.std.specs.Prelude.{◌≡◌, ℕ, ◌+◌, ◌*◌, ◌≤◌, ◌<◌, ◌⊎◌, Bool, true, not, Some, List, map, filter, length, count_by, All, Contains}
use Rattle.std.specs.List.{slice_get, enumerate_from}
use Rattle.heesch_grid.specs.declared.Cell.{Cell}
use Rattle.heesch_grid.specs.Listing.{IsRising}
use Rattle.heesch_grid.specs.Cells.{cell_before}
use Rattle.heesch_grid.specs.Geometry.{Geometry, Adjacent}
use Rattle.heesch_cuts.specs.Marks.{is_marked}
use Rattle.heesch_cuts.specs.Patches.{Grows}

-- some of the cells, in cell order, among which are all of them that are adjacent to one of these
pub record IsClosedPart (g : Geometry) (hole part : List Cell) : Type 0 where
  pub some : 0 < length part
  pub rising : IsRising cell_before part
  pub within : (c : Cell) → Contains part c → Contains hole c
  pub closed : (c d : Cell) → Contains part c → Contains hole d → Adjacent g c d → Contains part d

-- the cell's place is marked, if it has one
abbrev pub IsReached : List Cell → List Bool → Cell → Type 0
IsReached hole reached d = (q : ℕ) → slice_get hole q ≡ Some d → is_marked reached q ≡ true

-- the cells adjacent to the cell at a place are reached
abbrev pub IsSurrounded : Geometry → List Cell → List Bool → ℕ → Type 0
IsSurrounded g hole reached p = (c d : Cell) → slice_get hole p ≡ Some c → Adjacent g c d → IsReached hole reached d

-- each cell adjacent to a reached one is reached
abbrev pub IsClosed : Geometry → List Cell → List Bool → Type 0
IsClosed g hole reached = (p : ℕ) → is_marked reached p ≡ true → IsSurrounded g hole reached p

-- twice the places that are not reached, and those whose neighbours are still to be looked at
abbrev pub work_left : List Bool → List ℕ → ℕ
work_left reached todo = 2 * count_by not reached + length todo

-- a spread went on: what it reached anew is still to be looked at, and there is no more work than before
pub record WentOn (hole : List Cell) (reached : List Bool) (todo : List ℕ) (new_reached : List Bool) (new_todo : List ℕ) : Type 0 where
  pub grows : Grows reached new_reached
  pub keeps : (p : ℕ) → Contains todo p → Contains new_todo p
  pub fresh : (p : ℕ) → is_marked new_reached p ≡ true → is_marked reached p ≡ true ⊎ Contains new_todo p
  pub below : All (λ p. p < length hole) todo → All (λ p. p < length hole) new_todo
  pub work : work_left new_reached new_todo ≤ work_left reached todo
  pub size : length new_reached ≡ length reached

-- the spread from the first place: what is reached is still to be looked at, or surrounded
pub record IsSpread (g : Geometry) (hole : List Cell) (reached : List Bool) (todo : List ℕ) : Type 0 where
  pub size : length reached ≡ length hole
  pub first : is_marked reached 0 ≡ true
  pub below : All (λ p. p < length hole) todo
  pub pending : (p : ℕ) → is_marked reached p ≡ true → Contains todo p ⊎ IsSurrounded g hole reached p

-- the cells whose places are marked
abbrev pub marked_cells : List Bool → List Cell → List Cell
marked_cells reached cells = map (λ x. x.1) (filter (λ x. is_marked reached x.0) (enumerate_from 0 cells))
