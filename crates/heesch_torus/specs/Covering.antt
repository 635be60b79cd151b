-- The variables that have a reduced cell, in lists by the numbers of the cells.
use Rattle.std.specs.Prelude.{◌≡◌, ℕ, ◌<◌, ◌≤◌, cond, List, [], ◌∷◌, ◌++◌, map, filter, length, slice_index_or, nat_lt, All}
use Rattle.std.specs.List.{enumerate_from, range_with_len}
use Rattle.heesch_grid.specs.declared.Cell.{Cell}
use Rattle.heesch_grid.specs.Listing.{IsRising}
use Rattle.heesch_grid.specs.Cells.{has}
use Rattle.heesch_grid.specs.Geometry.{Geometry}
use Rattle.heesch_grid.specs.Lattice.{Triple}
use Rattle.heesch_tiling.specs.Counting.{window_size, in_window}

-- the numbers of the sets that have the cell
abbrev pub having : Cell → List (List Cell) → List ℕ
having c sets = map (λ (x : ℕ × List Cell). x.0) (filter (λ (x : ℕ × List Cell). has x.1 c) (enumerate_from 1 sets))

-- for each pair of the window the numbers of the sets that have it
pub record AreCovering (g : Geometry) (t : Triple) (sets : List (List Cell)) (lists : List (List ℕ)) : Type 0 where
  pub all : length lists ≡ window_size g t
  pub each : (k : ℕ) → k < window_size g t → slice_index_or lists k [] ≡ having (in_window g t k) sets

-- the number stands last in the lists of these cells, and the other lists are as they were
pub record AddsNumber (g : Geometry) (t : Triple) (cells : List Cell) (number : ℕ) (old new : List (List ℕ)) : Type 0 where
  pub same : length new ≡ length old
  pub each : (k : ℕ) → k < length old → slice_index_or new k [] ≡ slice_index_or old k [] ++ cond (has cells (in_window g t k)) (number ∷ []) []

-- the numbers are those of variables, and strictly rise
pub record AreNumbers (vars : ℕ) (numbers : List ℕ) : Type 0 where
  pub in_range : All (λ v. (1 ≤ v) × (v ≤ vars)) numbers
  pub rising : IsRising nat_lt numbers

-- the lists of the cells among the first pairs of the window, in cell order
abbrev pub lists_before : Geometry → Triple → List (List ℕ) → ℕ → List (List ℕ)
lists_before g t lists n = map (λ k. slice_index_or lists k []) (filter (λ k. g.is_cell (in_window g t k)) (range_with_len 0 n))

-- the lists of the cells of the window, in cell order
abbrev pub cell_lists : Geometry → Triple → List (List ℕ) → List (List ℕ)
cell_lists g t lists = lists_before g t lists (length lists)
