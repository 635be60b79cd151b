-- The later variables whose tiles meet that of a variable.
use Rattle.std.specs.Prelude.{◌≡◌, ◌⊎◌, ℕ, ◌<◌, ◌≤◌, ◌&&◌, nat_lt, List, map, filter, length, take, slice_index_or, All, Contains}
use Rattle.std.specs.List.{enumerate_from}
use Rattle.heesch_grid.specs.declared.Cell.{Cell}
use Rattle.heesch_grid.specs.Cells.{origin, meet}
use Rattle.heesch_grid.specs.CoronaFormula.{Variable}
use Rattle.heesch_grid.specs.OwnerFormula.{holders}

-- the numbers, rising, of the later variables whose tiles meet that of this one, which is given with its number
abbrev pub later_of : List Variable → ℕ × Variable → List ℕ
later_of vars x = map (λ y. y.0) (filter (λ y. nat_lt x.0 y.0 && meet x.1.tile y.1.tile) (enumerate_from 1 vars))

-- more than any variable's number
abbrev pub no_number : ℕ
no_number = 4294967295

-- the first so many of the numbers are at most n
pub record ArePassed (numbers : List ℕ) (count n : ℕ) : Type 0 where
  pub within : count ≤ length numbers
  pub low : All (λ m. m ≤ n) (take count numbers)

-- so are, of the variables that have each cell, the first so many
abbrev pub ArePassedAt : List Variable → List Cell → List ℕ → ℕ → Type 0
ArePassedAt vars cells counts n = (i : ℕ) → i < length cells → ArePassed (holders vars (slice_index_or cells i origin)) (slice_index_or counts i 0) n

-- the number is the least one above n of a variable that has one of the cells, or there is none
pub record IsNextAfter (vars : List Variable) (cells : List Cell) (n next : ℕ) : Type 0 where
  pub least : (c : Cell) (m : ℕ) → Contains cells c → Contains (holders vars c) m → n < m → next ≤ m
  pub found : (next ≡ no_number) ⊎ ((c : Cell) × Contains cells c × Contains (holders vars c) next × (n < next))
