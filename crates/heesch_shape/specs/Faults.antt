-- What each refusal says of the cells that were given.
use Rattle.std.specs.Prelude.{◌≡◌, ℕ, ◌<◌, ◌≤◌, List, length}
use Rattle.heesch_grid.specs.declared.Cell.{Cell}
use Rattle.heesch_grid.specs.Geometry.{Geometry}
use Rattle.heesch_grid.specs.Polyform.{Joined}
use Rattle.heesch_shape.specs.declared.faults.ShapeFault.{ShapeFault}
use Rattle.heesch_shape.specs.declared.faults.ShapeFault.TheVariants.{Empty, TooMany, NotACell, Repeated, Apart}
use Rattle.heesch_shape.specs.Places.{AllHold, IsFirstFailure, is_cell_at, is_new_at, nth}

-- the faults are numbered from 1, in the order in which they are looked for
abbrev pub number_of : ShapeFault → ℕ
number_of Empty = 1
number_of TooMany = 2
number_of (NotACell at) = 3
number_of (Repeated at) = 4
number_of (Apart at) = 5

-- some place is not reached from place 0, and each before it is
pub record IsFirstApart (g : Geometry) (xs : List Cell) (at : ℕ) : Type 0 where
  pub below : at < length xs
  pub apart : Joined g xs (nth xs 0) (nth xs at) → ⊥
  pub before : (k : ℕ) → k < at → Joined g xs (nth xs 0) (nth xs k)

-- each refusal comes where none before it does
abbrev pub IsFault : Geometry → List Cell → ShapeFault → Type 0
IsFault g xs Empty = length xs ≡ 0
IsFault g xs TooMany = 32 < length xs
IsFault g xs (NotACell at) = (1 ≤ length xs) × (length xs ≤ 32) × IsFirstFailure (is_cell_at g xs) (length xs) at
IsFault g xs (Repeated at) = (1 ≤ length xs) × (length xs ≤ 32) × AllHold (is_cell_at g xs) (length xs) × IsFirstFailure (is_new_at xs) (length xs) at
IsFault g xs (Apart at) = (1 ≤ length xs) × (length xs ≤ 32) × AllHold (is_cell_at g xs) (length xs) × AllHold (is_new_at xs) (length xs) × IsFirstApart g xs at

-- no refusal fits the cells
abbrev pub IsFaultless : Geometry → List Cell → Type 0
IsFaultless g xs = (f : ShapeFault) → IsFault g xs f → ⊥
