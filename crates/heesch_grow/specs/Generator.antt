-- Shapes made from a number: draws of a linear congruential generator, and the shapes that grow by them.
use Rattle.std.specs.Prelude.{◌≡◌, ℕ, zero, suc, ◌+◌, ◌*◌, ◌/◌, ◌%◌, ◌^◌, Some, List, ◌∷◌, length, Contains, slice_get}
use Rattle.heesch_grid.specs.declared.Cell.{Cell}
use Rattle.heesch_grid.specs.Cells.{cell_before, IsCellListOf}
use Rattle.heesch_grid.specs.Geometry.{Geometry, IsGrid, Adjacent}
use Rattle.heesch_grid.specs.Listing.{ListsExactly}
use Rattle.heesch_grid.specs.Polyform.{IsPolyform, IsFreePolyform}

-- the state after a draw
abbrev pub next_state : ℕ → ℕ
next_state state = (state * 6364136223846793005 + 1442695040888963407) % 2 ^ 64

-- what a draw answers, by the state after it: that divided by 2^33, rounded down
abbrev pub drawn : ℕ → ℕ
drawn state = state / 2 ^ 33

-- the state after so many draws
abbrev pub state_after : ℕ → ℕ → ℕ
state_after zero seed = seed
state_after (suc draws) seed = next_state (state_after draws seed)

-- the cell is beside the shape: it is outside and adjacent to a cell of the shape
pub record IsBeside (g : Geometry) (shape : List Cell) (c : Cell) : Type 0 where
  pub outside : ¬ Contains shape c
  pub member : Cell
  pub inside : Contains shape member
  pub adjacent : Adjacent g member c

-- the cell that a draw chooses: of the cells beside the shape, listed in cell order, the one whose place from 0 is the draw modulo their number
pub record IsDrawn (g : Geometry) (draw : ℕ) (shape : List Cell) (c : Cell) : Type 0 where
  pub beside : List Cell
  pub listed : ListsExactly cell_before (IsBeside g shape) beside
  pub is_at : slice_get beside (draw % length beside) ≡ Some c

-- the shape with that cell added
pub record AddsDrawn (g : Geometry) (draw : ℕ) (shape result : List Cell) : Type 0 where
  pub added : Cell
  pub is_drawn : IsDrawn g draw shape added
  pub is_list : IsCellListOf (added ∷ shape) result

-- the shape that so many draws from a seed give: the canonical one cell, and one more cell for each draw
abbrev pub IsGrownBy : Geometry → ℕ → ℕ → List Cell → Type 0
IsGrownBy g seed zero cells = IsFreePolyform g 1 cells
IsGrownBy g seed (suc draws) cells = (smaller : List Cell) × IsGrownBy g seed draws smaller × AddsDrawn g (drawn (state_after (suc draws) seed)) smaller cells

-- a cell lies beside every polyform, so that there is one to choose
abbrev pub SomeCellIsBeside : Type 0
SomeCellIsBeside = (g : Geometry) (shape : List Cell) → IsGrid g → IsPolyform g shape → (c : Cell) × IsBeside g shape c

-- the draws give a polyform of one cell more than there are draws
abbrev pub GrownArePolyforms : Type 0
GrownArePolyforms = (g : Geometry) (seed draws : ℕ) (cells : List Cell) → IsGrid g → IsGrownBy g seed draws cells → IsPolyform g cells × (length cells ≡ draws + 1)

-- and only one
abbrev pub GrownAreDetermined : Type 0
GrownAreDetermined = (g : Geometry) (seed draws : ℕ) (cells other : List Cell) → IsGrid g → IsGrownBy g seed draws cells → IsGrownBy g seed draws other → cells ≡ other
