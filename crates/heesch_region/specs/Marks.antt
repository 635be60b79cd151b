-- The marks of a set of cells.
use Rattle.std.specs.Prelude.{◌≡◌, ℕ, ◌<◌, true, not, ◌&&◌, List, length}
use Rattle.heesch_grid.specs.declared.Cell.{Cell}
use Rattle.heesch_grid.specs.Geometry.{Geometry}
use Rattle.heesch_grid.specs.Listing.{ListsExactly}
use Rattle.heesch_grid.specs.Cells.{cell_before, has}
use Rattle.heesch_region.specs.declared.window.Window.{Window}
use Rattle.heesch_region.specs.Windows.{size, order, is_inner, is_marked}

-- the cells lie inside the border of the window, and just these are marked
pub record AreMarksOf (g : Geometry) (w : Window) (cells : List Cell) (words : List ℕ) : Type 0 where
  pub unit : w.unit ≡ g.unit
  pub long : length words ≡ size w
  pub inner : (c : Cell) → has cells c ≡ true → is_inner w c ≡ true
  pub exact : (c : Cell) → is_marked w words c ≡ has cells c

-- the list has the pairs with a number below `most` that are marked and not taken, in cell order
abbrev pub IsListed : Window → List ℕ → List ℕ → ℕ → List Cell → Type 0
IsListed w kept taken most xs =
    ListsExactly cell_before (λ c. ((is_marked w kept c && not (is_marked w taken c)) ≡ true) × (order w c < most)) xs
