-- The flood around a set of cells, from outside.
use Rattle.std.specs.Prelude.{◌≡◌, ℕ, Bool, true, ◌⊎◌, cond, ◌-◌}
use Rattle.heesch_grid.specs.declared.Cell.{Cell}
use Rattle.heesch_grid.specs.Geometry.{Geometry, Adjacent}
use Rattle.heesch_region.specs.declared.window.Window.{Window}
use Rattle.heesch_region.specs.Windows.{strip}

-- a set that is closed but for the taken cells: what is adjacent to a cell of it is in it, or the cell is taken
abbrev pub IsClosed : Geometry → (Cell → Bool) → (Cell → Bool) → Type 0
IsClosed g taken test = (c d : Cell) → test c ≡ true → Adjacent g c d → (taken c ≡ true) ⊎ (test d ≡ true)

-- the new set is part of the old one, and has each closed set that the old one had
pub record IsNarrowed (g : Geometry) (taken old new : Cell → Bool) : Type 0 where
  pub only : (c : Cell) → new c ≡ true → old c ≡ true
  pub keeps : (test : Cell → Bool) → IsClosed g taken test → ((c : Cell) → test c ≡ true → old c ≡ true) → (c : Cell) → test c ≡ true → new c ≡ true

-- no cell of this strip leads out of the kept ones, unless it is taken
abbrev pub IsSettled : Geometry → Window → (Cell → Bool) → (Cell → Bool) → ℕ → Type 0
IsSettled g w taken kept n = (c d : Cell) → kept c ≡ true → strip w c ≡ n → Adjacent g c d → (taken c ≡ true) ⊎ (kept d ≡ true)

-- a number counted from the front or from the back
abbrev pub counted : Bool → ℕ → ℕ → ℕ
counted upward count n = cond upward (count - 1 - n) n
