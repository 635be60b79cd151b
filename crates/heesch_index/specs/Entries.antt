-- What the index has at a cell, and how a set that comes or goes changes it. Contracts of private functions cite these.
use Rattle.std.specs.Prelude.{◌≡◌, ℕ, ◌-◌, ◌<◌, ◌^◌, List, [], ◌∷◌, ◌++◌, length, take, if◌then◌else◌, Vec}
use Rattle.std.specs.Option.{option_map_or}
use Rattle.std.specs.HashMap.{HashMap, get}
use Rattle.heesch_grid.specs.declared.Cell.{Cell}
use Rattle.heesch_grid.specs.Cells.{same_cell, has}
use Rattle.heesch_index.specs.Covering.{numbers_with}

module _ {A S : Type 0} where
  -- the numbers that the map has at the cell
  abbrev pub numbers_at : HashMap Cell (Vec ℕ A) S → Cell → List ℕ
  numbers_at m c = option_map_or (λ v. v.items) (get same_cell m c) []

  -- the map has at each cell the numbers of the sets that have it, of which there are fewer than 2^32
  abbrev pub IsIndexOf : List (List Cell) → HashMap Cell (Vec ℕ A) S → Type 0
  IsIndexOf sets m = (length sets < 2 ^ 32) × ((c : Cell) → numbers_at m c ≡ numbers_with sets c)

  -- both maps have the same numbers at each cell
  abbrev pub KeepsNumbers : HashMap Cell (Vec ℕ A) S → HashMap Cell (Vec ℕ A) S → Type 0
  KeepsNumbers old new = (c : Cell) → numbers_at new c ≡ numbers_at old c

  -- the number comes last at this cell, and nothing changes at another
  abbrev pub AddsAt : HashMap Cell (Vec ℕ A) S → HashMap Cell (Vec ℕ A) S → Cell → ℕ → Type 0
  AddsAt old new cell number = (c : Cell) → numbers_at new c ≡ numbers_at old c ++ (if same_cell cell c then number ∷ [] else [])

  -- the number comes last at each of these cells, and nothing changes at another
  abbrev pub AddsAtEach : HashMap Cell (Vec ℕ A) S → HashMap Cell (Vec ℕ A) S → List Cell → ℕ → Type 0
  AddsAtEach old new cells number = (c : Cell) → numbers_at new c ≡ numbers_at old c ++ (if has cells c then number ∷ [] else [])

  -- the last number at this cell goes, and nothing changes at another
  abbrev pub RemovesAt : HashMap Cell (Vec ℕ A) S → HashMap Cell (Vec ℕ A) S → Cell → Type 0
  RemovesAt old new cell = (c : Cell) → numbers_at new c ≡ (if same_cell cell c then take (length (numbers_at old c) - 1) (numbers_at old c) else numbers_at old c)

  -- the last number at each of these cells goes, and nothing changes at another
  abbrev pub RemovesAtEach : HashMap Cell (Vec ℕ A) S → HashMap Cell (Vec ℕ A) S → List Cell → Type 0
  RemovesAtEach old new cells = (c : Cell) → numbers_at new c ≡ (if has cells c then take (length (numbers_at old c) - 1) (numbers_at old c) else numbers_at old c)
