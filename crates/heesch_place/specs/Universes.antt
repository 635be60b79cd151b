-- Universes and placements as contracts see them.
use Rattle.std.specs.Prelude.{◌≡◌, ℕ, ◌-◌, ◌≤◌, ◌<◌, ◌^◌, slice_index, List, ◌++◌, map, filter, length, All}
use Rattle.std.specs.Cmp.Lexicographic.{slice_cmp}
use Rattle.std.specs.List.{enumerate_from}
use Rattle.heesch_grid.specs.declared.Cell.{Cell}
use Rattle.heesch_grid.specs.declared.isometries.Iso.{Iso}
use Rattle.std.specs.Ordering.{nat_cmp, on, then_cmp}
use Rattle.std.specs.declared.cmp.Ordering.{Ordering}
use Rattle.heesch_grid.specs.Cells.{cell_cmp}
use Rattle.heesch_grid.specs.Geometry.{Geometry}
use Rattle.heesch_grid.specs.Placement.{IsLeastIsometry}
use Rattle.heesch_grid.specs.CoronaFormula.{Variable, IsUniverse, covers}

-- a cell list, and an isometry that gives it
pub record Placed : Type 0 where
  pub by : Iso
  pub tile : List Cell

-- a shape, a level, and the variables of the levels 1 to this one
pub record Levels : Type 0 where
  pub shape : List Cell
  pub level : ℕ
  pub vars : List Variable

-- the universe is that of its shape and level
abbrev pub IsUniverseOf : Geometry → Levels → Type 0
IsUniverseOf g u = IsUniverse g u.shape u.level u.vars

-- the numbers, rising, of the variables of level at most k whose tile has the cell
abbrev pub covering : List Variable → ℕ → Cell → List ℕ
covering vars k c = map (λ x. x.0) (filter (covers k c) (enumerate_from 1 vars))

-- of the levels of numbered values the one of this number, from 1, and 0 past the last
abbrev pub level_at : List ℕ → ℕ → ℕ
level_at levels n = slice_index levels (n - 1)

-- the order of variables, as an answer of three
abbrev pub variable_cmp : Variable → Variable → Ordering
variable_cmp = then_cmp (on (λ x. x.level) nat_cmp) (on (λ x. x.tile) (slice_cmp cell_cmp))

-- Values that stand for variables, each with an isometry. Contracts of private functions cite what follows.
module _ {E : Type 0} (variable : E → Variable) (by : E → Iso) where
  -- the isometry of each is the least that gives its tile
  abbrev pub HaveLeast : Geometry → List Cell → List E → Type 0
  HaveLeast g shape entries = All (λ e. IsLeastIsometry g shape (variable e).tile (by e)) entries

  -- they are the universe of a level from 1 to 6, with their isometries and with an index of their tiles; there are fewer than 2^31
  pub record AreIndexed (g : Geometry) (shape : List Cell) (level : ℕ) (entries : List E) (index : List (List Cell)) : Type 0 where
    pub universe : IsUniverse g shape level (map variable entries)
    pub least : HaveLeast g shape entries
    pub indexed : index ≡ map (λ e. (variable e).tile) entries
    pub few : length entries < 2 ^ 31
    pub range : (1 ≤ level) × (level ≤ 6)

  -- the new list has the tiles of a level after the old one
  pub record AddTiles (g : Geometry) (shape : List Cell) (level : ℕ) (tiles : List (List Cell)) (old new : List E) : Type 0 where
    pub variables : map variable new ≡ map variable old ++ map (λ tile. record { level = level; tile = tile }) tiles
    pub least : HaveLeast g shape old → HaveLeast g shape new
