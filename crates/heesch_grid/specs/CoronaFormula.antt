-- The corona formula E(S, j) of a polyform S and a level j: its variables and its clauses, in number and order.
-- After Kaplan's search by a SAT solver over placements at corona levels. Variables are pairs of a level and a placement, numbered from 1 by level and then by cell list; the clauses come in four families, and the literals of each rise by variable.
use Rattle.std.specs.Prelude.{◌≡◌, ℕ, suc, zero, ◌+◌, ◌-◌, ◌≤◌, Bool, not, ◌&&◌, ◌||◌, nat_le, nat_lt, ◌==◌, Some, List, ◌++◌, map, filter, flat_map}
use Rattle.std.specs.List.{enumerate_from, slice_get}
use Rattle.heesch_grid.specs.declared.Cell.{Cell}
use Rattle.heesch_grid.specs.Listing.{ListsExactly}
use Rattle.heesch_grid.specs.Cells.{cell_before, cells_before, has, meet}
use Rattle.heesch_grid.specs.Geometry.{Geometry, IsAround}
use Rattle.heesch_grid.specs.Polyform.{IsCellSet}
use Rattle.heesch_grid.specs.Placement.{IsPlacement, Apart, Touch, touch}
use Rattle.heesch_grid.specs.Clauses.{Literals, clause_of, no_variable, is_numbered}

-- the tile is a placement in U1, those that touch S, or for k from 2 in Uk, those apart from S and not touching it that touch a member of U(k - 1); there is no U0
abbrev pub IsAtLevel : Geometry → List Cell → ℕ → List Cell → Type 0
IsAtLevel g shape zero tile = ⊥
IsAtLevel g shape (suc zero) tile = IsPlacement g shape tile × Touch g shape tile
IsAtLevel g shape (suc (suc k)) tile = IsPlacement g shape tile × Apart shape tile × (¬ Touch g shape tile) × ((inner : List Cell) × IsAtLevel g shape (suc k) inner × Touch g inner tile)

-- a variable: a level and a placement at it
pub record Variable : Type 0 where
  pub level : ℕ
  pub tile : List Cell

-- the order of the variables: by level, then by cell list
abbrev pub variable_before : Variable → Variable → Bool
variable_before x y = nat_lt x.level y.level || (x.level == y.level && cells_before x.tile y.tile)

-- the variable is one of the levels 1 to j
pub record IsVariable (g : Geometry) (shape : List Cell) (j : ℕ) (x : Variable) : Type 0 where
  pub level_from : 1 ≤ x.level
  pub level_to : x.level ≤ j
  pub at_level : IsAtLevel g shape x.level x.tile

-- the universe: all variables of the levels 1 to j, in order; their numbers count from 1
abbrev pub IsUniverse : Geometry → List Cell → ℕ → List Variable → Type 0
IsUniverse g shape j vars = ListsExactly variable_before (IsVariable g shape j) vars

-- the variable of this number, from 1
abbrev pub IsNumbered : List Variable → ℕ → Variable → Type 0
IsNumbered vars n x = (1 ≤ n) × (slice_get vars (n - 1) ≡ Some x)

-- a test of numbered variables: level at most k, and the tile has the cell
abbrev pub covers : ℕ → Cell → ℕ × Variable → Bool
covers k c x = nat_le x.1.level k && has x.1.tile c

-- family 1: each cell around S is covered at level 1
abbrev pub first_clauses : {L : Type 0} → Literals L → (List Cell → List Cell) → List Cell → List Variable → List (List L)
first_clauses ls around shape vars = map (λ c. clause_of ls no_variable (covers 1 c) vars) (around shape)

-- family 2: where a tile of level k below j is chosen, each cell around it and outside S is covered at level k + 1 or below
abbrev pub covering_clauses : {L : Type 0} → Literals L → (List Cell → List Cell) → List Cell → ℕ → List Variable → List (List L)
covering_clauses ls around shape j vars =
    flat_map (λ x. map (λ c. clause_of ls (is_numbered x.0) (covers (x.1.level + 1) c) vars) (filter (λ c. not (has shape c)) (around x.1.tile)))
    (filter (λ x. nat_lt x.1.level j) (enumerate_from 1 vars))

-- family 3: where a tile of level 2 or more is chosen, one of the level below that touches it is chosen
abbrev pub support_clauses : {L : Type 0} → Literals L → Geometry → List Variable → List (List L)
support_clauses ls g vars =
    map (λ x. clause_of ls (is_numbered x.0) (λ y. (y.1.level + 1 == x.1.level) && touch g y.1.tile x.1.tile) vars)
    (filter (λ x. nat_le 2 x.1.level) (enumerate_from 1 vars))

-- not both of each two variables of which the test holds, the lower number first
abbrev pub exclusion_clauses : {L V : Type 0} → Literals L → (V → V → Bool) → List V → List (List L)
exclusion_clauses ls excludes vars =
    flat_map (λ u. map (λ v. clause_of ls (λ x. is_numbered u.0 x || is_numbered v.0 x) no_variable vars) (filter (λ v. nat_lt u.0 v.0 && excludes u.1 v.1) (enumerate_from 1 vars)))
    (enumerate_from 1 vars)

-- family 4: of two placements that meet one isn't chosen
abbrev pub apart_clauses : {L : Type 0} → Literals L → List Variable → List (List L)
apart_clauses ls vars = exclusion_clauses ls (λ x y. meet x.tile y.tile) vars

-- the four families in order, over the universe's variables and the lists of cells around
abbrev pub corona_clauses : {L : Type 0} → Literals L → Geometry → (List Cell → List Cell) → List Cell → ℕ → List Variable → List (List L)
corona_clauses ls g around shape j vars = first_clauses ls around shape vars ++ covering_clauses ls around shape j vars ++ support_clauses ls g vars ++ apart_clauses ls vars

-- the function gives the cells around each set of cells of the grid, in cell order
abbrev pub GivesCellsAround : Geometry → (List Cell → List Cell) → Type 0
GivesCellsAround g around = (cells : List Cell) → IsCellSet g cells → ListsExactly cell_before (IsAround g cells) (around cells)

-- the clauses are E(S, j), over these variables
pub record IsCoronaFormula {L : Type 0} (ls : Literals L) (g : Geometry) (shape : List Cell) (j : ℕ) (vars : List Variable) (clauses : List (List L)) : Type 0 where
  pub is_universe : IsUniverse g shape j vars
  pub around : List Cell → List Cell
  pub gives_around : GivesCellsAround g around
  pub is : clauses ≡ corona_clauses ls g around shape j vars
