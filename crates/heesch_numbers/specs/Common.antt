-- Families 1 to 3 of the corona formulas of a universe, and what they are found by.
use Rattle.std.specs.Prelude.{◌≡◌, ℕ, ◌+◌, ◌-◌, ◌<◌, ◌≤◌, not, Option, MatchOption, List, [], map, filter, length, slice_index_or, All}
use Rattle.std.specs.List.{enumerate_from}
use Rattle.heesch_cnf.specs.declared.literal.Lit.{Lit}
use Rattle.heesch_cnf.specs.Clauses.{left_of}
use Rattle.heesch_cnf.specs.Lines.{IsNumber}
use Rattle.heesch_cnf.specs.Literals.{Values}
use Rattle.heesch_grid.specs.declared.Cell.{Cell}
use Rattle.heesch_grid.specs.Cells.{has, meet}
use Rattle.heesch_grid.specs.Geometry.{Geometry}
use Rattle.heesch_grid.specs.CoronaFormula.{Variable, GivesCellsAround, IsNumbered}
use Rattle.heesch_place.specs.Universes.{Levels}
use Rattle.heesch_encode.specs.declared.around.TurnedRing.{TurnedRing}
use Rattle.heesch_encode.specs.Families.{covering_at, support_at}
use Rattle.heesch_encode.specs.Meeting.{covering_after}
use Rattle.heesch_encode.specs.Owners.{common_clauses}
use Rattle.heesch_encode.specs.Plans.{IsPlan}

-- the clauses of families 1 to 3 of a universe
abbrev pub common_of : Geometry → (List Cell → List Cell) → Levels → List (List Lit)
common_of g around u = common_clauses g around u.shape u.level u.vars

-- the number is that of one of them
pub record IsCommonNumber (g : Geometry) (u : Levels) (number : ℕ) : Type 0 where
  pub around : List Cell → List Cell
  pub gives : GivesCellsAround g around
  pub is : IsNumber (common_of g around u) number

-- each of the clauses has a literal that isn't false
abbrev pub AllRemain : Values → List (List Lit) → Type 0
AllRemain values clauses = All (λ clause. ¬ (left_of values clause ≡ [])) clauses

-- so has each clause of family 2 or 3 of a variable, which is given with its number
abbrev pub VariableRemains : Values → Geometry → (List Cell → List Cell) → Levels → ℕ × Variable → Type 0
VariableRemains values g around u x = AllRemain values (covering_at around u.shape u.level u.vars x) × AllRemain values (support_at g u.vars x)

-- of this room, so much is left behind `size`, or it is too little
abbrev pub IsRoomAfter : ℕ → ℕ → Option ℕ → Type 0
IsRoomAfter room size result = MatchOption result (room < size) (λ left. left + size ≡ room)

-- the tile of the variable of this number
abbrev pub tile_of : List Variable → ℕ → List Cell
tile_of vars n = (slice_index_or vars (n - 1) (record { level = 0; tile = [] })).tile

-- the numbers above `above`, of the variables of level at most `most`, of tiles that have the cell and are apart from this one
abbrev pub supporters_at : List Variable → List Cell → ℕ → ℕ → Cell → List ℕ
supporters_at vars tile above most c = filter (λ n. not (meet (tile_of vars n) tile)) (covering_after vars above most c)

-- the cells of a list that lie outside the shape
abbrev pub outside : List Cell → List Cell → List Cell
outside shape cells = filter (λ c. not (has shape c)) cells

-- how many clauses of family 2 each variable has
abbrev pub covering_counts : (List Cell → List Cell) → Levels → List ℕ
covering_counts around u = map (λ x. length (covering_at around u.shape u.level u.vars x)) (enumerate_from 1 u.vars)

-- what the clauses are found by: the universe of the shape, the cells around it in each turn, how many clauses of family 2 each
-- variable has, and the last variable of level 1
pub record AreTables (g : Geometry) (u : Levels) (shape : List Cell) (first : List Cell) (rings : List TurnedRing) (counts : List ℕ) (lowest : ℕ) : Type 0 where
  pub plan : IsPlan g u shape u.level rings
  pub first_is : (around : List Cell → List Cell) → GivesCellsAround g around → first ≡ around u.shape
  pub counts_are : (around : List Cell → List Cell) → GivesCellsAround g around → counts ≡ covering_counts around u
  pub lowest_within : lowest ≤ length u.vars
  pub low : (n : ℕ) (x : Variable) → IsNumbered u.vars n x → n ≤ lowest → x.level < 2
  pub high : (n : ℕ) (x : Variable) → IsNumbered u.vars n x → lowest < n → 2 ≤ x.level
