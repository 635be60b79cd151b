-- The pairs of variables that share a cell, by the first of the two.
use Rattle.std.specs.Prelude.{◌≡◌, ℕ, ◌<◌, ◌&&◌, true, false, nat_lt, List, map, filter, length, flat_map, Contains}
use Rattle.std.specs.List.{enumerate_from}
use Rattle.heesch_grid.specs.declared.Cell.{Cell}
use Rattle.heesch_grid.specs.Cells.{meet, set_of}
use Rattle.heesch_cnf.specs.declared.literal.Lit.{Lit}

-- the variables with a greater number that share a cell with this one; each is given with its number
abbrev pub later_sharing : List (List Cell) → ℕ × List Cell → List (ℕ × List Cell)
later_sharing sets u = filter (λ (v : ℕ × List Cell). nat_lt u.0 v.0 && meet u.1 v.1) (enumerate_from 1 sets)

-- the variable of a number, with it
abbrev pub variable_at : List (List Cell) → ℕ → ℕ × List Cell
variable_at sets n = (n, set_of sets n)

-- their numbers
abbrev pub later_numbers : List (List Cell) → ℕ × List Cell → List ℕ
later_numbers sets u = map (λ (v : ℕ × List Cell). v.0) (later_sharing sets u)

-- those of each variable, one variable after another
abbrev pub all_later : List (List Cell) → List ℕ
all_later sets = flat_map (later_numbers sets) (enumerate_from 1 sets)

-- how many such variables each has
abbrev pub later_counts : List (List Cell) → List ℕ
later_counts sets = map (λ u. length (later_sharing sets u)) (enumerate_from 1 sets)

-- the literal is the negation of a variable with a greater number that shares a cell with this one
pub record IsMet (sets : List (List Cell)) (u : ℕ) (l : Lit) : Type 0 where
  pub negative : l.positive ≡ false
  pub later : u < l.var
  pub meets : meet (set_of sets u) (set_of sets l.var) ≡ true

-- the clause has such a literal
pub record MeetsOneOf (sets : List (List Cell)) (u : ℕ) (clause : List Lit) : Type 0 where
  pub other : Lit
  pub inside : Contains clause other
  pub met : IsMet sets u other

-- the literal is the negation of a variable, and the clause has that of a later one that shares a cell with it
abbrev pub IsOneOfTwo : List (List Cell) → Lit → List Lit → Type 0
IsOneOfTwo sets l clause = (l.positive ≡ false) × MeetsOneOf sets l.var clause
