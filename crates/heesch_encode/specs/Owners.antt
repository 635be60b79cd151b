-- The clauses that come before the last family, and the cells that several variables have.
use Rattle.std.specs.Prelude.{ℕ, ◌==◌, ◌&&◌, Bool, nat_le, List, ◌++◌, length, slice_index_or}
use Rattle.heesch_cnf.specs.declared.literal.Lit.{Lit}
use Rattle.heesch_grid.specs.declared.Cell.{Cell}
use Rattle.heesch_grid.specs.Geometry.{Geometry}
use Rattle.heesch_grid.specs.CoronaFormula.{Variable, first_clauses, covering_clauses, support_clauses}
use Rattle.heesch_grid.specs.OwnerFormula.{holders}
use Rattle.heesch_cert.specs.Literals.{literals}

-- families 1 to 3, which both formulas have
abbrev pub common_clauses : Geometry → (List Cell → List Cell) → List Cell → ℕ → List Variable → List (List Lit)
common_clauses g around shape j vars = first_clauses literals around shape vars ++ covering_clauses literals around shape j vars ++ support_clauses literals g vars

-- the number is the first of at least two
abbrev pub is_first_of_some : ℕ → List ℕ → Bool
is_first_of_some n numbers = nat_le 2 (length numbers) && (slice_index_or numbers 0 0 == n)

-- the variable of this number is the first of at least two that have the cell
abbrev pub is_first_holder : List Variable → ℕ → Cell → Bool
is_first_holder vars n c = is_first_of_some n (holders vars c)
