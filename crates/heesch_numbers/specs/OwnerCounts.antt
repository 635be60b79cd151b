-- How many clauses and owner variables the owned cells of a universe have.
use Rattle.std.specs.Prelude.{◌≡◌, ℕ, ◌+◌, ◌*◌, ◌<◌, ◌≤◌, ◌^◌, List, [], ◌∷◌, length, map, sum_by, Contains}
use Rattle.heesch_grid.specs.declared.Cell.{Cell}
use Rattle.heesch_grid.specs.Listing.{ListsExactly}
use Rattle.heesch_grid.specs.Cells.{cell_before}
use Rattle.heesch_grid.specs.Clauses.{formula_size}
use Rattle.heesch_grid.specs.CoronaFormula.{Variable}
use Rattle.heesch_grid.specs.OwnerFormula.{holders, IsOwned, owner_count, owner_clauses}
use Rattle.heesch_cert.specs.Literals.{literals}
use Rattle.heesch_cnf.specs.declared.literal.Lit.{Lit}
use Rattle.heesch_numbers.specs.declared.owners.OwnerClauses.{OwnerClauses}

-- how many clauses the last family has for the cell: one for each variable that has it and each bit of a rank
abbrev pub clause_count : List Variable → Cell → ℕ
clause_count vars c = length (holders vars c) * owner_count vars c

-- the clauses of these cells, whose owner variables are numbered after the universe's
abbrev pub owners_of : List Variable → List Cell → List (List Lit)
owners_of vars owned = owner_clauses literals vars (length vars + 1) owned

-- how many variables there are with the owner variables of these cells
abbrev pub vars_with : List Variable → List Cell → ℕ
vars_with vars owned = length vars + sum_by (owner_count vars) owned

-- no cell is in the tiles of more than so many variables
pub record IsHoldersBound (vars : List Variable) (most : ℕ) : Type 0 where
  pub each : (c : Cell) → length (holders vars c) ≤ most

-- the counts are those of the cells that several variables have
pub record AreOwners (vars : List Variable) (o : OwnerClauses) : Type 0 where
  pub cells : ListsExactly cell_before (IsOwned vars) o.cells.items
  pub clauses : o.clauses ≡ map (clause_count vars) o.cells.items
  pub owners : o.owners ≡ map (owner_count vars) o.cells.items
  pub small : vars_with vars o.cells.items < 2 ^ 31

-- the clauses of the cells that several variables have are of more than so many literals
pub record HaveMoreThan (vars : List Variable) (room : ℕ) : Type 0 where
  pub owned : List Cell
  pub are_owned : ListsExactly cell_before (IsOwned vars) owned
  pub above : room < formula_size (owners_of vars owned)

-- one of the clauses is the negation of a variable, which is in this clause, and the literal
pub record HasOneOf (clauses : List (List Lit)) (owner : Lit) (clause : List Lit) : Type 0 where
  pub var : ℕ
  pub inside : Contains clause (literals.minus var)
  pub is_one : Contains clauses (literals.minus var ∷ owner ∷ [])
