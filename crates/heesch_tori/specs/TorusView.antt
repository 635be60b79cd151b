-- The torus formula as a source of clauses.
use Rattle.std.specs.Prelude.{◌≡◌, ℕ, ◌*◌, ◌≤◌, List, ◌++◌, map, length, sum}
use Rattle.heesch_cnf.specs.declared.literal.Lit.{Lit}
use Rattle.heesch_cnf.specs.Flat.{Clauses}
use Rattle.heesch_grid.specs.declared.Cell.{Cell}
use Rattle.heesch_grid.specs.Cells.{meet}
use Rattle.heesch_grid.specs.CoronaFormula.{exclusion_clauses}
use Rattle.heesch_cert.specs.Literals.{literals}
use Rattle.heesch_encode.specs.Literals.{plus_all}
use Rattle.heesch_torus.specs.Variables.{TorusVariable, sets_of}
use Rattle.heesch_tori.specs.Later.{all_later, later_counts}
use Rattle.heesch_tori.specs.Shared.{Tabled}

-- of each cell one of the variables that have it, which stand in a list, and of each two sets that share a cell not both
unfoldable pub table_clauses : List (List Cell) → List (List ℕ) → List (List Lit)
table_clauses sets lists = map plus_all lists ++ exclusion_clauses literals meet sets

-- what contracts see of a source: the variables, and the formula over them
pub record TorusView : Type 0 where
  pub variables : List TorusVariable
  pub formula : Clauses

-- the source of these variables and of the lists of the cells
abbrev pub torus_view : List TorusVariable → List (List ℕ) → TorusView
torus_view variables lists = record { variables = variables; formula = record { vars = length variables; clauses = table_clauses (sets_of variables) lists } }

-- the counts and the numbers are those of the pairs of the table's variables, of which there are at most so many
pub record ListsPairs (table : Tabled) (counts numbers : List ℕ) : Type 0 where
  pub counts_are : counts ≡ later_counts (sets_of table.variables)
  pub numbers_are : numbers ≡ all_later (sets_of table.variables)
  pub few : sum counts ≤ 4608 * 4608
