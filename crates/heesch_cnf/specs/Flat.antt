-- Clauses that stand one after another in one list of literals, and literals in one number.
use Rattle.std.specs.Prelude.{ℕ, ◌+◌, ◌*◌, ◌/◌, ◌%◌, ◌<◌, ◌≤◌, ◌^◌, ◌==◌, if◌then◌else◌, List, length}
use Rattle.heesch_io.specs.Pieces.{pieces, AreEnds}
use Rattle.heesch_cnf.specs.declared.literal.Lit.{Lit}
use Rattle.heesch_cnf.specs.Clauses.{AreClauses}

-- the number of a literal: twice its variable, and one more where it is positive
abbrev pub code_of : Lit → ℕ
code_of l = 2 * l.var + (if l.positive then 1 else 0)

-- the literal of a number
abbrev pub literal_of : ℕ → Lit
literal_of code = record { var = code / 2; positive = code % 2 == 1 }

-- what contracts see of a formula: its clauses, over the variables 1 to `vars`
pub record Clauses : Type 0 where
  pub vars : ℕ
  pub clauses : List (List Lit)

-- a formula's parts: its ends cut all literals into at most 2^31 clauses over fewer than 2^31 variables
pub record IsFlat (vars : ℕ) (literals : List Lit) (ends : List ℕ) : Type 0 where
  pub cut : AreEnds 0 ends (length literals)
  pub small : vars < 2 ^ 31
  pub few : length ends ≤ 2 ^ 31
  pub form : AreClauses vars (pieces literals 0 ends)
