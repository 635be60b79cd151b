-- The clause text of a formula, and its least clause that an assignment makes false.
use Rattle.std.specs.Prelude.{ℕ, ◌-◌, Bool, List, ◌++◌, length, take, codes, decimal}
use Rattle.std.specs.List.{flat_map}
use Rattle.heesch_cnf.specs.declared.literal.Lit.{Lit}
use Rattle.heesch_cnf.specs.Clauses.{IsSatisfied, Satisfies}
use Rattle.heesch_cnf.specs.Lines.{numbered, IsNumber}
use Rattle.heesch_text.specs.Fields.{lit_text}

-- a literal, and a space after it
abbrev pub lit_word : Lit → List ℕ
lit_word l = lit_text l ++ codes " "

-- a line: the literals of a clause, a space after each, and `0`
abbrev pub clause_line : List Lit → List ℕ
clause_line clause = flat_map lit_word clause ++ codes "0\n"

-- a line for each clause, in order
abbrev pub clause_lines : List (List Lit) → List ℕ
clause_lines clauses = flat_map clause_line clauses

-- the line `p cnf V C`, with the numbers of variables and clauses
abbrev pub problem_line : (vars count : ℕ) → List ℕ
problem_line vars count = codes "p cnf " ++ decimal vars ++ codes " " ++ decimal count ++ codes "\n"

-- the clause text of a formula
abbrev pub clause_text : ℕ → List (List Lit) → List ℕ
clause_text vars clauses = problem_line vars (length clauses) ++ clause_lines clauses

-- the clause of this number, from 1, is false under the assignment, and those before it are true
pub record IsFirstFalse (v : ℕ → Bool) (clauses : List (List Lit)) (number : ℕ) : Type 0 where
  pub is_number : IsNumber clauses number
  pub is_false : ¬ (IsSatisfied v (numbered clauses number))
  pub others : Satisfies v (take (number - 1) clauses)
