-- Clauses: what literals make one, and how one contains another.
use Rattle.std.specs.Prelude.{◌≡◌, ℕ, ◌-◌, ◌<◌, ◌≤◌, Bool, false, not, List, length, filter, slice_index_or, All, Contains}
use Rattle.std.specs.List.{AllAdjacentBelow}
use Rattle.heesch_cnf.specs.declared.literal.Lit.{Lit}
use Rattle.heesch_cnf.specs.Literals.{Values, lit_value, is_false_value}

-- the variables of the literals are 1 to `vars` and strictly rise
pub record IsClause (vars : ℕ) (clause : List Lit) : Type 0 where
  pub in_range : All (λ l. (1 ≤ l.var) × (l.var ≤ vars)) clause
  pub rising : AllAdjacentBelow (λ l m. l.var < m.var) clause (length clause)

-- each list is a clause over these variables
abbrev pub AreClauses : ℕ → List (List Lit) → Type 0
AreClauses vars clauses = All (IsClause vars) clauses

-- the literals of a clause that aren't false
abbrev pub left_of : Values → List Lit → List Lit
left_of values clause = filter (λ l. not (is_false_value (lit_value values l))) clause

-- as sets of literals, the whole contains the part
abbrev pub IsWithin : List Lit → List Lit → Type 0
IsWithin part whole = All (Contains whole) part

-- this clause contains no clause of the list
abbrev pub IsNew : List (List Lit) → List Lit → Type 0
IsNew earlier clause = All (λ e. ¬ (IsWithin e clause)) earlier

-- a literal is true under an assignment of all variables
abbrev pub IsMadeTrue : (ℕ → Bool) → Lit → Type 0
IsMadeTrue v l = v l.var ≡ l.positive

-- a clause is true under an assignment where one of its literals is
abbrev pub IsSatisfied : (ℕ → Bool) → List Lit → Type 0
IsSatisfied v clause = (l : Lit) × (Contains clause l × IsMadeTrue v l)

-- the assignment that a list of values is, in number order from 1
abbrev pub assignment_of : List Bool → ℕ → Bool
assignment_of values v = slice_index_or values (v - 1) false

-- all clauses are true under the assignment
abbrev pub Satisfies : (ℕ → Bool) → List (List Lit) → Type 0
Satisfies v clauses = All (IsSatisfied v) clauses
