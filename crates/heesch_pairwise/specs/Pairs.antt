-- The clauses of the variables that meet, two and two, and how many there are.
use Rattle.std.specs.Prelude.{ℕ, ◌<◌, List, [], ◌∷◌, map, length, Contains}
use Rattle.std.specs.List.{enumerate_from}
use Rattle.heesch_cnf.specs.declared.literal.Lit.{Lit}
use Rattle.heesch_grid.specs.Clauses.{formula_size}
use Rattle.heesch_grid.specs.CoronaFormula.{Variable, apart_clauses}
use Rattle.heesch_cert.specs.Literals.{literals}
use Rattle.heesch_encode.specs.Families.{apart_at}

-- not both of each two variables whose tiles meet, the lower number first
abbrev pub pairs_of : List Variable → List (List Lit)
pairs_of vars = apart_clauses literals vars

-- how many of these clauses each variable begins: one for each later variable that meets it
abbrev pub pair_counts : List Variable → List ℕ
pair_counts vars = map (λ x. length (apart_at vars x)) (enumerate_from 1 vars)

-- the clauses are of more than so many literals
abbrev pub HaveMoreThan : List Variable → ℕ → Type 0
HaveMoreThan vars room = room < formula_size (pairs_of vars)

-- the two variables of these numbers have a clause, the first of them first
abbrev pub HavePair : List Variable → ℕ → ℕ → Type 0
HavePair vars n m = Contains (pairs_of vars) (literals.minus n ∷ literals.minus m ∷ [])

-- this variable has a clause with a later one, whose negation is in the clause
pub record HasLater (vars : List Variable) (n : ℕ) (clause : List Lit) : Type 0 where
  pub other : ℕ
  pub inside : Contains clause (literals.minus other)
  pub is_one : HavePair vars n other
