-- How many literals of a clause aren't false.
use Rattle.std.specs.Prelude.{◌≡◌, ◌<◌, ◌≤◌, Bool, Option, List, [], ◌∷◌, length, All}
use Rattle.heesch_cnf.specs.declared.literal.Lit.{Lit}
use Rattle.heesch_cnf.specs.declared.values.Left.{Left}
use Rattle.heesch_cnf.specs.declared.values.Left.TheVariants.{Nothing, One, More}
use Rattle.heesch_cnf.specs.Literals.{Values}
use Rattle.heesch_cnf.specs.Clauses.{left_of}

-- the list has a place for each variable of the clause
abbrev pub FitsIn : List (Option Bool) → List Lit → Type 0
FitsIn values clause = All (λ l. l.var < length values) clause

-- what the answer says of the literals that aren't false: there is none, just this one, or there are at least two
abbrev pub IsLeft : Values → List Lit → Left → Type 0
IsLeft values clause Nothing = left_of values clause ≡ []
IsLeft values clause (One l) = left_of values clause ≡ l ∷ []
IsLeft values clause More = 2 ≤ length (left_of values clause)
