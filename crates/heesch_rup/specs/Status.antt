-- What a clause comes to under an assignment.
use Rattle.std.specs.Prelude.{◌≡◌, ◌≢◌, None, List, [], ◌∷◌}
use Rattle.heesch_cnf.specs.declared.literal.Lit.{Lit}
use Rattle.heesch_cnf.specs.Literals.{Values, lit_value}
use Rattle.heesch_cnf.specs.Clauses.{left_of}
use Rattle.heesch_rup.specs.declared.status.Status.{Status}
use Rattle.heesch_rup.specs.declared.status.Status.TheVariants.{Falsified, Unit, Other}

-- exactly one literal of the clause isn't false, and it is open
abbrev pub IsUnit : Values → List Lit → Lit → Type 0
IsUnit values clause l = (left_of values clause ≡ l ∷ []) × (lit_value values l ≡ None)

-- what a clause comes to: all its literals are false, or all but an open one, or neither
abbrev pub IsStatus : Values → List Lit → Status → Type 0
IsStatus values clause Falsified = left_of values clause ≡ []
IsStatus values clause (Unit l) = IsUnit values clause l
IsStatus values clause Other = (left_of values clause ≢ []) × ((l : Lit) → IsUnit values clause l → ⊥)
