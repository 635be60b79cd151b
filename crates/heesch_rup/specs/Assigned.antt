-- Assignments by what they leave open.
use Rattle.std.specs.Prelude.{◌≡◌, ℕ, ◌<◌, Bool, Option, None, List, [], length, All, Contains}
use Rattle.heesch_cnf.specs.Literals.{Values, held, making}

-- every variable is open
abbrev pub all_open : Values
all_open = making []

-- the list has a place for each of these variables
abbrev pub HavePlaces : List (Option Bool) → List ℕ → Type 0
HavePlaces values variables = All (λ v. v < length values) variables

-- a variable that isn't listed is open
abbrev pub OthersAreOpen : List (Option Bool) → List ℕ → Type 0
OthersAreOpen values variables = (v : ℕ) → (Contains variables v → ⊥) → held values v ≡ None
