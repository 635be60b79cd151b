-- Lists of literals.
use Rattle.std.specs.Prelude.{◌≡◌, ◌⊎◌, ℕ, Bool, nat_lt, List, map, Contains}
use Rattle.heesch_cnf.specs.declared.literal.Lit.{Lit}
use Rattle.heesch_cert.specs.Literals.{literals}

-- the variables of these numbers
abbrev pub plus_all : List ℕ → List Lit
plus_all numbers = map literals.plus numbers

-- the order of literals by their variables
abbrev pub lit_before : Lit → Lit → Bool
lit_before l m = nat_lt l.var m.var

-- the literal is the negation of the first variable, or one of the others
abbrev pub IsOfImplication : ℕ → List ℕ → Lit → Type 0
IsOfImplication n numbers l = (l ≡ literals.minus n) ⊎ ((m : ℕ) × (Contains numbers m × (l ≡ literals.plus m)))
