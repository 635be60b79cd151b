-- Literals and partial assignments.
use Rattle.std.specs.Prelude.{ℕ, Bool, true, false, not, Option, None, Some, List, [], ◌∷◌, ◌==◌, if◌then◌else◌, slice_index_or}
use Rattle.heesch_cnf.specs.declared.literal.Lit.{Lit}

-- the literal of the same variable with the other sign
abbrev pub opposite : Lit → Lit
opposite l = record { var = l.var; positive = not l.positive }

-- a partial assignment: the value of each variable, and none where it is open
abbrev pub Values : Type 0
Values = ℕ → Option Bool

-- a value, turned for a negative literal
abbrev pub signed : Bool → Option Bool → Option Bool
signed true value = value
signed false None = None
signed false (Some b) = Some (not b)

-- the value of a literal
abbrev pub lit_value : Values → Lit → Option Bool
lit_value values l = signed l.positive (values l.var)

-- the value of the first item with this key
abbrev pub lookup : {X A : Type 0} → (X → ℕ) → (X → A) → List X → ℕ → Option A
lookup key value [] v = None
lookup key value (x ∷ xs) v = if key x == v then Some (value x) else lookup key value xs v

-- the values that make these literals true, and leave the other variables open
abbrev pub making : List Lit → Values
making literals = lookup (λ (l : Lit). l.var) (λ (l : Lit). l.positive) literals

-- the values with one more literal made true
abbrev pub with_true : Lit → Values → Values
with_true l values = λ v. if l.var == v then Some l.positive else values v

-- there is a value, and it is false
abbrev pub is_false_value : Option Bool → Bool
is_false_value None = false
is_false_value (Some b) = not b

-- there is a value, and it is true
abbrev pub is_true_value : Option Bool → Bool
is_true_value None = false
is_true_value (Some b) = b

-- values that are held in a list, by variable
abbrev pub held : List (Option Bool) → Values
held values v = slice_index_or values v None
