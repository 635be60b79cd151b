-- Clauses made of numbered variables, over whatever stands for a literal.
use Rattle.std.specs.Prelude.{◌≡◌, ℕ, Bool, false, cond, not, ◌==◌, Some, None, List, length, IsTrue, All, sum_by, filter_map}
use Rattle.std.specs.List.{list_any, enumerate_from}

-- what stands for literals: a variable itself and its negation, by its number, and when a literal is true
pub record Literals (L : Type 0) : Type 0 where
  pub plus : ℕ → L
  pub minus : ℕ → L
  pub holds : (ℕ → Bool) → L → Bool
  pub plus_holds : (values : ℕ → Bool) (n : ℕ) → holds values (plus n) ≡ values n
  pub minus_holds : (values : ℕ → Bool) (n : ℕ) → holds values (minus n) ≡ not (values n)

-- whether the clause is true under the assignment
abbrev pub clause_holds : {L : Type 0} → Literals L → (ℕ → Bool) → List L → Bool
clause_holds ls values clause = list_any (ls.holds values) clause

-- the assignment makes every clause true
abbrev pub Satisfies : {L : Type 0} → Literals L → (ℕ → Bool) → List (List L) → Type 0
Satisfies ls values clauses = All (λ clause. IsTrue (clause_holds ls values clause)) clauses

-- some assignment makes every clause true
abbrev pub IsSatisfiable : {L : Type 0} → Literals L → List (List L) → Type 0
IsSatisfiable ls clauses = (values : ℕ → Bool) × Satisfies ls values clauses

-- the sum of the clause lengths
abbrev pub formula_size : {L : Type 0} → List (List L) → ℕ
formula_size clauses = sum_by length clauses

-- the clause of the negated variables and of the asserted ones, in rising order; a variable is its number, from 1, and what it stands for
abbrev pub clause_of : {L V : Type 0} → Literals L → (ℕ × V → Bool) → (ℕ × V → Bool) → List V → List L
clause_of ls negated asserted vars = filter_map (λ x. cond (negated x) (Some (ls.minus x.0)) (cond (asserted x) (Some (ls.plus x.0)) None)) (enumerate_from 1 vars)

-- a test that no variable passes
abbrev pub no_variable : {V : Type 0} → ℕ × V → Bool
no_variable x = false

-- the test for the variable of this number
abbrev pub is_numbered : {V : Type 0} → ℕ → ℕ × V → Bool
is_numbered n x = x.0 == n
