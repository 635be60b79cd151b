-- What unit propagation gives over clauses.
use Rattle.std.specs.Prelude.{◌≡◌, ◌<◌, ℕ, Bool, true, false, Option, None, Some, List, count_by, is_none}
use Rattle.heesch_cnf.specs.declared.literal.Lit.{Lit}
use Rattle.heesch_cnf.specs.Literals.{Values, held}
use Rattle.heesch_trail.specs.Fixpoint.{IsFixpoint}

-- the first values give each value that the second give
abbrev pub Extends : Values → Values → Type 0
Extends others values = (x : ℕ) (b : Bool) → values x ≡ Some b → others x ≡ Some b

-- the values that unit propagation gives: under them each clause has a true literal or two open ones, and so it has under no values without them
pub record IsPropagated (clauses : List (List Lit)) (values : Values) : Type 0 where
  pub fixpoint : IsFixpoint values clauses
  pub least : (others : Values) → IsFixpoint others clauses → Extends others values

-- unit propagation ends in a conflict: under no values has each clause a true literal or two open ones
abbrev pub HasConflict : List (List Lit) → Type 0
HasConflict clauses = (values : Values) → ¬ IsFixpoint values clauses

-- unit propagation ends without a conflict: under some values each clause has a true literal or two open ones
abbrev pub EndsOpen : List (List Lit) → Type 0
EndsOpen clauses = (values : Values) × IsFixpoint values clauses

-- it ends in a conflict from these values on: under no values that extend them has each clause a true literal or two open ones
abbrev pub HasConflictOver : List (List Lit) → Values → Type 0
HasConflictOver clauses before = (others : Values) → IsFixpoint others clauses → ¬ Extends others before

-- the clauses force the further values upon what extends the ones before
abbrev pub Forces : List (List Lit) → Values → Values → Type 0
Forces clauses before after = (others : Values) → IsFixpoint others clauses → Extends others before → Extends others after

-- how many variables are open
abbrev pub open_count : List (Option Bool) → ℕ
open_count values = count_by is_none values

-- the values after extend those before by forced ones alone; where none came (`grew` is false), they are a fixpoint
pub record IsForcedExtension (clauses : List (List Lit)) (before : List (Option Bool)) (grew : Bool) (after : List (Option Bool)) : Type 0 where
  pub forced : Forces clauses (held before) (held after)
  pub still : grew ≡ false → (after ≡ before) × IsFixpoint (held after) clauses
  pub fewer : grew ≡ true → open_count after < open_count before

-- the clauses are in conflict with the values before, or the values after are such an extension of them
abbrev pub ConflictOrExtension : List (List Lit) → List (Option Bool) → Option Bool → List (Option Bool) → Type 0
ConflictOrExtension clauses before None after = HasConflictOver clauses (held before)
ConflictOrExtension clauses before (Some grew) after = IsForcedExtension clauses before grew after
