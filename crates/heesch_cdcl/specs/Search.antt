-- Where a descent ends.
use Rattle.std.specs.Prelude.{◌≡◌, ◌≢◌, ℕ, ◌<◌, ◌≤◌, Option, Some, None}
use Rattle.heesch_cnf.specs.declared.literal.Lit.{Lit}
use Rattle.heesch_cnf.specs.Lines.{IsNumber, numbered}
use Rattle.heesch_trail.specs.Fixpoint.{IsFixpoint, IsFalse}
use Rattle.heesch_trail.specs.State.{State, values_of, level_of, up_to}

-- below the present level, every clause has a true literal or two open ones at each level
abbrev pub LowerFixpoints : State → Type 0
LowerFixpoints trail = (j : ℕ) → j < level_of trail.steps → IsFixpoint (values_of (up_to j trail.steps)) trail.clauses

-- each variable has a value
abbrev pub IsComplete : State → Type 0
IsComplete trail = (v : ℕ) → 1 ≤ v → v ≤ trail.vars → values_of trail.steps v ≢ None

-- every clause has a true literal or two open ones, and no variable is open; or all literals of a clause are false
abbrev pub IsDescent : State → Option ℕ → Type 0
IsDescent trail None = IsFixpoint (values_of trail.steps) trail.clauses × IsComplete trail
IsDescent trail (Some n) = IsNumber trail.clauses n × IsFalse (values_of trail.steps) (numbered trail.clauses n)

-- a variable has no value
abbrev pub IsOpen : State → ℕ → Type 0
IsOpen trail v = (1 ≤ v) × (v ≤ trail.vars) × (values_of trail.steps v ≡ None)

-- a variable behind this one without a value, or none where each of these has one
abbrev pub IsNextOpen : State → ℕ → Option ℕ → Type 0
IsNextOpen trail passed None = (v : ℕ) → passed < v → v ≤ trail.vars → values_of trail.steps v ≢ None
IsNextOpen trail passed (Some v) = IsOpen trail v

-- a variable without a value, or none where each has one
abbrev pub IsAnyOpen : State → Option ℕ → Type 0
IsAnyOpen trail None = IsComplete trail
IsAnyOpen trail (Some v) = IsOpen trail v

-- a literal whose variable has no value, or none where each variable has one
abbrev pub IsChoice : State → Option Lit → Type 0
IsChoice trail None = IsComplete trail
IsChoice trail (Some l) = IsOpen trail l.var

-- the variables and the clauses are the same
pub record SameClauses (old new : State) : Type 0 where
  pub vars : new.vars ≡ old.vars
  pub clauses : new.clauses ≡ old.clauses
