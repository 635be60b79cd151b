-- The clauses by which decisions are taken.
use Rattle.std.specs.Prelude.{◌≡◌, ℕ, ◌+◌, ◌≤◌, List, length, All}
use Rattle.heesch_io.specs.Pieces.{AreEnds}
use Rattle.heesch_cnf.specs.Lines.{IsNumber}
use Rattle.heesch_trail.specs.State.{State}

-- what contracts see of the covers: the number of the variables, and the clauses' numbers
pub record Scope : Type 0 where
  pub vars : ℕ
  pub numbers : List ℕ

-- the places cut a front of so many items
pub record AreWithin (ends : List ℕ) (most : ℕ) : Type 0 where
  pub size : ℕ
  pub cut : AreEnds 0 ends size
  pub below : size ≤ most

-- a list for each variable and one for 0, one after another at the front of all numbers, by the places where they end
pub record AreLists (vars : ℕ) (numbers ends : List ℕ) : Type 0 where
  pub lists : length ends ≡ vars + 1
  pub within : AreWithin ends (length numbers)

-- the covers are clauses of the trail, over its variables
pub record Guides (scope : Scope) (trail : State) : Type 0 where
  pub vars : scope.vars ≡ trail.vars
  pub numbers : All (IsNumber trail.clauses) scope.numbers
