-- Sizes of a cover problem's table, and ranges of its numbers.
use Rattle.std.specs.Prelude.{◌≡◌, ℕ, ◌+◌, ◌<◌, ◌^◌, List, All}

-- the numbers are below the bound
abbrev pub AreBelow : ℕ → List ℕ → Type 0
AreBelow bound numbers = All (λ n. n < bound) numbers

-- so many lists of numbers below a bound
pub record Lists : Type 0 where
  pub bound : ℕ
  pub count : ℕ

-- the numbers of the variables, of the cells and of the wants
pub record Sizes : Type 0 where
  pub vars : ℕ
  pub cells : ℕ
  pub wants : ℕ
