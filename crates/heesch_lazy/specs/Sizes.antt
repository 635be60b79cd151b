-- Sizes of a log, and ranges of an answer.
use Rattle.std.specs.Prelude.{ℕ, ◌≤◌, List, All}
use Rattle.heesch_lazy.specs.declared.search.Found.{Found}
use Rattle.heesch_lazy.specs.declared.search.Found.TheVariants.{Model, Refuted, Spent, GaveUp}

-- the numbers of the variables and of the lines
pub record Sizes : Type 0 where
  pub vars : ℕ
  pub lines : ℕ

-- what is found names variables alone
abbrev pub IsFound : ℕ → Found → Type 0
IsFound vars (Model chosen) = All (λ v. (1 ≤ v) × (v ≤ vars)) chosen
IsFound vars Refuted = Unit {0}
IsFound vars Spent = Unit {0}
IsFound vars GaveUp = Unit {0}
