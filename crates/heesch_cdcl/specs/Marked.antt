-- The clause of the marked variables.
use Rattle.std.specs.Prelude.{◌≡◌, ◌⊎◌, ℕ, Bool, true, false, not, Some, List, unwrap_or, All, Contains}
use Rattle.heesch_cnf.specs.declared.literal.Lit.{Lit}
use Rattle.heesch_cnf.specs.Clauses.{IsClause}
use Rattle.heesch_trail.specs.declared.step.Step.{Step}
use Rattle.heesch_trail.specs.State.{values_of}
use Rattle.heesch_cdcl.specs.Marking.{marked, level_in}

-- the literal of a variable that its value makes false
abbrev pub falsified : List Step → ℕ → Lit
falsified steps v = record { var = v; positive = not (unwrap_or (values_of steps v) false) }

-- a clause of these literals, of the marked variables and no others
pub record IsClauseOfMarked (vars : ℕ) (steps : List Step) (seen : List Bool) (clause : List Lit) : Type 0 where
  pub form : IsClause vars clause
  pub each : All (λ (l : Lit). (l ≡ falsified steps l.var) × (marked seen l.var ≡ true)) clause
  pub has : (v : ℕ) → marked seen v ≡ true → Contains clause (falsified steps v)

-- 0, or the level of a variable of the clause
abbrev pub IsLevelIn : List Step → List Lit → ℕ → Type 0
IsLevelIn steps clause back = (back ≡ 0) ⊎ ((l : Lit) × (Contains clause l × (level_in steps l.var ≡ Some back)))
