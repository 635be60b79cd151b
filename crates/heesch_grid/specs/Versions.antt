-- The corona formula E(S, j) of a version. A version is written as its number, 1 or 2.
use Rattle.std.specs.Prelude.{◌≡◌, ℕ, zero, suc, List, length}
use Rattle.heesch_grid.specs.declared.Cell.{Cell}
use Rattle.heesch_grid.specs.Geometry.{Geometry}
use Rattle.heesch_grid.specs.Clauses.{Literals}
use Rattle.heesch_grid.specs.CoronaFormula.{Variable, IsCoronaFormula}
use Rattle.heesch_grid.specs.OwnerFormula.{IsOwnerFormula}

-- the clauses are E1(S, j) in version 1 and E2(S, j) in version 2, over this universe, and the variables of the formula are those from 1 to `count`; there is no other version
abbrev pub IsFormulaOf : {L : Type 0} → Literals L → ℕ → Geometry → List Cell → ℕ → List Variable → ℕ → List (List L) → Type 0
IsFormulaOf ls zero g shape j vars count clauses = ⊥
IsFormulaOf ls (suc zero) g shape j vars count clauses = IsCoronaFormula ls g shape j vars clauses × (count ≡ length vars)
IsFormulaOf ls (suc (suc zero)) g shape j vars count clauses = IsOwnerFormula ls g shape j vars count clauses
IsFormulaOf ls (suc (suc (suc n))) g shape j vars count clauses = ⊥
