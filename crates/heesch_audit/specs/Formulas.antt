-- The corona formula that proofs are checked over.
use Rattle.std.specs.Prelude.{◌≡◌, ◌≤◌, ℕ, Option, MatchOption, List, ⊤}
use Rattle.heesch_grid.specs.declared.Cell.{Cell}
use Rattle.heesch_grid.specs.Clauses.{formula_size}
use Rattle.heesch_grid.specs.Geometry.{Geometry}
use Rattle.heesch_cnf.specs.Flat.{Clauses}
use Rattle.heesch_cnf.specs.declared.version.Version.{Version}
use Rattle.heesch_cert.specs.Formulas.{IsCountedFormula}
use Rattle.heesch_cert.specs.Proofs.{IsTooLarge}
use Rattle.heesch_cert.specs.declared.limits.Limits.{Limits}
use Rattle.heesch_cert.specs.declared.entry.Bare.{Bare}
use Rattle.heesch_cert.specs.declared.entry.Bare.TheVariants.{Absent as NoBare, Same as BareSame, Open as BareOpen}
use Rattle.heesch_place.specs.Universes.{Levels, IsUniverseOf}
use Rattle.heesch_numbers.specs.Sourced.{Sourced}

-- the formula is E(S, j) of the version over this universe, and has at most `size` literals
pub record IsFormulaAt (version : Version) (g : Geometry) (shape : List Cell) (j size : ℕ) (universe : Levels) (formula : Clauses) : Type 0 where
  pub is_universe : IsUniverseOf g universe
  pub same_shape : universe.shape ≡ shape
  pub same_level : universe.level ≡ j
  pub counted : IsCountedFormula version g shape j universe.vars formula.vars formula.clauses
  pub fits : formula_size formula.clauses ≤ size

-- a formula, as it is seen, is E(S, j) of the version, or there is none, since that has more than `size` literals
abbrev pub IsFormulaUpTo : {F : Type 0} → (F → Sourced) → Version → Geometry → List Cell → ℕ → ℕ → Option F → Type 0
IsFormulaUpTo seen version g shape j size formula =
    MatchOption formula (IsTooLarge version g shape j size) (λ f. IsFormulaAt version g shape j size (seen f).universe (seen f).formula)

-- it is E(S, j) under the limits, or there is none, since that has more literals than they allow
abbrev pub IsLevelFormula : {F : Type 0} → (F → Sourced) → Geometry → Limits → List Cell → ℕ → Option F → Type 0
IsLevelFormula seen g limits shape j formula = IsFormulaUpTo seen limits.version g shape j limits.size formula

-- the search with holes allowed has an end that a formula is needed for
abbrev pub AsksFormula : Bare → Type 0
AsksFormula NoBare = ⊥
AsksFormula BareSame = ⊥
AsksFormula BareOpen = ⊥
AsksFormula bare = ⊤
