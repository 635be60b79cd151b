-- The second corona formula of a universe.
use Rattle.std.proofs.Common.{◌≡◌, refl, sym, subst, ℕ, ◌+◌, ◌<◌, List, ◌++◌, length, arith}
use Rattle.heesch_cnf.specs.Clauses.{AreClauses}
use Rattle.heesch_cnf.specs.declared.version.Version.TheVariants.{Two}
use Rattle.heesch_grid.specs.declared.Cell.{Cell}
use Rattle.heesch_grid.specs.Listing.{ListsExactly}
use Rattle.heesch_grid.specs.Cells.{cell_before}
use Rattle.heesch_grid.specs.Clauses.{formula_size}
use Rattle.heesch_grid.specs.Geometry.{Geometry, IsGrid}
use Rattle.heesch_grid.specs.OwnerFormula.{IsOwned}
use Rattle.heesch_grid.proofs.AroundFacts.{cells_around}
use Rattle.heesch_cert.specs.Formulas.{IsCountedFormula}
use Rattle.heesch_cert.specs.Proofs.{IsTooLarge}
use Rattle.heesch_place.specs.Universes.{Levels, IsUniverseOf}
use Rattle.heesch_encode.proofs.Whole.{second_counted}
use Rattle.heesch_numbers.specs.declared.owners.OwnerClauses.{OwnerClauses}
use Rattle.heesch_numbers.specs.Common.{common_of}
use Rattle.heesch_numbers.specs.OwnerCounts.{AreOwners, HaveMoreThan, owners_of, vars_with}
use Rattle.heesch_numbers.specs.Sourced.{owned_formula}
use Rattle.heesch_numbers.proofs.SourceForms.{all_form, all_length, all_size}

-- the counts of one universe
pub owners_at : (u v : Levels) (o : OwnerClauses) → v ≡ u → AreOwners u.vars o → AreOwners v.vars o
owners_at u v o is are = subst (λ (w : Levels). AreOwners w.vars o) (sym is) are

-- how many clauses the formula has, and which of them a number is that of
module _ (g : Geometry) (u : Levels) (owned : List Cell) where
  pub formula_length : length (owned_formula g u owned).clauses ≡ length (common_of g (cells_around g) u) + length (owners_of u.vars owned)
  unfolding owned_formula
  formula_length = all_length g (cells_around g) u.shape u.level u.vars owned

  pub formula_form : AreClauses (owned_formula g u owned).vars (owned_formula g u owned).clauses
  unfolding owned_formula
  formula_form = all_form g (cells_around g) u.shape u.level u.vars owned

  pub formula_is : (owned_formula g u owned).clauses ≡ common_of g (cells_around g) u ++ owners_of u.vars owned
  unfolding owned_formula
  formula_is = refl

  pub formula_vars : (owned_formula g u owned).vars ≡ vars_with u.vars owned
  unfolding owned_formula
  formula_vars = refl

module _ (g : Geometry) (law : IsGrid g) (u : Levels) (shape : List Cell) (level : ℕ) (universe : IsUniverseOf g u) (shape_is : u.shape ≡ shape) (level_is : u.level ≡ level) where
  pub counted : (owned : List Cell) → ListsExactly cell_before (IsOwned u.vars) owned → IsCountedFormula Two g shape level u.vars (owned_formula g u owned).vars (owned_formula g u owned).clauses
  unfolding owned_formula
  counted owned listed =
      subst (λ s. IsCountedFormula Two g s level u.vars (owned_formula g u owned).vars (owned_formula g u owned).clauses) shape_is
      (subst (λ k. IsCountedFormula Two g u.shape k u.vars (owned_formula g u owned).vars (owned_formula g u owned).clauses) level_is
      (second_counted g law Two u.shape u.level u.vars universe refl owned listed))

  pub size_is : (owned : List Cell) → formula_size (owned_formula g u owned).clauses ≡ formula_size (common_of g (cells_around g) u) + formula_size (owners_of u.vars owned)
  unfolding owned_formula
  size_is owned = all_size g (cells_around g) u.shape u.level u.vars owned

  pub larger : (size : ℕ) (owned : List Cell) → ListsExactly cell_before (IsOwned u.vars) owned → size < formula_size (common_of g (cells_around g) u) + formula_size (owners_of u.vars owned) → IsTooLarge Two g shape level size
  larger size owned listed l = record {
    vars = u.vars;
    count = (owned_formula g u owned).vars;
    clauses = (owned_formula g u owned).clauses;
    formula = counted owned listed;
    above = subst (λ n. size < n) (sym (size_is owned)) l;
  }

  -- where the owner clauses alone are too large
  pub more_owners : (size : ℕ) → HaveMoreThan u.vars size → IsTooLarge Two g shape level size
  more_owners size h = let above = h.above in larger size h.owned h.are_owned (omega arith)
