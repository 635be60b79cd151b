-- The first corona formula of a universe.
use Rattle.std.proofs.Common.{◌≡◌, refl, sym, subst, ℕ, ◌+◌, ◌<◌, List, ◌++◌, length}
use Rattle.std.proofs.lemmas.List.{length-append}
use Rattle.std.proofs.lemmas.List.Elements.{All-append}
use Rattle.std.proofs.lemmas.List.Sums.{sum_by-append}
use Rattle.heesch_cnf.specs.declared.literal.Lit.{Lit}
use Rattle.heesch_cnf.specs.Clauses.{IsClause, AreClauses}
use Rattle.heesch_cnf.specs.declared.version.Version.TheVariants.{One}
use Rattle.heesch_grid.specs.declared.Cell.{Cell}
use Rattle.heesch_grid.specs.Clauses.{formula_size}
use Rattle.heesch_grid.specs.Geometry.{Geometry, IsGrid}
use Rattle.heesch_grid.proofs.AroundFacts.{cells_around}
use Rattle.heesch_cert.specs.Formulas.{IsCountedFormula}
use Rattle.heesch_cert.specs.Proofs.{IsTooLarge}
use Rattle.heesch_place.specs.Universes.{Levels, IsUniverseOf}
use Rattle.heesch_encode.proofs.Whole.{first_counted}
use Rattle.heesch_numbers.specs.Common.{common_of}
use Rattle.heesch_numbers.proofs.SourceForms.{common_form}
use Rattle.heesch_pairwise.specs.Pairs.{pairs_of}
use Rattle.heesch_pairwise.specs.Pairwise.{pairwise_formula}
use Rattle.heesch_pairwise.proofs.PairLists.{pairs_form}

-- which clauses the formula has, how many, and of what form
module _ (g : Geometry) (u : Levels) where
  abbrev pub common : List (List Lit)
  common = common_of g (cells_around g) u

  pub formula_is : (pairwise_formula g u).clauses ≡ common ++ pairs_of u.vars
  unfolding pairwise_formula
  formula_is = refl

  pub formula_vars : (pairwise_formula g u).vars ≡ length u.vars
  unfolding pairwise_formula
  formula_vars = refl

  pub formula_length : length (pairwise_formula g u).clauses ≡ length common + length (pairs_of u.vars)
  unfolding pairwise_formula
  formula_length = length-append common (pairs_of u.vars)

  pub formula_form : AreClauses (pairwise_formula g u).vars (pairwise_formula g u).clauses
  unfolding pairwise_formula
  formula_form = All-append (IsClause (length u.vars)) common (pairs_of u.vars) (common_form g (cells_around g) u.shape u.level u.vars) (pairs_form u.vars)

  pub formula_size_is : formula_size (pairwise_formula g u).clauses ≡ formula_size common + formula_size (pairs_of u.vars)
  unfolding pairwise_formula
  formula_size_is = sum_by-append (λ (e : List Lit). length e) common (pairs_of u.vars)

module _ (g : Geometry) (law : IsGrid g) (u : Levels) (shape : List Cell) (level : ℕ) (universe : IsUniverseOf g u) (shape_is : u.shape ≡ shape) (level_is : u.level ≡ level) where
  pub counted : IsCountedFormula One g shape level u.vars (pairwise_formula g u).vars (pairwise_formula g u).clauses
  unfolding pairwise_formula
  counted =
      subst (λ s. IsCountedFormula One g s level u.vars (pairwise_formula g u).vars (pairwise_formula g u).clauses) shape_is
      (subst (λ k. IsCountedFormula One g u.shape k u.vars (pairwise_formula g u).vars (pairwise_formula g u).clauses) level_is
      (first_counted g law One u.shape u.level u.vars universe refl))

  pub larger : (size : ℕ) → size < formula_size (common g u) + formula_size (pairs_of u.vars) → IsTooLarge One g shape level size
  larger size l = record {
    vars = u.vars;
    count = (pairwise_formula g u).vars;
    clauses = (pairwise_formula g u).clauses;
    formula = counted;
    above = subst (λ n. size < n) (sym (formula_size_is g u)) l;
  }
