-- The whole formula of each version.
use Rattle.std.proofs.Common.{◌≡◌, refl, sym, ap, subst, ◌∙◌, ℕ, ◌+◌, ◌<◌, ◌≤◌, List, [], ◌++◌, length, arith, Err}
use Rattle.std.specs.Prelude.{sum_by}
use Rattle.heesch_cnf.specs.declared.version.Version.{Version}
use Rattle.heesch_cnf.specs.declared.version.Version.TheVariants.{One, Two}
use Rattle.heesch_grid.specs.declared.Cell.{Cell}
use Rattle.heesch_grid.specs.Listing.{ListsExactly}
use Rattle.heesch_grid.specs.Cells.{cell_before}
use Rattle.heesch_grid.specs.Geometry.{Geometry, IsGrid}
use Rattle.heesch_grid.specs.Clauses.{formula_size}
use Rattle.heesch_grid.specs.CoronaFormula.{Variable, IsUniverse, corona_clauses}
use Rattle.heesch_grid.specs.OwnerFormula.{IsOwned, owner_count, owned_corona_clauses}
use Rattle.heesch_grid.proofs.AroundFacts.{cells_around, around_given}
use Rattle.heesch_cert.specs.Literals.{literals}
use Rattle.heesch_cert.specs.Formulas.{IsCountedFormula}
use Rattle.heesch_cert.specs.Proofs.{IsTooLarge}
use Rattle.heesch_encode.specs.declared.collector.Collector.{Collector}
use Rattle.heesch_encode.specs.declared.stop.EncodeStop.{EncodeStop}
use Rattle.heesch_encode.specs.declared.stop.EncodeStop.TheVariants.{TooLarge}
use Rattle.heesch_encode.specs.Taking.{Takes, IsTaken}
use Rattle.heesch_encode.proofs.Takings.{Clauses}

-- the universe is that of the shape and the level
pub universe_at : (g : Geometry) (shape other : List Cell) (j k : ℕ) (vars : List Variable) → other ≡ shape → k ≡ j → IsUniverse g other k vars → IsUniverse g shape j vars
universe_at g shape other j k vars is at u = subst (λ s. IsUniverse g s j vars) is (subst (λ l. IsUniverse g other l vars) at u)

-- the clauses of each version, over the cells around sets
abbrev pub first_all : Geometry → List Cell → ℕ → List Variable → Clauses
first_all g shape j vars = corona_clauses literals g (cells_around g) shape j vars

abbrev pub second_all : Geometry → List Cell → ℕ → List Variable → List Cell → Clauses
second_all g shape j vars owned = owned_corona_clauses literals g (cells_around g) shape j vars owned

-- they are its formula
module _ (g : Geometry) (law : IsGrid g) (version : Version) (shape : List Cell) (j : ℕ) (vars : List Variable) (universe : IsUniverse g shape j vars) where
  pub first_counted : version ≡ One → IsCountedFormula version g shape j vars (length vars) (first_all g shape j vars)
  first_counted first =
      let counted : IsCountedFormula One g shape j vars (length vars) (first_all g shape j vars) = (record { is_universe = universe; around = cells_around g; gives_around = around_given g law; is = refl }, refl) in
      subst (λ v. IsCountedFormula v g shape j vars (length vars) (first_all g shape j vars)) (sym first) counted

  pub second_counted : version ≡ Two → (owned : List Cell) → ListsExactly cell_before (IsOwned vars) owned → IsCountedFormula version g shape j vars (length vars + sum_by (owner_count vars) owned) (second_all g shape j vars owned)
  second_counted second owned listed =
      let counted : IsCountedFormula Two g shape j vars (length vars + sum_by (owner_count vars) owned) (second_all g shape j vars owned) = record {
        is_universe = universe;
        around = cells_around g;
        gives_around = around_given g law;
        owned = owned;
        are_owned = listed;
        count_is = refl;
        is = refl;
      } in
      subst (λ v. IsCountedFormula v g shape j vars (length vars + sum_by (owner_count vars) owned) (second_all g shape j vars owned)) (sym second) counted

-- ---- a collector without a clause, over the formula's variables and with room for `size` literals, to which these clauses were given

module _ (version : Version) (g : Geometry) (shape : List Cell) (j : ℕ) (vars : List Variable) (count size : ℕ) (xs : Clauses) (formula : IsCountedFormula version g shape j vars count xs) (a b : Collector) (over : a.formula.vars ≡ count) (none : a.formula.clauses ≡ []) (room : a.room ≡ size) where
  -- it has the formula, which fits
  pub all_taken : Takes a b xs → IsCountedFormula version g shape j vars b.formula.vars b.formula.clauses × (formula_size b.formula.clauses ≤ size)
  all_taken t =
      let is : b.formula.clauses ≡ xs = t.kept ∙ ap (λ zs. zs ++ xs) none in
      let left = t.room in (
        subst (λ n. IsCountedFormula version g shape j vars n b.formula.clauses) (sym (t.vars ∙ over)) (subst (IsCountedFormula version g shape j vars count) (sym is) formula),
        subst (λ cs. formula_size cs ≤ size) (sym is) (omega arith),
      )

  -- or the formula is too large, where they found too little room
  pub too_large_where : (e : EncodeStop) → IsTaken (Err e) a b xs → e ≡ TooLarge → IsTooLarge version g shape j size
  too_large_where e t is =
      let above : a.room < formula_size xs = subst (λ z. IsTaken (Err z) a b xs) is t in
      record { vars = vars; count = count; clauses = xs; formula = formula; above = subst (λ n. n < formula_size xs) room above }
