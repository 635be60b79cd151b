-- The clauses of the torus formula, as they are added.
use Rattle.std.specs.Prelude.{◌≡◌, ℕ, ◌+◌, ◌-◌, ◌==◌, List, [], ◌∷◌, ◌++◌, map, filter, length, slice_index, Bool, ◌↔◌}
use Rattle.std.specs.List.{range_with_len}
use Rattle.heesch_cnf.specs.declared.literal.Lit.{Lit}
use Rattle.heesch_cnf.specs.Clauses.{Satisfies}
use Rattle.heesch_grid.specs.declared.Cell.{Cell}
use Rattle.heesch_grid.specs.declared.isometries.Iso.{Iso}
use Rattle.heesch_grid.specs.Geometry.{Geometry}
use Rattle.heesch_grid.specs.Lattice.{Triple}
use Rattle.heesch_grid.specs.Tiling.{IsPeriodicCover}
use Rattle.heesch_grid.specs.TorusFormula.{IsTorusFormula}
use Rattle.heesch_tiling.specs.Counting.{window_size, in_window}
use Rattle.heesch_cert.specs.Literals.{literals}

-- the clauses stand last, over the same variables
pub record AddsClauses (more : List (List Lit)) (old_vars : ℕ) (old : List (List Lit)) (new_vars : ℕ) (new : List (List Lit)) : Type 0 where
  pub same : new_vars ≡ old_vars
  pub clauses : new ≡ old ++ more

-- not both variables
abbrev pub pair_clause : ℕ → ℕ → List Lit
pair_clause u v = literals.minus u ∷ literals.minus v ∷ []

-- not both of the variable and another, for the next `count` ones that are marked with its number
abbrev pub marked_among : List ℕ → ℕ → ℕ → List (List Lit)
marked_among marks u count = map (pair_clause u) (filter (λ v. slice_index marks v == u) (range_with_len (u + 1) count))

-- and for all later ones
abbrev pub marked_clauses : List ℕ → ℕ → List (List Lit)
marked_clauses marks u = marked_among marks u (length marks - (u + 1))

-- the reduced cells, in cell order
abbrev pub reduced_cells : Geometry → Triple → List Cell
reduced_cells g t = map (in_window g t) (filter (λ k. g.is_cell (in_window g t k)) (range_with_len 0 (window_size g t)))

-- the clauses are the torus formula of the shape and the triple, over so many variables
pub record IsFormulaOf (g : Geometry) (shape : List Cell) (t : Triple) (vars : ℕ) (clauses : List (List Lit)) : Type 0 where
  pub sets : List (List Cell)
  pub is_formula : IsTorusFormula literals g shape t sets clauses
  pub count : vars ≡ length sets

-- the clauses have a model exactly where a periodic cover for the triple exists
abbrev pub HasModelWhereCover : Geometry → List Cell → Triple → List (List Lit) → Type 0
HasModelWhereCover g shape t clauses = ((values : ℕ → Bool) × Satisfies values clauses) ↔ ((places : List Iso) × IsPeriodicCover g shape t places)
