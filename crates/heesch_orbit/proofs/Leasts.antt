-- The symmetry of least turn, turn by turn.
use Rattle.std.proofs.Common.{◌≡◌, ℕ, ◌+◌, ◌<◌, ◌≤◌, List, inl, inr, subst, arith}
use Rattle.std.proofs.lemmas.Bool.{cases_lt}
use Rattle.heesch_grid.specs.declared.Cell.{Cell}
use Rattle.heesch_grid.specs.declared.isometries.Iso.{Iso}
use Rattle.heesch_grid.specs.Geometry.{Geometry}
use Rattle.heesch_grid.specs.Lattice.{Triple}
use Rattle.heesch_grid.specs.Symmetry.{IsSymmetry, TakesExactly}
use Rattle.heesch_orbit.specs.Symmetries.{Takes, IsLeastTaking}

module _ (g : Geometry) (shape : List Cell) (t : Triple) (places : List Iso) (from to : Iso) where
  -- none of a lesser turn takes the tile there
  pub least : (by : Iso) (k : ℕ) → by.turn ≡ k → TakesExactly g shape t places from to by → ((other : Iso) → other.turn < k → TakesExactly g shape t places from to other → ⊥) → IsLeastTaking g shape t places from to by
  least by k turn takes none = record {
    takes = takes;
    least = λ other h. elim (cases_lt other.turn k) [ inl less ↦ absurd (none other less h) | inr more ↦ omega (arith, turn, more) ];
  }

  -- the one isometry of a turn that takes the tile there is no symmetry
  pub none_of_turn : (k : ℕ) (by : Iso) → ((other : Iso) → other.turn ≡ k → Takes g shape from to other → other ≡ by) → ¬ IsSymmetry g shape t places by → (other : Iso) → other.turn ≡ k → TakesExactly g shape t places from to other → ⊥
  none_of_turn k by only fails other turn h = fails (subst (IsSymmetry g shape t places) (only other turn h.same) h.is_symmetry)

  -- one turn more
  pub none_more : (k : ℕ) → ((other : Iso) → other.turn < k → TakesExactly g shape t places from to other → ⊥) → ((other : Iso) → other.turn ≡ k → TakesExactly g shape t places from to other → ⊥) → (other : Iso) → other.turn < k + 1 → TakesExactly g shape t places from to other → ⊥
  none_more k old now other less h = elim (cases_lt other.turn k) [ inl l ↦ old other l h | inr m ↦ now other (omega (arith, less, m)) h ]

  -- all turns
  pub none_at_all : (k : ℕ) → g.turns ≤ k → ((other : Iso) → other.turn < k → TakesExactly g shape t places from to other → ⊥) → (by : Iso) → TakesExactly g shape t places from to by → ⊥
  none_at_all k all none by h = let is = h.is_symmetry.is_isometry in none by (omega (arith, all, is)) h
