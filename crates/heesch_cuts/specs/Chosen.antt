-- The values of a model, and what its chosen placements enclose.
use Rattle.std.specs.Prelude.{◌≡◌, Bool, false, List, [], ◌∷◌}
use Rattle.heesch_grid.specs.Geometry.{Geometry}
use Rattle.heesch_grid.specs.Corona.{StaysHoleFree}
use Rattle.heesch_grid.specs.Statements.{chosen_layers}
use Rattle.heesch_grid.specs.Clauses.{clause_holds}
use Rattle.heesch_place.specs.Universes.{Levels}
use Rattle.heesch_cnf.specs.Clauses.{assignment_of}
use Rattle.heesch_cert.specs.declared.proof.Cut.{Cut}
use Rattle.heesch_cert.specs.Literals.{literals}
use Rattle.heesch_cert.specs.Cuts.{IsLawful, cut_clause}

-- the patch of every level from 1 is hole-free: S with the placements of the true variables of at most this level
abbrev pub IsOpen : Geometry → Levels → List Bool → Type 0
IsOpen g u values = StaysHoleFree g (u.shape ∷ []) (chosen_layers (assignment_of values) u.vars u.level)

-- the cut is lawful, and the assignment makes its clause false
pub record CutsOff (g : Geometry) (u : Levels) (values : List Bool) (cut : Cut) : Type 0 where
  pub lawful : IsLawful g u.shape u.level u.vars cut
  pub fails : clause_holds literals (assignment_of values) (cut_clause u.vars cut) ≡ false
