-- What the isometries that were tried have given.
use Rattle.std.specs.Prelude.{◌≡◌, ℕ, ◌+◌, ◌*◌, ◌/◌, ◌%◌, ◌<◌, ◌≤◌, ◌⊎◌, pos, List, length, Contains}
use Rattle.heesch_grid.specs.declared.Cell.{Cell}
use Rattle.heesch_grid.specs.declared.isometries.Iso.{Iso}
use Rattle.heesch_grid.specs.Geometry.{Geometry}
use Rattle.heesch_grid.specs.Lattice.{Triple}
use Rattle.heesch_grid.specs.TorusFormula.{GivesResidues, IsWithinTriple}
use Rattle.heesch_torus.specs.Variables.{TorusVariable, sets_of, HasIsometry}

-- the k-th isometry of a turn within the triple, by db and then by da
abbrev pub tried : Triple → ℕ → ℕ → Iso
tried t turn k = record { turn = turn; da = pos (k % t.p); db = pos (k / t.p) }

-- the variable is a residue set of the isometry that wasn't found before
pub record IsNewFrom (g : Geometry) (shape : List Cell) (t : Triple) (by : Iso) (old : List TorusVariable) (x : TorusVariable) : Type 0 where
  pub by_is : x.by ≡ by
  pub gives : GivesResidues g shape t x.cells by
  pub fresh : ¬ Contains (sets_of old) x.cells

-- the residue set of the isometry is there, if it has one, and what wasn't there before is new from it
pub record Tries (g : Geometry) (shape : List Cell) (t : Triple) (by : Iso) (old new : List TorusVariable) : Type 0 where
  pub kept : (x : TorusVariable) → Contains old x → Contains new x
  pub only : (x : TorusVariable) → Contains new x → Contains old x ⊎ IsNewFrom g shape t by old x
  pub gives : (residues : List Cell) → GivesResidues g shape t residues by → Contains (sets_of new) residues
  pub few : length new ≤ length old + 1

-- the isometry lies within the triple and is of an earlier turn, or one of the first k of this turn
abbrev pub IsTried : Triple → ℕ → ℕ → Iso → Type 0
IsTried t turn k x = (IsWithinTriple t x × (x.turn < turn)) ⊎ ((j : ℕ) × (j < k) × (x ≡ tried t turn j))

-- after these isometries were tried: each variable has its isometry, and the residue sets of all that were tried are there
pub record HasTried (g : Geometry) (shape : List Cell) (t : Triple) (turn k : ℕ) (found : List TorusVariable) : Type 0 where
  pub isometries : (x : TorusVariable) → Contains found x → HasIsometry g shape t x
  pub all : (x : Iso) → IsTried t turn k x → (residues : List Cell) → GivesResidues g shape t residues x → Contains (sets_of found) residues
  pub few : length found ≤ 384 * turn + k
