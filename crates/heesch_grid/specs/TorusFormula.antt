-- The torus formula of a polyform and a triple: covers of the plane up to the lattice.
-- Variables are residue sets, numbered from 1 by their cell lists; a clause for each reduced cell says that it is covered, and one for each two sets that share a cell that one of them isn't chosen.
use Rattle.std.specs.Prelude.{◌≡◌, pos, ◌≤ℤ◌, ◌<ℤ◌, ◌⊎◌, ◌<◌, List, ◌++◌, map, length, Contains}
use Rattle.heesch_grid.specs.declared.Cell.{Cell}
use Rattle.heesch_grid.specs.declared.isometries.Iso.{Iso}
use Rattle.heesch_grid.specs.Listing.{ListsExactly, IsFirst}
use Rattle.heesch_grid.specs.Cells.{cell_before, cells_before, has, meet}
use Rattle.heesch_grid.specs.Geometry.{Geometry, IsIsometry, image}
use Rattle.heesch_grid.specs.Lattice.{Triple, DiffersByLattice, IsReduced}
use Rattle.heesch_grid.specs.Clauses.{Literals, clause_of, no_variable}
use Rattle.heesch_grid.specs.CoronaFormula.{exclusion_clauses}

-- the cell is the reduced cell of a cell of the set
pub record IsReducedFrom (g : Geometry) (t : Triple) (cells : List Cell) (c : Cell) : Type 0 where
  pub reduced : IsReduced g t c
  pub member : Cell
  pub inside : Contains cells member
  pub differs : DiffersByLattice g t member c

-- the isometry gives the residue set: the reduced cells of the image, as many as the shape has cells
pub record GivesResidues (g : Geometry) (shape : List Cell) (t : Triple) (residues : List Cell) (by : Iso) : Type 0 where
  pub is_isometry : IsIsometry g by
  pub lists : ListsExactly cell_before (IsReducedFrom g t (image g by shape)) residues
  pub all_differ : length residues ≡ length shape

-- the variables: the different residue sets, by their cell lists
abbrev pub AreTorusVariables : Geometry → List Cell → Triple → List (List Cell) → Type 0
AreTorusVariables g shape t vars = ListsExactly cells_before (λ residues. (by : Iso) × GivesResidues g shape t residues by) vars

-- each reduced cell is covered; then of two residue sets that share a cell one isn't chosen
abbrev pub torus_clauses : {L : Type 0} → Literals L → List Cell → List (List Cell) → List (List L)
torus_clauses ls reduced vars = map (λ c. clause_of ls no_variable (λ x. has x.1 c) vars) reduced ++ exclusion_clauses ls meet vars

-- the clauses are the torus formula of the shape and the triple, over these variables
pub record IsTorusFormula {L : Type 0} (ls : Literals L) (g : Geometry) (shape : List Cell) (t : Triple) (vars : List (List Cell)) (clauses : List (List L)) : Type 0 where
  pub are_variables : AreTorusVariables g shape t vars
  pub reduced : List Cell
  pub are_reduced : ListsExactly cell_before (IsReduced g t) reduced
  pub is : clauses ≡ torus_clauses ls reduced vars

-- the isometry's translation is at least (0, 0), and below p and q
pub record IsWithinTriple (t : Triple) (by : Iso) : Type 0 where
  pub da_from : pos 0 ≤ℤ by.da
  pub da_below : by.da <ℤ pos t.p
  pub db_from : pos 0 ≤ℤ by.db
  pub db_below : by.db <ℤ pos t.q

-- the order of isometries: by turn, then by db, then by da
abbrev pub IsometryBefore : Iso → Iso → Type 0
IsometryBefore x y = (x.turn < y.turn) ⊎ ((x.turn ≡ y.turn) × ((x.db <ℤ y.db) ⊎ ((x.db ≡ y.db) × (x.da <ℤ y.da))))

-- the isometry of a variable: the first within the triple that gives the residue set
abbrev pub IsIsometryOf : Geometry → List Cell → Triple → List Cell → Iso → Type 0
IsIsometryOf g shape t residues by = IsFirst IsometryBefore (λ x. IsWithinTriple t x × GivesResidues g shape t residues x) by
