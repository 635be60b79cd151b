-- What a reader expects of the definitions, as statements. A contract that cites one of them claims it.
use Rattle.std.specs.Prelude.{◌≡◌, ℕ, ◌<◌, ◌≤◌, ◌↔◌, Option, List, [], length}
use Rattle.heesch_grid.specs.declared.Cell.{Cell}
use Rattle.heesch_grid.specs.declared.isometries.Iso.{Iso}
use Rattle.heesch_grid.specs.Listing.{HoldsOnce}
use Rattle.heesch_grid.specs.Cells.{SameCells}
use Rattle.heesch_grid.specs.Geometry.{Geometry, IsGrid, IsCell, IsIsometry, apply, image}
use Rattle.heesch_grid.specs.Polyform.{IsPolyform, IsImageOf, IsCanonicalListOf, IsFreeList}
use Rattle.heesch_grid.specs.Placement.{Touch, IsLeastIsometry}
use Rattle.heesch_grid.specs.Hole.{IsHole, IsHoleFree, IsGreatestHole}
use Rattle.heesch_grid.specs.Corona.{HasCoronas, HasHoleFreeCoronas, HasHeeschNumber, IsNonTiler}
use Rattle.heesch_grid.specs.Lattice.{Triple, IsTriple, IsReduced, DiffersByLattice}
use Rattle.heesch_grid.specs.Tiling.{TilesThePlane, DoesNotTile, HasWindowCover, Plain, IsPlain, no_move}
use Rattle.heesch_grid.specs.Symmetry.{IsSymmetry, InOneClass}
use Rattle.heesch_grid.specs.Clauses.{Literals}
use Rattle.heesch_grid.specs.CoronaFormula.{Variable, IsCoronaFormula}
use Rattle.heesch_grid.specs.Versions.{IsFormulaOf}
use Rattle.heesch_grid.specs.TorusFormula.{IsTorusFormula}

-- the set has exactly one canonical list, which is itself a polyform of as many cells
pub record HasOneCanonicalList (g : Geometry) (cells : List Cell) : Type 0 where
  pub once : HoldsOnce (IsCanonicalListOf g cells)
  pub polyform : IsPolyform g once.value
  pub size : length once.value ≡ length cells

-- every polyform has
abbrev pub PolyformsHaveOneCanonicalList : Type 0
PolyformsHaveOneCanonicalList = (g : Geometry) (cells : List Cell) → IsGrid g → IsPolyform g cells → HasOneCanonicalList g cells

-- two polyforms have one canonical list exactly where one is an image of the other
abbrev pub ImagesShareCanonicalLists : Type 0
ImagesShareCanonicalLists = (g : Geometry) (cells other result : List Cell) → IsGrid g → IsPolyform g cells → IsPolyform g other → IsCanonicalListOf g cells result → IsCanonicalListOf g other result ↔ IsImageOf g cells other

-- there is at most one free list of a size
abbrev pub FreeListsAreUnique : Type 0
FreeListsAreUnique = (g : Geometry) (n : ℕ) (lists others : List (List Cell)) → IsFreeList g n lists → IsFreeList g n others → lists ≡ others

-- no other list is the greatest hole; this one is empty exactly where the set is hole-free, and otherwise it is a hole
pub record IsExactHole (g : Geometry) (cells union : List Cell) : Type 0 where
  pub only : (other : List Cell) → IsGreatestHole g cells other → other ≡ union
  pub empty : (union ≡ []) ↔ IsHoleFree g cells
  pub hole : 0 < length union → IsHole g cells union

-- every greatest hole is so
abbrev pub GreatestHolesAreHoles : Type 0
GreatestHolesAreHoles = (g : Geometry) (cells union : List Cell) → IsGreatestHole g cells union → IsExactHole g cells union

-- where k coronas exist, so do fewer
abbrev pub FewerCoronasExist : Type 0
FewerCoronasExist = (g : Geometry) (shape : List Cell) (j k : ℕ) → j ≤ k → (HasCoronas g shape k → HasCoronas g shape j) × (HasHoleFreeCoronas g shape k → HasHoleFreeCoronas g shape j)

-- a shape has at most one Heesch number
abbrev pub HeeschNumbersAreUnique : Type 0
HeeschNumbersAreUnique = (g : Geometry) (shape : List Cell) (h k : ℕ) → HasHeeschNumber g shape h → HasHeeschNumber g shape k → h ≡ k

-- and it is below each m at which the shape is a non-tiler
abbrev pub HeeschNumbersLieBelow : Type 0
HeeschNumbersLieBelow = (g : Geometry) (shape : List Cell) (h m : ℕ) → HasHeeschNumber g shape h → IsNonTiler g shape m → h < m

-- a cell differs by a lattice vector from exactly one reduced cell
abbrev pub CellsHaveOneReducedCell : Type 0
CellsHaveOneReducedCell = (g : Geometry) (t : Triple) (c : Cell) → IsGrid g → IsTriple t → IsCell g c → HoldsOnce (λ r. IsReduced g t r × DiffersByLattice g t c r)

-- a window cover covers each smaller window
abbrev pub WindowCoversShrink : Type 0
WindowCoversShrink = (g : Geometry) (shape : List Cell) (r s : ℕ) → r ≤ s → HasWindowCover g shape s → HasWindowCover g shape r

-- the shape isn't one that doesn't tile, and it has coronas of every number
pub record IsNeverRefuted (g : Geometry) (shape : List Cell) : Type 0 where
  pub tiles_alone : ¬ DoesNotTile g shape
  pub coronas : (m : ℕ) → HasCoronas g shape m

-- every polyform that tiles is so
abbrev pub TilersAreNeverRefuted : Type 0
TilersAreNeverRefuted = (g : Geometry) (shape : List Cell) → IsGrid g → IsPolyform g shape → TilesThePlane g shape → IsNeverRefuted g shape

-- a polyform has one first plain tiling, or none
abbrev pub PlainTilingsAreUnique : Type 0
PlainTilingsAreUnique = (g : Geometry) (shape : List Cell) (answer other : Option Plain) → IsGrid g → IsPlain g shape answer → IsPlain g shape other → answer ≡ other

-- the corona formula of a polyform and a level is one list of clauses
abbrev pub CoronaFormulasAreUnique : Type 0 → Type 0
CoronaFormulasAreUnique L = (ls : Literals L) (g : Geometry) (shape : List Cell) (j : ℕ) (vars others : List Variable) (clauses rest : List (List L)) → IsGrid g → IsPolyform g shape → IsCoronaFormula ls g shape j vars clauses → IsCoronaFormula ls g shape j others rest → (vars ≡ others) × (clauses ≡ rest)

-- and so is that of each version, with its number of variables
abbrev pub FormulasOfVersionsAreUnique : Type 0 → Type 0
FormulasOfVersionsAreUnique L = (ls : Literals L) (version : ℕ) (g : Geometry) (shape : List Cell) (j : ℕ) (vars others : List Variable) (count number : ℕ) (clauses rest : List (List L)) → IsGrid g → IsPolyform g shape → IsFormulaOf ls version g shape j vars count clauses → IsFormulaOf ls version g shape j others number rest → (vars ≡ others) × (count ≡ number) × (clauses ≡ rest)

-- the torus formula of a polyform and a triple is one list of clauses
abbrev pub TorusFormulasAreUnique : Type 0 → Type 0
TorusFormulasAreUnique L = (ls : Literals L) (g : Geometry) (shape : List Cell) (t : Triple) (vars others : List (List Cell)) (clauses rest : List (List L)) → IsTorusFormula ls g shape t vars clauses → IsTorusFormula ls g shape t others rest → (vars ≡ others) × (clauses ≡ rest)

-- where a set touches another, that one touches it
abbrev pub PlacementsTouchBothWays : Type 0
PlacementsTouchBothWays = (g : Geometry) (s t : List Cell) → IsGrid g → Touch g s t → Touch g t s

-- isometries of one turn that take a set that isn't empty to the same set are one
abbrev pub TranslationsAreDetermined : Type 0
TranslationsAreDetermined = (g : Geometry) (cells : List Cell) (by other : Iso) → IsGrid g → 0 < length cells → by.turn ≡ other.turn → SameCells (image g by cells) (image g other cells) → by ≡ other

-- so a placement has at most one least isometry
abbrev pub LeastIsometriesAreUnique : Type 0
LeastIsometriesAreUnique = (g : Geometry) (shape tile : List Cell) (by other : Iso) → IsGrid g → 0 < length shape → IsLeastIsometry g shape tile by → IsLeastIsometry g shape tile other → by ≡ other

-- the isometry that moves nothing is a symmetry, and so is what two symmetries do one after the other
pub record IsClosed (g : Geometry) (shape : List Cell) (t : Triple) (places : List Iso) : Type 0 where
  pub nothing : IsSymmetry g shape t places no_move
  pub composed : (first second both : Iso) → IsSymmetry g shape t places first → IsSymmetry g shape t places second → IsIsometry g both → ((c : Cell) → apply g both c ≡ apply g second (apply g first c)) → IsSymmetry g shape t places both
  -- a tile is in one class with itself, and classes go through a third tile
  pub itself : (at : Iso) → InOneClass g shape t places at at
  pub through : (from at to : Iso) → InOneClass g shape t places from at → InOneClass g shape t places at to → InOneClass g shape t places from to

-- every cover's symmetries are so
abbrev pub SymmetriesCompose : Type 0
SymmetriesCompose = (g : Geometry) (shape : List Cell) (t : Triple) (places : List Iso) → IsGrid g → IsTriple t → IsClosed g shape t places
