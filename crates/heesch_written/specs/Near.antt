-- That what a true entry names lies near its shape, as statements. A contract that cites one of them claims it.
use Rattle.std.specs.Prelude.{◌≢◌, ℕ, ◌*◌, ◌≤◌, List, [], length, All}
use Rattle.std.specs.List.{AllByRecursion}
use Rattle.heesch_grid.specs.declared.Cell.{Cell}
use Rattle.heesch_grid.specs.declared.isometries.Iso.{Iso}
use Rattle.heesch_grid.specs.Cells.{cell}
use Rattle.heesch_grid.specs.CoronaFormula.{Variable}
use Rattle.heesch_grid.specs.Corona.{AreCoronas}
use Rattle.heesch_grid.specs.Geometry.{Geometry, IsGrid, IsIsometry}
use Rattle.heesch_grid.specs.Lattice.{Triple}
use Rattle.heesch_grid.specs.Polyform.{IsFreePolyform}
use Rattle.heesch_grid.specs.Symmetry.{Member, AreClasses}
use Rattle.heesch_grid.specs.Vectors.{IsWithin}
use Rattle.heesch_cnf.specs.declared.literal.Lit.{Lit}
use Rattle.heesch_cert.specs.declared.proof.Cut.{Cut}
use Rattle.heesch_cert.specs.Cuts.{IsLawful}
use Rattle.heesch_cnf.specs.declared.version.Version.{Version}
use Rattle.heesch_cert.specs.Formulas.{IsCountedFormula}
use Rattle.heesch_cert.specs.Reduced.{IsReducedPlace}
use Rattle.heesch_cert.specs.TrueEntry.{Spells}

-- the turn is one of the grid's, and the translation lies within 100,000 of 0
abbrev pub IsNearPlace : Geometry → Iso → Type 0
IsNearPlace g by = IsIsometry g by × IsWithin 100000 (cell by.da by.db)

-- a layer has a tile, and its places are such ones
pub record IsNearLayer (g : Geometry) (layer : List Iso) : Type 0 where
  pub some : layer ≢ []
  pub near : AllByRecursion (IsNearPlace g) layer

-- a hole has a cell, and its cells lie within 100,000 of 0
pub record IsNearHole (hole : List Cell) : Type 0 where
  pub some : hole ≢ []
  pub near : AllByRecursion (IsWithin 100000) hole

-- the cells of a free polyform of at most 32 cells lie near 0
abbrev pub ShapesAreNear : Type 0
ShapesAreNear = (g : Geometry) → IsGrid g → (n : ℕ) (shape : List Cell) → n ≤ 32 → IsFreePolyform g n shape → AllByRecursion (IsWithin 100000) shape

-- so do the places that spell at most six coronas of it
abbrev pub CoronasAreNear : Type 0
CoronasAreNear = (g : Geometry) → IsGrid g → (n : ℕ) (shape : List Cell) (layers : List (List Iso)) (tiles : List (List (List Cell))) → 1 ≤ n → n ≤ 32 → IsFreePolyform g n shape → length layers ≤ 6
    → Spells g shape layers tiles → AreCoronas g shape tiles → AllByRecursion (IsNearLayer g) layers

-- and the hole of a lawful cut, over its corona formula, of either version, of at most six levels
abbrev pub HolesAreNear : Type 0
HolesAreNear = (version : Version) (g : Geometry) → IsGrid g → (n : ℕ) (shape : List Cell) (j : ℕ) (vars : List Variable) (count : ℕ) (clauses : List (List Lit)) (cut : Cut) → 1 ≤ n → n ≤ 32 → IsFreePolyform g n shape → 1 ≤ j → j ≤ 6
    → IsCountedFormula version g shape j vars count clauses → IsLawful g shape j vars cut → IsNearHole cut.hole

-- and the symmetries that take tiles of a reduced cover to each other
abbrev pub ClassesAreNear : Type 0
ClassesAreNear = (g : Geometry) → IsGrid g → (n : ℕ) (shape : List Cell) (t : Triple) (places : List Iso) (count : ℕ) (members : List Member) → 1 ≤ n → n ≤ 32 → IsFreePolyform g n shape → t.p * t.q ≤ 4096
    → All (IsReducedPlace g t) places → AreClasses g shape t places count members → AllByRecursion (λ (m : Member). IsNearPlace g m.by) members
