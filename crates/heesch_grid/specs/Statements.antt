-- The main theorems, as statements. A contract that cites one of them claims it.
use Rattle.std.specs.Prelude.{◌≡◌, ℕ, ◌+◌, ◌-◌, ◌≤◌, Bool, not, ◌&&◌, ◌==◌, ◌↔◌, List, [], map, filter, length, get_or, Contains, IsTrue}
use Rattle.std.specs.List.{range_with_len, enumerate_from}
use Rattle.heesch_grid.specs.declared.Cell.{Cell}
use Rattle.heesch_grid.specs.declared.isometries.Iso.{Iso}
use Rattle.heesch_grid.specs.Lattice.{Triple, IsTriple}
use Rattle.heesch_grid.specs.Cells.{same_cell, IsCellListOf}
use Rattle.heesch_grid.specs.Geometry.{Geometry, IsGrid, Adjacent}
use Rattle.heesch_grid.specs.Polyform.{IsPolyform, IsFreePolyform, IsCanonicalListOf}
use Rattle.heesch_grid.specs.Corona.{AreCoronas, HasCoronas, IsNonTiler}
use Rattle.heesch_grid.specs.Tiling.{IsPeriodicCover, HasWindowCover, TilesThePlane, DoesNotTile}
use Rattle.heesch_grid.specs.Clauses.{Literals, clause_holds, clause_of, Satisfies, IsSatisfiable}
use Rattle.heesch_grid.specs.CoronaFormula.{Variable, IsCoronaFormula}
use Rattle.heesch_grid.specs.OwnerFormula.{IsOwnerFormula}
use Rattle.heesch_grid.specs.Versions.{IsFormulaOf}
use Rattle.heesch_grid.specs.TorusFormula.{IsTorusFormula}
use Rattle.std.specs.Prelude.{◌∷◌}

-- the cells without this one
abbrev pub without : List Cell → Cell → List Cell
without cells c = filter (λ d. not (same_cell c d)) cells

-- the set has a cell whose removal leaves a polyform
abbrev pub HasRemovableCell : Geometry → List Cell → Type 0
HasRemovableCell g cells = (c : Cell) × Contains cells c × IsPolyform g (without cells c)

-- a polyform of at least two cells has such a cell
abbrev pub GrowthLaw : Geometry → Type 0
GrowthLaw g = (cells : List Cell) → IsPolyform g cells → 2 ≤ length cells → HasRemovableCell g cells

-- the result is the canonical list of the parent with one adjacent cell added
pub record IsGrownFrom (g : Geometry) (parent result : List Cell) : Type 0 where
  pub member : Cell
  pub added : Cell
  pub inside : Contains parent member
  pub adjacent : Adjacent g member added
  pub outside : ¬ Contains parent added
  pub cells : List Cell
  pub is_list : IsCellListOf (added ∷ parent) cells
  pub canonical : IsCanonicalListOf g cells result

-- the free polyforms of n + 1 cells are those grown from the free polyforms of n cells, for n from 1
abbrev pub GrowthOfFreeLists : Type 0
GrowthOfFreeLists = (g : Geometry) (n : ℕ) (result : List Cell) → IsGrid g → 1 ≤ n → IsFreePolyform g (n + 1) result ↔ ((parent : List Cell) × IsFreePolyform g n parent × IsGrownFrom g parent result)

-- the tiles of the true variables of level k
abbrev pub chosen_layer : (ℕ → Bool) → List Variable → ℕ → List (List Cell)
chosen_layer values vars k = map (λ x. x.1.tile) (filter (λ x. (x.1.level == k) && values x.0) (enumerate_from 1 vars))

-- and these for the levels 1 to j
abbrev pub chosen_layers : (ℕ → Bool) → List Variable → ℕ → List (List (List Cell))
chosen_layers values vars j = map (chosen_layer values vars) (range_with_len 1 j)

-- for j of at least 1, a model of E(S, j) has j coronas as its chosen layers
abbrev pub ModelsAreCoronas : Type 0 → Type 0
ModelsAreCoronas L = (ls : Literals L) (g : Geometry) (shape : List Cell) (j : ℕ) (vars : List Variable) (clauses : List (List L)) (values : ℕ → Bool) → IsGrid g → IsPolyform g shape → 1 ≤ j → IsCoronaFormula ls g shape j vars clauses → Satisfies ls values clauses → AreCoronas g shape (chosen_layers values vars j)

-- for j of at least 1, E(S, j) is satisfiable exactly where j coronas exist, holes allowed
abbrev pub SatisfiableWhereCoronas : Type 0 → Type 0
SatisfiableWhereCoronas L = (ls : Literals L) (g : Geometry) (shape : List Cell) (j : ℕ) (vars : List Variable) (clauses : List (List L)) → IsGrid g → IsPolyform g shape → 1 ≤ j → IsCoronaFormula ls g shape j vars clauses → IsSatisfiable ls clauses ↔ HasCoronas g shape j

-- a model of E(S, j) of either version has j coronas as its chosen layers
abbrev pub ModelsOfVersionsAreCoronas : Type 0 → Type 0
ModelsOfVersionsAreCoronas L = (ls : Literals L) (version : ℕ) (g : Geometry) (shape : List Cell) (j : ℕ) (vars : List Variable) (count : ℕ) (clauses : List (List L)) (values : ℕ → Bool) → IsGrid g → IsPolyform g shape → 1 ≤ j → IsFormulaOf ls version g shape j vars count clauses → Satisfies ls values clauses → AreCoronas g shape (chosen_layers values vars j)

-- E(S, j) of either version is satisfiable exactly where j coronas exist, holes allowed
abbrev pub VersionsAreSatisfiableWhereCoronas : Type 0 → Type 0
VersionsAreSatisfiableWhereCoronas L = (ls : Literals L) (version : ℕ) (g : Geometry) (shape : List Cell) (j : ℕ) (vars : List Variable) (count : ℕ) (clauses : List (List L)) → IsGrid g → IsPolyform g shape → 1 ≤ j → IsFormulaOf ls version g shape j vars count clauses → IsSatisfiable ls clauses ↔ HasCoronas g shape j

-- the assignment makes a variable of the universe true exactly where its tile stands in the layer of its level
abbrev pub FollowsLayers : List Variable → List (List (List Cell)) → (ℕ → Bool) → Type 0
FollowsLayers vars layers values = (x : ℕ × Variable) → Contains (enumerate_from 1 vars) x → IsTrue (values x.0) ↔ Contains (get_or layers (x.1.level - 1) []) x.1.tile

-- any j coronas, hole-free or not, are the values that a model of E(S, j) of either version gives the universe's variables
abbrev pub CoronasAreModelsOfVersions : Type 0 → Type 0
CoronasAreModelsOfVersions L = (ls : Literals L) (version : ℕ) (g : Geometry) (shape : List Cell) (j : ℕ) (vars : List Variable) (count : ℕ) (clauses : List (List L)) (layers : List (List (List Cell))) → IsGrid g → IsPolyform g shape → 1 ≤ j → IsFormulaOf ls version g shape j vars count clauses → length layers ≡ j → AreCoronas g shape layers → (values : ℕ → Bool) × FollowsLayers vars layers values × Satisfies ls values clauses

-- the assignments give each variable of the universe one value
abbrev pub Agree : List Variable → (ℕ → Bool) → (ℕ → Bool) → Type 0
Agree vars values other = (n : ℕ) → 1 ≤ n → n ≤ length vars → values n ≡ other n

-- an assignment makes E1(S, j) true exactly where one that agrees with it on the universe makes E2(S, j) true
abbrev pub OwnersKeepModels : Type 0 → Type 0
OwnersKeepModels L = (ls : Literals L) (g : Geometry) (shape : List Cell) (j : ℕ) (vars : List Variable) (count : ℕ) (first second : List (List L)) (values : ℕ → Bool) → IsGrid g → IsPolyform g shape → IsCoronaFormula ls g shape j vars first → IsOwnerFormula ls g shape j vars count second → Satisfies ls values first ↔ ((other : ℕ → Bool) × Agree vars values other × Satisfies ls other second)

-- and a clause of variables of the universe, as that of a cut, is true under both of them or under neither
abbrev pub UniverseClausesAgree : Type 0 → Type 0
UniverseClausesAgree L = (ls : Literals L) (vars : List Variable) (negated asserted : ℕ × Variable → Bool) (values other : ℕ → Bool) → Agree vars values other → clause_holds ls values (clause_of ls negated asserted vars) ≡ clause_holds ls other (clause_of ls negated asserted vars)

-- the torus formula is satisfiable exactly where a periodic cover for the triple exists
abbrev pub SatisfiableWhereCover : Type 0 → Type 0
SatisfiableWhereCover L = (ls : Literals L) (g : Geometry) (shape : List Cell) (t : Triple) (vars : List (List Cell)) (clauses : List (List L)) → IsGrid g → IsPolyform g shape → IsTriple t → IsTorusFormula ls g shape t vars clauses → IsSatisfiable ls clauses ↔ ((places : List Iso) × IsPeriodicCover g shape t places)

-- a periodic cover gives window covers of every radius
abbrev pub TilersHaveWindowCovers : Type 0
TilersHaveWindowCovers = (g : Geometry) (shape : List Cell) → IsGrid g → IsPolyform g shape → TilesThePlane g shape → (r : ℕ) → HasWindowCover g shape r

-- a window cover of a large enough radius gives m coronas
abbrev pub WindowCoversHaveCoronas : Type 0
WindowCoversHaveCoronas = (g : Geometry) (shape : List Cell) (m : ℕ) → IsGrid g → IsPolyform g shape → (r : ℕ) × (HasWindowCover g shape r → HasCoronas g shape m)

-- a non-tiler at some m doesn't tile
abbrev pub NonTilersDoNotTile : Type 0
NonTilersDoNotTile = (g : Geometry) (shape : List Cell) (m : ℕ) → IsGrid g → IsPolyform g shape → IsNonTiler g shape m → DoesNotTile g shape
