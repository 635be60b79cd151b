-- Coronas of a polyform, Heesch numbers and non-tilers.
-- They restate Kaplan's coronas: each layer surrounds the patch inside it, and the Heesch number is his Hc, with every patch from the first layer on hole-free.
use Rattle.std.specs.Prelude.{◌≡◌, ℕ, ◌+◌, List, [], ◌∷◌, ◌++◌, length, All, Any, AllPairs, Contains, ⊤, flat_map}
use Rattle.heesch_grid.specs.declared.Cell.{Cell}
use Rattle.heesch_grid.specs.Geometry.{Geometry, IsAround}
use Rattle.heesch_grid.specs.Placement.{IsPlacement, Apart, Touch}
use Rattle.heesch_grid.specs.Hole.{IsHoleFree}

-- all cells of the tiles of a patch
abbrev pub cells_of : List (List Cell) → List Cell
cells_of tiles = flat_map (λ tile. tile) tiles

-- the layer is a corona of the patch: further tiles, apart from the patch and from each other, each touching it, that cover every cell around it
pub record IsCorona (g : Geometry) (shape : List Cell) (patch layer : List (List Cell)) : Type 0 where
  pub placements : All (IsPlacement g shape) layer
  pub apart : AllPairs Apart layer
  pub apart_from_patch : All (λ tile. All (Apart tile) patch) layer
  pub touching : All (λ tile. Any (Touch g tile) patch) layer
  pub covering : (c : Cell) → IsAround g (cells_of patch) c → Contains (cells_of layer) c

-- each layer is a corona of the patch with the layers before it
abbrev pub AreCoronasOf : Geometry → List Cell → List (List Cell) → List (List (List Cell)) → Type 0
AreCoronasOf g shape patch [] = ⊤
AreCoronasOf g shape patch (layer ∷ layers) = IsCorona g shape patch layer × AreCoronasOf g shape (patch ++ layer) layers

-- the patch is hole-free with each layer that joins it
abbrev pub StaysHoleFree : Geometry → List (List Cell) → List (List (List Cell)) → Type 0
StaysHoleFree g patch [] = ⊤
StaysHoleFree g patch (layer ∷ layers) = IsHoleFree g (cells_of (patch ++ layer)) × StaysHoleFree g (patch ++ layer) layers

-- the layers are coronas of the shape, holes allowed
abbrev pub AreCoronas : Geometry → List Cell → List (List (List Cell)) → Type 0
AreCoronas g shape layers = AreCoronasOf g shape (shape ∷ []) layers

-- the layers are hole-free coronas of the shape
abbrev pub AreHoleFreeCoronas : Geometry → List Cell → List (List (List Cell)) → Type 0
AreHoleFreeCoronas g shape layers = AreCoronas g shape layers × StaysHoleFree g (shape ∷ []) layers

-- k coronas of the shape exist, holes allowed
abbrev pub HasCoronas : Geometry → List Cell → ℕ → Type 0
HasCoronas g shape k = (layers : List (List (List Cell))) × (length layers ≡ k) × AreCoronas g shape layers

-- k hole-free coronas of the shape exist
abbrev pub HasHoleFreeCoronas : Geometry → List Cell → ℕ → Type 0
HasHoleFreeCoronas g shape k = (layers : List (List (List Cell))) × (length layers ≡ k) × AreHoleFreeCoronas g shape layers

-- h hole-free coronas exist, and h + 1 don't
abbrev pub HasHeeschNumber : Geometry → List Cell → ℕ → Type 0
HasHeeschNumber g shape h = HasHoleFreeCoronas g shape h × (¬ HasHoleFreeCoronas g shape (h + 1))

-- no m coronas exist, holes allowed
abbrev pub IsNonTiler : Geometry → List Cell → ℕ → Type 0
IsNonTiler g shape m = ¬ HasCoronas g shape m
