-- Periodic covers, window covers, and the plain tilings of a polyform.
-- They restate Myers: tilings by translations, by translations and half-turns, and by translates of several images. A window cover is what any tiling of the plane, periodic or not, shows in a window round one of its tiles.
use Rattle.std.specs.Prelude.{◌≡◌, ℕ, ℤ, pos, ◌≤ℤ◌, ◌<ℤ◌, ◌⊎◌, Option, Some, None, List, [], ◌∷◌, length, All, AllPairs, Contains}
use Rattle.heesch_grid.specs.declared.Cell.{Cell}
use Rattle.heesch_grid.specs.declared.isometries.Iso.{Iso}
use Rattle.heesch_grid.specs.Listing.{IsFirst, HoldsOnce}
use Rattle.heesch_grid.specs.Geometry.{Geometry, IsCell, IsIsometry, image}
use Rattle.heesch_grid.specs.Vectors.{IsWithin}
use Rattle.heesch_grid.specs.Placement.{IsPlacement, Apart}
use Rattle.heesch_grid.specs.Corona.{cells_of}
use Rattle.heesch_grid.specs.Lattice.{Triple, IsTriple, IsTripleOfDomain, triple_before, translated}
use Rattle.std.specs.List.{slice_get}
use Rattle.std.specs.Prelude.{IsTrue}

-- the place at this number, from 0, moved by i times (p, 0) and j times (s, q), has the cell
pub record HasCell (g : Geometry) (shape : List Cell) (t : Triple) (places : List Iso) (c : Cell) (at : ℕ × ℤ × ℤ) : Type 0 where
  pub by : Iso
  pub is_place : slice_get places at.0 ≡ Some by
  pub member : Cell
  pub in_tile : Contains (image g by shape) member
  pub is : c ≡ translated g t at.1 at.2 member

-- every cell of the grid lies in exactly one translate, by exactly one lattice vector, of exactly one placement
pub record IsPeriodicCover (g : Geometry) (shape : List Cell) (t : Triple) (places : List Iso) : Type 0 where
  pub is_triple : IsTriple t
  pub isometries : All (IsIsometry g) places
  pub exactly_one : (c : Cell) → IsCell g c → HoldsOnce (HasCell g shape t places c)

-- a finite set of placements, the shape among them, any two apart, that covers every cell within r of 0
pub record IsWindowCover (g : Geometry) (shape : List Cell) (r : ℕ) (tiles : List (List Cell)) : Type 0 where
  pub placements : All (IsPlacement g shape) tiles
  pub has_shape : Contains tiles shape
  pub apart : AllPairs Apart tiles
  pub covering : (c : Cell) → IsCell g c → IsWithin r c → Contains (cells_of tiles) c

-- the polyform has a window cover of radius r
abbrev pub HasWindowCover : Geometry → List Cell → ℕ → Type 0
HasWindowCover g shape r = (tiles : List (List Cell)) × IsWindowCover g shape r tiles

-- the polyform tiles: it has a periodic cover
abbrev pub TilesThePlane : Geometry → List Cell → Type 0
TilesThePlane g shape = (t : Triple) × (places : List Iso) × IsPeriodicCover g shape t places

-- the polyform doesn't tile: for some radius it has no window cover
abbrev pub DoesNotTile : Geometry → List Cell → Type 0
DoesNotTile g shape = (r : ℕ) × (¬ HasWindowCover g shape r)

-- the isometry that moves nothing
abbrev pub no_move : Iso
no_move = record { turn = 0; da = pos 0; db = pos 0 }

-- the half-turn followed by a translation of da and db units
abbrev pub half_turned : Geometry → ℤ → ℤ → Iso
half_turned g da db = record { turn = g.half_turn; da = da; db = db }

-- the shape alone is a periodic cover of the triple, whose domain is 1
pub record TilesByTranslation (g : Geometry) (shape : List Cell) (t : Triple) : Type 0 where
  pub of_domain : IsTripleOfDomain g (length shape) 1 t
  pub cover : IsPeriodicCover g shape t (no_move ∷ [])

-- the shape and its image under the half-turn with this translation are a periodic cover of the triple, whose domain is 2
pub record TilesByHalfTurn (g : Geometry) (shape : List Cell) (at : Triple × ℤ × ℤ) : Type 0 where
  pub of_domain : IsTripleOfDomain g (length shape) 2 at.0
  pub da_from : pos 0 ≤ℤ at.1
  pub da_below : at.1 <ℤ pos at.0.p
  pub db_from : pos 0 ≤ℤ at.2
  pub db_below : at.2 <ℤ pos at.0.q
  pub cover : IsPeriodicCover g shape at.0 (no_move ∷ half_turned g at.1 at.2 ∷ [])

-- the order of half-turn tilings: by the triple, then by db, then by da
abbrev pub HalfTurnBefore : Triple × ℤ × ℤ → Triple × ℤ × ℤ → Type 0
HalfTurnBefore x y = IsTrue (triple_before x.0 y.0) ⊎ ((x.0 ≡ y.0) × ((x.2 <ℤ y.2) ⊎ ((x.2 ≡ y.2) × (x.1 <ℤ y.1))))

-- a plain tiling of a polyform: by translations, or by translations and half-turns, with the triple and the translation of the half-turn
pub data Plain : Type 0 where
  Translation : Triple → Plain
  HalfTurn : Triple → ℤ → ℤ → Plain

-- the answer is the first tiling by translations, else the first by translations and half-turns, else none
abbrev pub IsPlain : Geometry → List Cell → Option Plain → Type 0
IsPlain g shape (Some (Translation t)) = IsFirst (λ t u. IsTrue (triple_before t u)) (TilesByTranslation g shape) t
IsPlain g shape (Some (HalfTurn t da db)) = ((u : Triple) → ¬ TilesByTranslation g shape u) × IsFirst HalfTurnBefore (TilesByHalfTurn g shape) (t, da, db)
IsPlain g shape None = ((u : Triple) → ¬ TilesByTranslation g shape u) × ((at : Triple × ℤ × ℤ) → ¬ TilesByHalfTurn g shape at)
