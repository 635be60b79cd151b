-- Symmetries of a periodic cover, and the classes of its tiles.
-- They restate Myers's k-isohedral tilings: two tiles are in one class where a symmetry of the tiling carries one to the other.
use Rattle.std.specs.Prelude.{◌≡◌, ℕ, ◌+◌, ◌<◌, ◌≤◌, max, ℤ, ◌↔◌, Some, List, map, length, take, fold, Contains}
use Rattle.std.specs.List.{slice_get}
use Rattle.heesch_grid.specs.declared.Cell.{Cell}
use Rattle.heesch_grid.specs.declared.isometries.Iso.{Iso}
use Rattle.heesch_grid.specs.Cells.{SameCells}
use Rattle.heesch_grid.specs.Geometry.{Geometry, IsIsometry, image}
use Rattle.heesch_grid.specs.Lattice.{Triple, translated}

-- the isometry carries the first set to a translate, by a lattice vector, of the second
pub record CarriesToTranslate (g : Geometry) (t : Triple) (by : Iso) (from to : List Cell) : Type 0 where
  pub i : ℤ
  pub j : ℤ
  pub same : SameCells (image g by from) (map (translated g t i j) to)

-- the isometry carries every translate of every placement to a translate of a placement
pub record IsSymmetry (g : Geometry) (shape : List Cell) (t : Triple) (places : List Iso) (by : Iso) : Type 0 where
  pub is_isometry : IsIsometry g by
  pub carries : (from : Iso) → Contains places from → (i j : ℤ) → (to : Iso) × Contains places to × CarriesToTranslate g t by (map (translated g t i j) (image g from shape)) (image g to shape)

-- a symmetry of the cover carries the first tile to a translate of the second
abbrev pub InOneClass : Geometry → List Cell → Triple → List Iso → Iso → Iso → Type 0
InOneClass g shape t places from to = (by : Iso) × IsSymmetry g shape t places by × CarriesToTranslate g t by (image g from shape) (image g to shape)

-- the symmetry takes the first tile exactly to the second
pub record TakesExactly (g : Geometry) (shape : List Cell) (t : Triple) (places : List Iso) (from to by : Iso) : Type 0 where
  pub is_symmetry : IsSymmetry g shape t places by
  pub same : SameCells (image g by (image g from shape)) (image g to shape)

-- the class of a tile, and the symmetry that takes the representative of the class to it
pub record Member : Type 0 where
  pub class : ℕ
  pub by : Iso

-- the greatest class among the members, or 0
abbrev pub greatest_class : List Member → ℕ
greatest_class members = fold (λ m member. max m member.class) 0 members

-- the member at this number, from 0, is the first of its class
abbrev pub IsRepresentative : List Member → ℕ → ℕ → Type 0
IsRepresentative members class r = ((member : Member) × (slice_get members r ≡ Some member) × (member.class ≡ class)) × ((k : ℕ) (member : Member) → k < r → slice_get members k ≡ Some member → ¬ (member.class ≡ class))

-- the classes of a cover are numbered from 1 by their first tiles, and `by` is the symmetry of least turn that takes that tile exactly to the member's
pub record AreClasses (g : Geometry) (shape : List Cell) (t : Triple) (places : List Iso) (count : ℕ) (members : List Member) : Type 0 where
  pub one_each : length members ≡ length places
  pub count_is : count ≡ greatest_class members
  pub together : (m n : ℕ) (x y : Member) (from to : Iso) → slice_get members m ≡ Some x → slice_get members n ≡ Some y → slice_get places m ≡ Some from → slice_get places n ≡ Some to → (x.class ≡ y.class) ↔ InOneClass g shape t places from to
  pub numbered : (n : ℕ) (x : Member) → slice_get members n ≡ Some x → (1 ≤ x.class) × (x.class ≤ greatest_class (take n members) + 1)
  pub by_exact : (n r : ℕ) (x : Member) (from to : Iso) → slice_get members n ≡ Some x → IsRepresentative members x.class r → slice_get places r ≡ Some from → slice_get places n ≡ Some to → TakesExactly g shape t places from to x.by
  pub by_least : (n r : ℕ) (x : Member) (from to by : Iso) → slice_get members n ≡ Some x → IsRepresentative members x.class r → slice_get places r ≡ Some from → slice_get places n ≡ Some to → TakesExactly g shape t places from to by → x.by.turn ≤ by.turn
