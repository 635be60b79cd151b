-- What the search for classes has found, tile by tile.
use Rattle.std.specs.Prelude.{◌≡◌, ℕ, ◌+◌, ◌<◌, ◌≤◌, List, length, take, Some}
use Rattle.std.specs.List.{slice_get}
use Rattle.heesch_grid.specs.declared.Cell.{Cell}
use Rattle.heesch_grid.specs.declared.isometries.Iso.{Iso}
use Rattle.heesch_grid.specs.Geometry.{Geometry}
use Rattle.heesch_grid.specs.Lattice.{Triple}
use Rattle.heesch_grid.specs.Symmetry.{InOneClass, Member, IsRepresentative, greatest_class, TakesExactly}
use Rattle.heesch_orbit.specs.Symmetries.{IsLeastTaking}

-- the member names a class from 1, and the symmetry of least turn that takes the representative of the class to the tile
pub record IsMember (g : Geometry) (shape : List Cell) (t : Triple) (places representatives : List Iso) (to : Iso) (x : Member) : Type 0 where
  pub at : ℕ
  pub from : Iso
  pub class_is : x.class ≡ at + 1
  pub is_representative : slice_get representatives at ≡ Some from
  pub least : IsLeastTaking g shape t places from to x.by

-- no symmetry takes a representative to the tile
abbrev pub IsNew : Geometry → List Cell → Triple → List Iso → List Iso → Iso → Type 0
IsNew g shape t places representatives to = (k : ℕ) (from by : Iso) → slice_get representatives k ≡ Some from → TakesExactly g shape t places from to by → ⊥

-- the representatives and the members of the first tiles: each class has its first tile as its representative, and no two representatives are in one class
pub record AreFound (g : Geometry) (shape : List Cell) (t : Triple) (places tiles representatives : List Iso) (members : List Member) : Type 0 where
  pub one_each : length members ≡ length tiles
  pub greatest : greatest_class members ≡ length representatives
  pub apart : (m n : ℕ) (from to : Iso) → m < n → slice_get representatives m ≡ Some from → slice_get representatives n ≡ Some to → ¬ InOneClass g shape t places from to
  pub first : (m : ℕ) (from : Iso) → slice_get representatives m ≡ Some from → (r : ℕ) × (slice_get tiles r ≡ Some from) × IsRepresentative members (m + 1) r
  pub member : (n : ℕ) (x : Member) (to : Iso) → slice_get members n ≡ Some x → slice_get tiles n ≡ Some to → IsMember g shape t places representatives to x
  pub numbered : (n : ℕ) (x : Member) → slice_get members n ≡ Some x → x.class ≤ greatest_class (take n members) + 1
