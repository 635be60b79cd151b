-- The theorems on symmetries, as statements.
use Rattle.std.specs.Prelude.{◌≡◌, List, ◌↔◌}
use Rattle.heesch_grid.specs.declared.Cell.{Cell}
use Rattle.heesch_grid.specs.declared.isometries.Iso.{Iso}
use Rattle.heesch_grid.specs.Geometry.{Geometry, IsGrid, IsIsometry, apply}
use Rattle.heesch_grid.specs.Lattice.{Triple, IsTriple}
use Rattle.heesch_grid.specs.Symmetry.{IsSymmetry, InOneClass, TakesExactly}
use Rattle.heesch_orbit.specs.Symmetries.{IsSymmetryOfPlaces}

-- what undoes a symmetry is a symmetry
abbrev pub InversesAreSymmetries : Type 0
InversesAreSymmetries = (g : Geometry) (shape : List Cell) (t : Triple) (places : List Iso) (by back : Iso) → IsGrid g → IsTriple t → IsSymmetry g shape t places by → IsIsometry g back → ((c : Cell) → apply g back (apply g by c) ≡ c) → IsSymmetry g shape t places back

-- being in one class goes both ways
abbrev pub ClassesGoBothWays : Type 0
ClassesGoBothWays = (g : Geometry) (shape : List Cell) (t : Triple) (places : List Iso) (from to : Iso) → IsGrid g → IsTriple t → InOneClass g shape t places from to → InOneClass g shape t places to from

-- two tiles are in one class exactly where a symmetry takes one exactly to the other
abbrev pub ClassesTakeExactly : Type 0
ClassesTakeExactly = (g : Geometry) (shape : List Cell) (t : Triple) (places : List Iso) (from to : Iso) → IsGrid g → IsTriple t → InOneClass g shape t places from to ↔ ((by : Iso) × TakesExactly g shape t places from to by)

-- the tiles themselves, without their translates, decide whether an isometry is a symmetry
abbrev pub PlacesDecideSymmetries : Type 0
PlacesDecideSymmetries = (g : Geometry) (shape : List Cell) (t : Triple) (places : List Iso) (by : Iso) → IsGrid g → IsTriple t → IsSymmetry g shape t places by ↔ IsSymmetryOfPlaces g shape t places by
