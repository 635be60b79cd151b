-- Covers, and plain tilings that are admitted.
use Rattle.std.specs.Prelude.{◌≤◌, Option, Some, None, List, length, All}
use Rattle.heesch_grid.specs.declared.Cell.{Cell}
use Rattle.heesch_grid.specs.Geometry.{Geometry}
use Rattle.heesch_grid.specs.Lattice.{IsTripleOfDomain}
use Rattle.heesch_grid.specs.Tiling.{IsPeriodicCover}
use Rattle.heesch_tiling.specs.Counting.{IsInRange}
use Rattle.heesch_cert.specs.declared.limits.Limits.{Limits}
use Rattle.heesch_cert.specs.declared.tiling.Tiling.{Tiling}
use Rattle.heesch_cert.specs.Reduced.{IsReducedPlace}
use Rattle.heesch_cert.specs.TrueEntry.{HasNoPlain, IsOfKind}
use Rattle.heesch_verdict.specs.declared.tiled.Tiled.{Tiled}
use Rattle.heesch_verdict.specs.Earliest.{IsEarliest, IsEarliestOfKind}

-- a periodic cover by places near 0 and within its triple, of the triple's domain
pub record IsCoverOf (g : Geometry) (shape : List Cell) (tiling : Tiling) : Type 0 where
  pub cover : IsPeriodicCover g shape tiling.triple tiling.places
  pub of_domain : IsTripleOfDomain g (length shape) (length tiling.places) tiling.triple
  pub near : All (IsInRange g) tiling.places
  pub reduced : All (IsReducedPlace g tiling.triple) tiling.places

-- a cover of a domain from 2 to the limit, and the earliest
pub record IsFirstCover (g : Geometry) (limits : Limits) (shape : List Cell) (tiling : Tiling) : Type 0 where
  pub is_cover : IsCoverOf g shape tiling
  pub many : 2 ≤ length tiling.places
  pub few : length tiling.places ≤ limits.domain
  pub earliest : IsEarliest g limits shape tiling.triple

-- a cover that the limit on domains allows, written as its kind asks, and the earliest of that kind
pub record IsTiled (g : Geometry) (limits : Limits) (shape : List Cell) (tiled : Tiled) : Type 0 where
  pub is_cover : IsCoverOf g shape tiled.tiling
  pub few : length tiled.tiling.places ≤ limits.domain
  pub of_kind : IsOfKind g limits shape tiled.tiling tiled.kind
  pub earliest : IsEarliestOfKind g limits shape tiled.tiling.triple tiled.kind

-- the plain tiling, where it is admitted; else none is
abbrev pub IsPlainEnd : Geometry → Limits → List Cell → Option Tiled → Type 0
IsPlainEnd g limits shape (Some tiled) = IsTiled g limits shape tiled
IsPlainEnd g limits shape None = HasNoPlain g limits shape
