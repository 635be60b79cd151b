-- What the answer on a cover says, and places in range.
use Rattle.std.proofs.Common.{sym, ◌∙◌, List, All}
use Rattle.std.proofs.lemmas.List.Elements.{All-contains}
use Rattle.heesch_grid.specs.declared.Cell.{Cell}
use Rattle.heesch_grid.specs.declared.isometries.Iso.{Iso}
use Rattle.heesch_grid.specs.Geometry.{Geometry, IsIsometry}
use Rattle.heesch_grid.specs.Lattice.{Triple, IsReduced}
use Rattle.heesch_grid.specs.Tiling.{IsPeriodicCover}
use Rattle.heesch_grid.proofs.ListFacts.{All-from_members}
use Rattle.heesch_tiling.specs.Counting.{IsDoubled, IsInRange, IsMissed}
use Rattle.heesch_tiling.specs.CoverAnswer.{IsCoverAnswer}
use Rattle.heesch_tiling.specs.declared.check.Cover.TheVariants.{Doubled, Missed}
use Rattle.heesch_logs.specs.Near.{IsNearIso}

pub in_range : (g : Geometry) (places : List Iso) → All (IsIsometry g) places → All IsNearIso places → All (IsInRange g) places
in_range g places turns near = All-from_members (IsInRange g) places (λ by m. record { turn = All-contains (IsIsometry g) places by turns m; near = All-contains IsNearIso places by near m })

module _ (g : Geometry) (shape : List Cell) (t : Triple) (places : List Iso) (cover : IsPeriodicCover g shape t places) (c : Cell) (reduced : IsReduced g t c) where
  not_doubled : ¬ IsDoubled g shape t places c
  not_doubled d =
      let once = cover.exactly_one c reduced.in_grid in
      d.differ (once.only d.one d.first ∙ sym (once.only d.other d.second))

  not_missed : ¬ IsMissed g shape t places c
  not_missed m =
      let once = cover.exactly_one c reduced.in_grid in
      m.none once.value once.holds

-- an answer but that the cover is exact rules it out
pub doubled_not_exact : (g : Geometry) (shape : List Cell) (t : Triple) (places : List Iso) (c : Cell) → IsCoverAnswer g shape t places (Doubled c) → ¬ IsPeriodicCover g shape t places
doubled_not_exact g shape t places c found cover = not_doubled g shape t places cover c found.holds.0 found.holds.1

pub missed_not_exact : (g : Geometry) (shape : List Cell) (t : Triple) (places : List Iso) (c : Cell) → IsCoverAnswer g shape t places (Missed c) → ¬ IsPeriodicCover g shape t places
missed_not_exact g shape t places c found cover = not_missed g shape t places cover c found.1.holds.0 found.1.holds.1
