-- What the answer on a cover says.
use Rattle.std.specs.Prelude.{List, ℕ, IsTrue, All}
use Rattle.heesch_grid.specs.declared.Cell.{Cell}
use Rattle.heesch_grid.specs.declared.isometries.Iso.{Iso}
use Rattle.heesch_grid.specs.Listing.{IsFirst}
use Rattle.heesch_grid.specs.Cells.{cell_before}
use Rattle.heesch_grid.specs.Geometry.{Geometry, IsIsometry}
use Rattle.heesch_grid.specs.Polyform.{IsPolyform}
use Rattle.heesch_grid.specs.Lattice.{Triple, IsTriple, IsReduced}
use Rattle.heesch_grid.specs.Tiling.{IsPeriodicCover}
use Rattle.heesch_tiling.specs.Counting.{IsDoubled, IsMissed, AreCounts, residues}
use Rattle.heesch_tiling.specs.declared.check.Cover.{Cover}
use Rattle.heesch_tiling.specs.declared.check.Cover.TheVariants.{Exact, Doubled, Missed}

-- exact: a periodic cover; doubled: the first reduced cell that is covered twice; missed: no reduced cell is covered twice, and this is the first that isn't covered
abbrev pub IsCoverAnswer : Geometry → List Cell → Triple → List Iso → Cover → Type 0
IsCoverAnswer g shape t places Exact = IsPeriodicCover g shape t places
IsCoverAnswer g shape t places (Doubled c) = IsFirst (λ c d. IsTrue (cell_before c d)) (λ c. IsReduced g t c × IsDoubled g shape t places c) c
IsCoverAnswer g shape t places (Missed c) = ((d : Cell) → IsReduced g t d → ¬ IsDoubled g shape t places d) × IsFirst (λ c d. IsTrue (cell_before c d)) (λ c. IsReduced g t c × IsMissed g shape t places c) c

-- the answer holds of all tiles whose reduced cells have these counts
abbrev pub AnswersCounts : Geometry → Triple → List ℕ → Cover → Type 0
AnswersCounts g t counts answer = (shape : List Cell) (places : List Iso) → IsTriple t → IsPolyform g shape → All (IsIsometry g) places → AreCounts g t (residues g shape t places) counts → IsCoverAnswer g shape t places answer
