-- From the searches to the answers of the code.
use Rattle.std.proofs.Common.{◌≡◌, ℕ, ◌<◌, List, false}
use Rattle.heesch_grid.specs.declared.Cell.{Cell}
use Rattle.heesch_grid.specs.Geometry.{Geometry, IsGrid}
use Rattle.heesch_grid.specs.Lattice.{Triple}
use Rattle.heesch_tiling.specs.declared.check.Cover.TheVariants.{Exact, Doubled, Missed}
use Rattle.heesch_tiling.specs.Counting.{residues, window_size, is_amiss_at, IsFirstNumber, IsFull}
use Rattle.heesch_tiling.specs.CoverAnswer.{AnswersCounts}
use Rattle.heesch_tiling.proofs.Spots.{first_reduced, none_reduced}
use Rattle.heesch_tiling.proofs.Verdicts.{exact, first_doubled, none_doubled, first_missed}

-- ---- the answer on a cover, by its counts
module _ (g : Geometry) (law : IsGrid g) (t : Triple) (counts : List ℕ) where
  -- the first pair that counts twice
  pub answers_doubled : (c : Cell) → IsFirstNumber g t (is_amiss_at g t counts 0 1) c → AnswersCounts g t counts (Doubled c)
  answers_doubled c found shape places triple form isometries are = first_doubled g law shape form t triple places isometries c (first_reduced g law t triple (residues g shape t places) counts are 0 1 c found)

  -- none does, and the first that counts not at all
  pub answers_missed : ((k : ℕ) → k < window_size g t → is_amiss_at g t counts 0 1 k ≡ false) → (c : Cell) → IsFirstNumber g t (is_amiss_at g t counts 1 1) c → AnswersCounts g t counts (Missed c)
  answers_missed single c found shape places triple form isometries are =
      let none = none_reduced g law t triple (residues g shape t places) counts are 0 1 single in (
        none_doubled g law shape form t triple places isometries none,
        first_missed g law shape form t triple places isometries c none (first_reduced g law t triple (residues g shape t places) counts are 1 1 c found),
      )

  -- each counts once
  pub answers_exact : IsFull g t counts → AnswersCounts g t counts Exact
  answers_exact full shape places triple form isometries are = exact g law shape form t triple places isometries (none_reduced g law t triple (residues g shape t places) counts are 1 1 full)
