-- Cells that pass each test have no fault.
use Rattle.std.proofs.Common.{◌≤◌, List, length, sym, ◌∙◌, arith, true≢false}
use Rattle.std.proofs.lemmas.Bool.{not-true}
use Rattle.heesch_grid.specs.declared.Cell.{Cell}
use Rattle.heesch_grid.specs.Cells.{has}
use Rattle.heesch_grid.specs.Geometry.{Geometry}
use Rattle.heesch_shape.specs.declared.faults.ShapeFault.TheVariants.{Empty, TooMany, NotACell, Repeated, Apart}
use Rattle.heesch_shape.specs.Faults.{IsFaultless}
use Rattle.heesch_shape.specs.Places.{AllHold, is_cell_at, is_new_at, is_out_at, nth}
use Rattle.heesch_shape.specs.Reach.{IsCutOff}
use Rattle.heesch_shape.proofs.Loops.{has_at}
use Rattle.heesch_shape.proofs.Made.{zero_cell}
use Rattle.heesch_shape.proofs.Words.{walk_joined}

module _ (g : Geometry) (xs outside : List Cell) (some : 1 ≤ length xs) (few : length xs ≤ 32) (cells : AllHold (is_cell_at g xs) (length xs)) (new : AllHold (is_new_at xs) (length xs)) (cut : IsCutOff g xs outside) (out : AllHold (is_out_at outside xs) (length xs)) where
  pub faultless : IsFaultless g xs
  faultless Empty h = omega (arith, h)
  faultless TooMany h = omega (arith, h)
  faultless (NotACell at) h = true≢false (sym (cells.all at h.2.below) ∙ h.2.fails)
  faultless (Repeated at) h = true≢false (sym (new.all at h.3.below) ∙ h.3.fails)
  faultless (Apart at) h =
      let less = h.4.below in
      h.4.apart (walk_joined g xs (nth xs 0) (nth xs at) (cut.joined (nth xs at) zero_cell (has_at xs at zero_cell less) (not-true (has outside (nth xs at)) (out.all at less))))
