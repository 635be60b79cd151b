use Rattle.std.proofs.Common.{[], List, All, pos, negsuc, refl, sym, subst}
use Rattle.std.specs.Prelude.{map}
use Rattle.std.proofs.lemmas.List.Elements.{All-cons, All-nil}
use Rattle.heesch_grid.specs.declared.Cell.{Cell}
use Rattle.heesch_grid.specs.Cells.{cell}
use Rattle.heesch_grid.specs.Geometry.{apply}
use Rattle.heesch_grid.specs.Grids.{square}
use Rattle.heesch_grid.specs.Pattern.{grid_of}
use Rattle.heesch_grid.specs.Pairs.{within_of}
use Rattle.heesch_grid.specs.Vectors.{IsWithin}
use Rattle.heesch_geometry_tests.proofs.tests.place.placements_hold_the_isometry_of_least_turn.Goals as goal

pub new-place-requires-clause-within : goal.new-place-requires-clause-within
new-place-requires-clause-within c =
    let f : Cell → Cell = apply (grid_of square) (record { turn = 2; da = negsuc 2; db = pos 11 }) in
    let d : Cell = cell (pos 5) (pos 7) in
    subst (λ (xs : List Cell). All (IsWithin 1000000) (map f xs)) (sym c.single-square.ensures.cells) (All-cons (IsWithin 1000000) (f d) [] (within_of 1000000 (f d) refl) (All-nil (IsWithin 1000000)))
