use Rattle.std.proofs.Common.{◌≡◌, true, not, ◌&&◌, List, length}
use Rattle.heesch_grid.specs.declared.Cell.{Cell}
use Rattle.heesch_grid.specs.Listing.{ListsExactly}
use Rattle.heesch_grid.specs.Cells.{cell_before}
use Rattle.heesch_grid.specs.Hole.{IsHoleFree, IsGreatestHole}
use Rattle.heesch_region.specs.Windows.{is_marked}
use Rattle.heesch_region.specs.Marks.{AreMarksOf}
use Rattle.heesch_region.proofs.Holes.{greatest, hole_free}
use Rattle.heesch_region.proofs.Listings.{if_ok}
use Rattle.heesch_region.proofs.flood.left_over.Goals as goal

pub returns : goal.returns
returns g c =
    let geometry = g.G.Grid.geometry in
    let law = g.met.G.Grid.laws in
    let w = c.args.window in
    let taken = c.args.taken.now in
    let kept = is_marked w c.flood.new.kept in
    let left : List Cell → Type 0 = ListsExactly cell_before (λ d. (kept d && not (is_marked w taken d)) ≡ true) in
    record {
      hole = if_ok left (λ hole. (cells : List Cell) → AreMarksOf geometry w cells taken → IsGreatestHole geometry cells hole) c.listed.result
          (λ hole l cells marks. greatest geometry law w cells taken marks (is_marked w c.args.kept.now) kept c.requires.all c.flood.ensures.narrowed c.flood.ensures.settled hole l) c.listed.ensures;
      none = if_ok left (λ hole. (cells : List Cell) → AreMarksOf geometry w cells taken → length hole ≡ 0 → IsHoleFree geometry cells) c.listed.result
          (λ hole l cells marks none. hole_free geometry law w cells taken marks (is_marked w c.args.kept.now) kept c.requires.all c.flood.ensures.narrowed c.flood.ensures.settled hole l none) c.listed.ensures;
    }
