use Rattle.std.specs.Cmp.Lexicographic.{slice_cmp}
use Rattle.std.specs.Ordering.{eq_by_cmp}
use Rattle.std.proofs.lemmas.List.Filters.{dedup_is}
use Rattle.heesch_grid.specs.Cells.{cell_cmp}
use Rattle.heesch_place.proofs.Sorting.{listed_lists}
use Rattle.heesch_place.proofs.lists.listed_tiles.Goals as goal

pub returns-clause-listed : goal.returns-clause-listed
returns-clause-listed g c =
    let sorted = c.sort_unstable.new.self.items in
    let once = c.dedup.new.self.items in
    listed_lists c.args.all.items sorted once c.sort_unstable.ensures.permutation c.sort_unstable.ensures.sorted (dedup_is (eq_by_cmp (slice_cmp cell_cmp)) sorted once c.dedup.ensures.filtered)
