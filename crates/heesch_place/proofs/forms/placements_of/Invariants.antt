use Rattle.std.proofs.Common.{◌≡◌, ◌++◌, All, length, map}
use Rattle.std.specs.Vec.Iter.{into_iter_items, into_iter_len}
use Rattle.heesch_grid.specs.Placement.{IsLeastIsometry}
use Rattle.heesch_place.proofs.forms.placements_of.Given as goal

abbrev pub invariant-loop-tile : goal.invariant-loop-tile
invariant-loop-tile g l = record {
  whole : map (λ p. p.tile) l.all.items ++ into_iter_items l.tile-iterator ≡ l.fn.tiles.items;
  left : into_iter_len l.tile-iterator ≡ length (into_iter_items l.tile-iterator);
  least : All (λ p. IsLeastIsometry g.G.Grid.geometry l.images p.tile p.by) l.all.items;
}
