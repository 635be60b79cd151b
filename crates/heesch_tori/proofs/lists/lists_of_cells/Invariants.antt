use Rattle.std.proofs.Common.{◌≡◌, ◌++◌, length}
use Rattle.std.specs.Vec.Iter.{into_iter_items, into_iter_len}
use Rattle.heesch_torus.specs.Covering.{lists_before}
use Rattle.heesch_tori.proofs.lists.lists_of_cells.Given as goal

abbrev pub invariant-loop-list : goal.invariant-loop-list
invariant-loop-list g l = record {
  whole : l.yielded ++ into_iter_items l.list-iterator ≡ l.fn.all.items;
  left : into_iter_len l.list-iterator ≡ length (into_iter_items l.list-iterator);
  place : l.k ≡ length l.yielded;
  kept : l.lists.items ≡ lists_before g.G.Grid.geometry l.triple l.fn.all.items l.k;
}
