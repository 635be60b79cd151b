-- The children of all free polyforms of a size are all those of the next.
use Rattle.std.proofs.Common.{◌+◌, List}
use Rattle.std.proofs.lemmas.List.Elements.{All-contains}
use Rattle.heesch_grid.specs.declared.Cell.{Cell}
use Rattle.heesch_grid.specs.Polyform.{IsFreePolyform}
use Rattle.heesch_grid.proofs.ListFacts.{All-from_members}
use Rattle.heesch_grid.proofs.GrowthOfLists.{growth_of_free_lists}
use Rattle.heesch_grow.specs.Adds.{IsGrownFromSome, FreeListsGrow}

pub free_lists_grow : FreeListsGrow
free_lists_grow g n parents made law some free l =
    let grows = λ (r : List Cell). growth_of_free_lists g n r law some in
    record {
      rising = l.rising;
      only = All-from_members (IsFreePolyform g (n + 1)) made (λ r m.
          let h = All-contains (IsGrownFromSome g parents) made r l.only m in
          (grows r).1 (h.parent, All-contains (IsFreePolyform g n) parents h.parent free.only h.inside, h.grown));
      every = λ r f.
          let w = (grows r).0 f in
          l.every r (record { parent = w.0; inside = free.every w.0 w.1; grown = w.2 });
    }
