use Rattle.std.proofs.Common.{◌≤◌, sym, subst, arith}
use Rattle.std.specs.Prelude.{IsTrue}
use Rattle.heesch_grid.specs.Cells.{cells_before}
use Rattle.heesch_grid.specs.Listing.{ListsExactly}
use Rattle.heesch_grid.specs.Polyform.{IsFreeList}
use Rattle.heesch_grow.specs.Adds.{IsGrownFromSome}
use Rattle.heesch_grow.proofs.Small.{free_lists_pass}
use Rattle.heesch_grow.proofs.FreeChildren.{free_lists_grow}
use Rattle.heesch_grow.proofs.OneCell.{first_is_free_list}
use Rattle.heesch_listing.specs.Parts.{are_small}
use Rattle.heesch_listing.proofs.growing.all_shapes.Goals as goal

pub loop-size-init : goal.loop-size-init
loop-size-init g c =
    let one = c.in_ok-shapes.ensures.len in
    let geometry = g.G.Grid.geometry in
    let laws = (g.met.G.Grid g.world.𝓛 g.world.𝓜 g.world.𝓡 ((λ s x. x), (λ x. x), (λ x. x), λ x. x)).laws in
    record {
      free = subst (IsFreeList geometry 1) (sym c.in_ok-shapes.ensures.items) (first_is_free_list geometry c.first.result laws c.first.ensures.free);
      few = omega (arith, one);
    }

pub grown-requires-clause-small : goal.grown-requires-clause-small
grown-requires-clause-small g c κs within =
    let geometry = g.G.Grid.geometry in
    let n = c.loop-size._size in
    let few : n ≤ 31 = omega (arith, c.loop-size-test.true, c.requires.size.1) in
    subst (λ xs. IsTrue (are_small xs)) (sym c.deref.ensures.value) (free_lists_pass geometry (g.met.G.Grid g.world.𝓛 g.world.𝓜 g.world.𝓡 ((λ s x. x), (λ x. x), (λ x. x), λ x. x)).laws n few c.loop-size.shapes.items c.loop-size.invariant.free.only)

pub loop-size-preserved : goal.loop-size-preserved
loop-size-preserved g c =
    let geometry = g.G.Grid.geometry in
    let made = c.in_ok-shapes-2.shapes.items in
    let laws = (g.met.G.Grid g.world.𝓛 g.world.𝓜 g.world.𝓡 ((λ s x. x), (λ x. x), (λ x. x), λ x. x)).laws in
    record {
      free = free_lists_grow geometry c.loop-size._size c.loop-size.shapes.items made laws c.loop-size.auto._size c.loop-size.invariant.free
          (subst (λ xs. ListsExactly cells_before (IsGrownFromSome geometry xs) made) c.deref.ensures.value c.in_ok-shapes-2.ensures.grown);
      few = c.in_ok-shapes-2.ensures.few;
    }
