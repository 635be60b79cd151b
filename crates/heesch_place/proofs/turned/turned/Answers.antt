use Rattle.std.proofs.Common.{◌≡◌, map, length, IsPermutation, ap, ◌∙◌, subst}
use Rattle.heesch_shape.proofs.Loops.{refilled}
use Rattle.heesch_place.proofs.Turning.{turned_list, turned_near}
use Rattle.heesch_place.proofs.turned.turned.Given as given
use Rattle.heesch_place.proofs.turned.turned.Goals as goal
use Rattle.heesch_place.proofs.turned.turned.Goals.{After-sort_unstable}

-- the turned cells, and that they were sorted
turned_cells : (g : given.Over) (c : After-sort_unstable g) → (c.turned_cells-cells.result.items ≡ map (g.G.Grid.geometry.turn c.args.k) c.args.shape.now) × IsPermutation c.turned_cells-cells.result.items c.sort_unstable.new.self
turned_cells g c = (
  c.turned_cells-cells.ensures ∙ ap (map (g.G.Grid.geometry.turn c.args.k)) c.cells.ensures.cells,
  subst (λ zs. IsPermutation zs c.sort_unstable.new.self) c.deref_mut.ensures.value c.sort_unstable.ensures.permutation,
)

pub returns-clause-list : goal.returns-clause-list
returns-clause-list g c =
    let s = turned_cells g (goal.at.returns-clause-list g c).After-sort_unstable in
    let same = refilled c.turned_cells-cells.result.items c.sort_unstable.new.self (c.sort_unstable.ensures.len ∙ ap length c.deref_mut.ensures.value) in
    turned_list g.G.Grid.geometry g.met.G.Grid.laws c.args.k c.args.shape.now c.turned_cells-cells.result.items c.sort_unstable.new.self _ c.requires c.cells.ensures.shape s.0 s.1 c.sort_unstable.ensures.sorted same

pub returns-clause-within : goal.returns-clause-within
returns-clause-within g c =
    let s = turned_cells g (goal.at.returns-clause-within g c).After-sort_unstable in
    let same = refilled c.turned_cells-cells.result.items c.sort_unstable.new.self (c.sort_unstable.ensures.len ∙ ap length c.deref_mut.ensures.value) in
    turned_near g.G.Grid.geometry g.met.G.Grid.laws c.args.k c.args.shape.now c.turned_cells-cells.result.items c.sort_unstable.new.self _ c.requires c.cells.ensures.shape s.0 s.1 same
