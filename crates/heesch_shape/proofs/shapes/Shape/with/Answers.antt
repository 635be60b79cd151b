use Rattle.std.proofs.Common.{◌≡◌, ◌≤◌, true, false, [], ◌∷◌, ◌++◌, length, sym, ap, ◌∙◌, subst}
use Rattle.heesch_grid.specs.declared.Cell.{Cell}
use Rattle.heesch_grid.specs.Cells.{has, IsCellListOf}
use Rattle.heesch_grid.specs.Geometry.{Adjacent}
use Rattle.heesch_shape.proofs.Added.{with_list, with_shape}
use Rattle.heesch_shape.proofs.shapes.Shape.with.Given as given
use Rattle.heesch_shape.proofs.shapes.Shape.with.Goals as goal
use Rattle.heesch_shape.proofs.shapes.Shape.with.Goals.{After-push}

-- the cells with the new one last, which is none of them
pushed : (g : given.Over) (c : After-push g) → (c.push.new.self.items ≡ c.self.inside.cells.items ++ c.args.added ∷ []) × (has c.self.inside.cells.items c.args.added ≡ false)
pushed g c = (
  c.push.ensures.items ∙ ap (λ zs. zs ++ c.args.added ∷ []) (c.copied-cells.ensures ∙ c.as_slice.ensures.value),
  ap (λ zs. has zs c.args.added) c.self.view_is ∙ c.requires.outside,
)

pub in_order-requires : goal.in_order-requires
in_order-requires g c ys p sorted =
    let xs = c.self.inside.cells.items in
    let v : xs ≡ c.args.self.now = c.self.view_is in
    let last = pushed g (goal.at.in_order-requires g c).After-push in
    let few = subst (λ zs. length zs ≤ 31) (sym v) c.requires.few in
    let beside = subst (λ zs. (member : Cell) × (has zs member ≡ true) × Adjacent g.G.Grid.geometry member c.args.added) (sym v) c.requires.adjacent in
    with_shape g.G.Grid.geometry xs c.push.new.self.items ys c.args.added c.self.invariant last.1 last.0 p sorted g.met.G.Grid.laws few c.requires.within beside

pub returns-clause-list : goal.returns-clause-list
returns-clause-list g c =
    let last = pushed g (goal.at.returns-clause-list g c).After-push in
    let list = with_list g.G.Grid.geometry c.self.inside.cells.items c.push.new.self.items _ c.args.added c.self.invariant last.1 last.0 c.in_order.ensures.same c.in_order.ensures.sorted in
    subst (λ zs. IsCellListOf (c.args.added ∷ zs) c.in_order.result) c.self.view_is list
