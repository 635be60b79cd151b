use Rattle.std.proofs.Common.{◌≡◌, ◌++◌, inl, inr, Contains, ap, subst, ◌∙◌, arith}
use Rattle.std.proofs.lemmas.Int.{ints}
use Rattle.std.proofs.lemmas.List.Elements.{All-contains, Contains-append_cases}
use Rattle.std.proofs.lemmas.Result.{IfOk-weaker}
use Rattle.heesch_grid.specs.Cells.{cell_before}
use Rattle.heesch_grid.specs.Geometry.{Touching}
use Rattle.heesch_grid.specs.Listing.{ListsExactly}
use Rattle.heesch_grid.specs.Pairs.{has-true}
use Rattle.heesch_grid.proofs.CellFacts.{has-is}
use Rattle.heesch_grid.proofs.GridFacts.{touching_near}
use Rattle.heesch_grid.proofs.Images.{wider}
use Rattle.heesch_place.specs.Found.{FromOne}
use Rattle.heesch_place.specs.Spots.{AreBarred, IsOver}
use Rattle.heesch_place.proofs.Beside.{barred_over}
use Rattle.heesch_place.proofs.prototile.barred_by.Given as given
use Rattle.heesch_place.proofs.prototile.barred_by.Goals as goal
use Rattle.heesch_place.proofs.prototile.barred_by.Goals.{After-as_slice}

-- the cells around the shape, and then its own
all_is : (g : given.Over) (c : After-as_slice g) → c.as_slice.result.now ≡ c.in_ok-cells.cells.items ++ c.args.forms.now.shape
all_is g c = c.as_slice.ensures.value ∙ c.in_ok-extend_from_slice.ensures.items ∙ ap (λ zs. c.in_ok-cells.cells.items ++ zs) (c.cells.ensures.cells ∙ c.shape-shape.ensures.shape)

around : (g : given.Over) (c : After-as_slice g) → ListsExactly cell_before (FromOne (Touching g.G.Grid.geometry) c.args.forms.now.shape) c.in_ok-cells.cells.items
around g c = subst (λ s. ListsExactly cell_before (FromOne (Touching g.G.Grid.geometry) s) c.in_ok-cells.cells.items) c.shape-shape.ensures.shape c.in_ok-cells.ensures

pub over-requires : goal.over-requires
over-requires g c d h =
    let at = (goal.at.over-requires g c).After-as_slice in
    let touching = c.in_ok-cells.cells.items in
    let shape = c.args.forms.now.shape in
    elim (Contains-append_cases touching shape d (subst (λ zs. Contains zs d) (all_is g at) (has-true c.as_slice.result.now d h))) [
      | inl k ↦
          let t = All-contains (FromOne (Touching g.G.Grid.geometry) shape) touching d (around g at).only k in
          let w = c.requires t.source (has-is shape t.source t.inside) in
          let n = touching_near g.G.Grid.geometry g.met.G.Grid.laws t.source d t.gives in
          record { a_low = omega (arith, ints, w.a_low, n.a_low); a_high = omega (arith, ints, w.a_high, n.a_high); b_low = omega (arith, ints, w.b_low, n.b_low); b_high = omega (arith, ints, w.b_high, n.b_high) }
      | inr k ↦ wider 200 6000 d (omega arith) (c.requires d (has-is shape d k))
    ]

pub returns : goal.returns
returns g c =
    let at = (goal.at.returns g c).After-as_slice in
    IfOk-weaker c.over.result (IsOver c.args.forms.now.forms c.as_slice.result.now) (AreBarred g.G.Grid.geometry c.args.forms.now)
    (λ marks o. barred_over g.G.Grid.geometry c.args.forms.now c.in_ok-cells.cells.items c.as_slice.result.now marks (around g at) (all_is g at) o) c.over.ensures
