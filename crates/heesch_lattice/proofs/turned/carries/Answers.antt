use Rattle.std.proofs.Common.{subst, sym, ◌∙◌, true≢false}
use Rattle.heesch_grid.specs.declared.Cell.{Cell}
use Rattle.heesch_grid.specs.Geometry.{moved}
use Rattle.heesch_grid.specs.Lattice.{DiffersByLattice}
use Rattle.heesch_grid.specs.Cells.{origin}
use Rattle.heesch_lattice.proofs.turned.carries.Goals as goal

pub returns-then-same : goal.returns-then-same
returns-then-same g c =
    let geometry = g.G.Grid.geometry in
    let From = λ (x y : Cell). DiffersByLattice geometry c.args.to x y in
    let first = c.turned_end.result in
    let second = c.turned_end-then-same.result in
    let to_second = geometry.turn c.args.k (moved geometry c.args.second.a c.args.second.b origin) in (
      (λ e. (
        subst (λ y. From y (geometry.turn c.args.k (moved geometry c.args.first.a c.args.first.b origin))) c.turn-start.ensures (subst (From c.turn-start.result) c.turned_end.ensures (c.same.ensures.0 c.if-same.true)),
        subst (λ y. From y to_second) c.turn-start.ensures (subst (From c.turn-start.result) c.turned_end-then-same.ensures (c.same-then-same.ensures.0 e)),
      )),
      (λ h. c.same-then-same.ensures.1 (subst (λ y. From y second) (sym c.turn-start.ensures) (subst (From (geometry.turn c.args.k origin)) (sym c.turned_end-then-same.ensures) h.1))),
    )

pub returns-else-same : goal.returns-else-same
returns-else-same g c =
    let geometry = g.G.Grid.geometry in
    let From = λ (x y : Cell). DiffersByLattice geometry c.args.to x y in
    let first = c.turned_end.result in (
      (λ e. absurd (true≢false (sym e ∙ c.if-same.false))),
      (λ h. c.same.ensures.1 (subst (λ y. From y first) (sym c.turn-start.ensures) (subst (From (geometry.turn c.args.k origin)) (sym c.turned_end.ensures) h.0))),
    )
