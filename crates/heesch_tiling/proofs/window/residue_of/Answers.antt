use Rattle.std.proofs.Common.{sym, subst, ◌∙◌}
use Rattle.heesch_grid.specs.Geometry.{IsCell, apply}
use Rattle.heesch_grid.specs.Lattice.{translated}
use Rattle.heesch_grid.proofs.ReductionFacts.{reduced_once}
use Rattle.heesch_tiling.proofs.window.residue_of.Goals as goal

pub returns-clause-is : goal.returns-clause-is
returns-clause-is g c =
    let met = g.met.G.Grid in
    let geometry = g.G.Grid.geometry in
    let t = c.args.triple in
    let kept : IsCell g.G.Grid.geometry (apply g.G.Grid.geometry c.args.by c.args.c) = met.laws.cells_kept c.args.by c.requires.range.turn c.args.c c.requires.near.0 in
    let in_grid : IsCell g.G.Grid.geometry c.apply.result = subst (IsCell geometry) (sym c.apply.ensures) kept in
    let v = c.reduce.ensures.differs in
    reduced_once geometry met.laws t c.reduce.ensures.triple v.i v.j (apply geometry c.args.by c.args.c) c.reduce.result kept (c.reduce.ensures.reduced in_grid) (v.is ∙ (λ n. translated geometry t v.i v.j (c.apply.ensures n)))

pub returns-clause-reduced : goal.returns-clause-reduced
returns-clause-reduced g c =
    let met = g.met.G.Grid in
    let kept : IsCell g.G.Grid.geometry (apply g.G.Grid.geometry c.args.by c.args.c) = met.laws.cells_kept c.args.by c.requires.range.turn c.args.c c.requires.near.0 in
    c.reduce.ensures.reduced (subst (IsCell g.G.Grid.geometry) (sym c.apply.ensures) kept)
