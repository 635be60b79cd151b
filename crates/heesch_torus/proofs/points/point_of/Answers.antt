use Rattle.std.proofs.Common.{sym, ap, subst, ◌∙◌}
use Rattle.std.specs.Prelude.{Some}
use Rattle.heesch_grid.specs.declared.Cell.{Cell}
use Rattle.heesch_grid.specs.Geometry.{IsCell}
use Rattle.heesch_tiling.specs.Counting.{in_window}
use Rattle.heesch_torus.proofs.points.point_of.Goals as goal

pub returns : goal.returns
returns g c =
    let cell : IsCell g.G.Grid.geometry (in_window g.G.Grid.geometry c.args.torus.now.triple c.number_of.result) = subst (λ (r : Cell). IsCell g.G.Grid.geometry r) (sym c.number_of.ensures.is) c.residue_of.ensures.reduced.in_grid in
    c.args.torus.now.maskable.points.each c.number_of.result c.number_of.ensures.below cell ∙ ap Some (c.number_of.ensures.is ∙ c.residue_of.ensures.is)
