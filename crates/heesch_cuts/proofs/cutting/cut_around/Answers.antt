use Rattle.std.proofs.Common.{sym, subst, All}
use Rattle.heesch_grid.specs.Geometry.{IsCell}
use Rattle.heesch_grid.specs.Hole.{IsHole}
use Rattle.heesch_grid.specs.Vectors.{IsWithin}
use Rattle.heesch_cuts.specs.Patches.{IsBorderOf}
use Rattle.heesch_cuts.proofs.HoleFacts.{hole_within, part_hole, greatest_hole}
use Rattle.heesch_cuts.proofs.CuttingOff.{cuts_off}
use Rattle.heesch_cuts.proofs.cutting.cut_around.Given as given
use Rattle.heesch_cuts.proofs.cutting.cut_around.Goals as goal
use Rattle.heesch_cuts.proofs.cutting.cut_around.Goals.{In_ok-hole}

-- the joined part is a hole of the patch
part : (g : given.Over) (c : In_ok-hole g) → IsHole g.G.Grid.geometry c.args.patch.now.cells.now c.in_ok-hole.hole
part g c =
    let geometry = g.G.Grid.geometry in
    let cells = c.args.patch.now.cells.now in
    let greatest = c.args.greatest.now in
    part_hole geometry g.met.G.Grid.laws cells greatest (greatest_hole geometry cells greatest c.requires.some c.requires.greatest) c.in_ok-hole.hole c.in_ok-hole.ensures

pub joined_part-requires-clause-within : goal.joined_part-requires-clause-within
joined_part-requires-clause-within g c =
    let geometry = g.G.Grid.geometry in
    let cells = c.args.patch.now.cells.now in
    hole_within geometry g.met.G.Grid.laws cells c.args.greatest.now (greatest_hole geometry cells c.args.greatest.now c.requires.some c.requires.greatest) 1000000 c.requires.near

pub border_of-requires-clause-cells : goal.border_of-requires-clause-cells
border_of-requires-clause-cells g c =
    subst (All (IsCell g.G.Grid.geometry)) (sym c.as_slice.ensures) (part g (goal.at.border_of-requires-clause-cells g c).In_ok-hole).in_grid

pub border_of-requires-clause-within : goal.border_of-requires-clause-within
border_of-requires-clause-within g c =
    let is = part g (goal.at.border_of-requires-clause-within g c).In_ok-hole in
    subst (All (IsWithin 1000000)) (sym c.as_slice.ensures) (hole_within g.G.Grid.geometry g.met.G.Grid.laws c.args.patch.now.cells.now c.in_ok-hole.hole is 1000000 c.requires.near)

pub returns : goal.returns
returns g c =
    let p = c.args.patch.now in
    let u = p.universe.now in
    let hole = c.in_ok-hole.hole in
    cuts_off g.G.Grid.geometry u c.requires.universe p.model.now p.level c.requires.level.0 c.requires.level.1 hole c.in_ok-border.border
    (subst (λ cells. IsHole g.G.Grid.geometry cells hole) c.requires.patch.cells_are (part g (goal.at.returns g c).In_ok-hole))
    c.in_ok-hole.ensures.rising
    (subst (λ h. IsBorderOf g.G.Grid.geometry u p.model.now p.level h c.in_ok-border.border) c.as_slice.ensures c.in_ok-border.ensures)
