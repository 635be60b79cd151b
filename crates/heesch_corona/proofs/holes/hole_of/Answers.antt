use Rattle.std.proofs.Common.{sym, ap, ◌∙◌}
use Rattle.heesch_grid.specs.Cells.{has}
use Rattle.heesch_corona.proofs.Members.{covered_by, shape_of, whole_has}
use Rattle.heesch_corona.proofs.holes.hole_of.Goals as goal

pub from_cells-requires-clause-near : goal.from_cells-requires-clause-near
from_cells-requires-clause-near g c d h =
    let sets = c.args.index.now in
    let by = covered_by sets c.args.end d (ap (λ xs. has xs d) (sym (c.deref.ensures.value ∙ c.in_ok-cells.ensures)) ∙ h) in
    (shape_of g.G.Grid.geometry sets by.0 c.requires.shapes by.1 by.3).within d by.4

pub from_cells-requires-clause-together : goal.from_cells-requires-clause-together
from_cells-requires-clause-together g c d e h k =
    let sets = c.args.index.now in
    let is = sym (c.deref.ensures.value ∙ c.in_ok-cells.ensures) in
    c.requires.close d e (whole_has sets c.args.end d (ap (λ xs. has xs d) is ∙ h)) (whole_has sets c.args.end e (ap (λ xs. has xs e) is ∙ k))
