use Rattle.std.proofs.Common.{◌≡◌, sym, subst}
use Rattle.std.proofs.lemmas.Result.{IfOk-weaker}
use Rattle.heesch_cuts.specs.Parts.{IsClosedPart, marked_cells}
use Rattle.heesch_cuts.proofs.Spreading.{part_closed}
use Rattle.heesch_cuts.proofs.parts.joined_part.Goals as goal

pub returns : goal.returns
returns g c =
    let hole = c.args.hole.now in
    let reached = c.in_ok-spread.spread.reached.items in
    let s = c.in_ok-spread.ensures in
    IfOk-weaker c.cells.result (λ part. part ≡ marked_cells reached hole) (IsClosedPart g.G.Grid.geometry hole)
    (λ part e. subst (IsClosedPart g.G.Grid.geometry hole) (sym e) (part_closed g.G.Grid.geometry hole reached c.requires.rising c.requires.some s.first s.closed))
    c.cells.ensures
