use Rattle.std.proofs.Common.{sym, subst, All, ◌<◌, length, get_or, pos, arith}
use Rattle.heesch_grid.specs.Cells.{cell}
use Rattle.heesch_cuts.proofs.Covering.{covering_below}
use Rattle.heesch_cuts.proofs.clauses.mark_fillers.Goals as goal

pub mark_all-requires : goal.mark_all-requires
mark_all-requires g c =
    let marks = c.loop-c.marks in
    let d = get_or c.args.cells.now c.loop-c.c-index (cell (pos 0) (pos 0)) in
    subst (λ ns. All (λ n. n < length marks) ns) (sym c.covered_by.ensures) (covering_below c.args.universe.now.vars c.args.level d (length marks) (let r = c.requires in omega (arith, r, c.loop-c.auto.marks)))
