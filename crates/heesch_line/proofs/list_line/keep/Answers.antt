use Rattle.std.proofs.Common.{◌<◌, ◌≤◌, subst, ◌∙◌}
use Rattle.heesch_line.proofs.Scans.{kept_more, kept_same}
use Rattle.heesch_line.proofs.list_line.keep.Goals as goal

pub returns-then-len-ge-CELLS_MAX-clause-kept : goal.returns-then-len-ge-CELLS_MAX-clause-kept
returns-then-len-ge-CELLS_MAX-clause-kept c all is =
    kept_same c.args.cells.now all c.args.cell is (subst (λ n. 33 ≤ n) c.len.ensures c.if-len-ge-CELLS_MAX.true)

pub returns-clause-kept : goal.returns-clause-kept
returns-clause-kept c all is =
    c.in_ok-push.ensures.ok ∙ kept_more c.args.cells.now all c.args.cell is (subst (λ n. n < 33) c.len.ensures c.if-len-ge-CELLS_MAX.false)
