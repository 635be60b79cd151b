use Rattle.std.proofs.Common.{◌≡◌, ◌+◌, ◌*◌, sym, subst, arith}
use Rattle.heesch_region.specs.Windows.{wide}
use Rattle.heesch_region.specs.Marks.{IsListed}
use Rattle.heesch_region.proofs.Listings.{listed_skip, listed_all}
use Rattle.heesch_region.proofs.flood.listed.Goals as goal
use Rattle.heesch_region.proofs.flood.listed.Goals.{then-not-are_clear+in_ok-list_row, else-not-are_clear}

pub loop-row-preserved : goal.loop-row-preserved
loop-row-preserved c =
    let w = c.args.window in
    let kept = c.args.kept.now in
    let taken = c.args.taken.now in
    let r = c.loop-row.row in
    elim c.if-not-are_clear.branch [
      | then-not-are_clear+in_ok-list_row b ↦ subst (IsListed w kept taken ((r + 1) * wide w)) (sym b.cells-is) b.in_ok-list_row.ensures
      | else-not-are_clear b ↦ subst (IsListed w kept taken ((r + 1) * wide w)) (sym b.cells-is) (listed_skip w kept taken r c.loop-row.cells (c.are_clear.ensures b.if-not-are_clear.false) c.loop-row.invariant)
    ]

pub returns : goal.returns
returns c =
    let w = c.args.window in
    let end : c.loop-row.row ≡ w.tall = let l = c.loop-row-test.false in let m = c.loop-row.auto.row-end in omega (arith, l, m) in
    listed_all w c.args.kept.now c.args.taken.now c.loop-row.row c.loop-row.cells end c.loop-row.invariant
