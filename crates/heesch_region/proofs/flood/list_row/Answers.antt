use Rattle.std.proofs.Common.{◌≡◌, ℕ, ◌+◌, ◌*◌, sym, ◌∙◌, subst, arith}
use Rattle.heesch_region.specs.Windows.{wide}
use Rattle.heesch_region.specs.Marks.{IsListed}
use Rattle.heesch_region.proofs.Places.{inside-true}
use Rattle.heesch_region.proofs.Listings.{listed_more, listed_same}
use Rattle.heesch_region.proofs.flood.list_row.Goals as goal
use Rattle.heesch_region.proofs.flood.list_row.Goals.{then-is_left+in_ok-push, else-is_left}

next : (r w k : ℕ) → r * w + k + 1 ≡ r * w + (k + 1)
next r w k = omega arith

whole : (r w k : ℕ) → k ≡ w → r * w + k ≡ (r + 1) * w
whole r w k e = omega (arith, e)

pub loop-column-preserved : goal.loop-column-preserved
loop-column-preserved c =
    let w = c.args.window in
    let kept = c.args.kept.now in
    let taken = c.args.taken.now in
    let at : ℕ = c.args.row * wide w + c.loop-column.column in
    let x = c.pair-c.result in
    let i = inside-true w x c.pair-c.ensures.inside in
    subst (λ n. IsListed w kept taken n c.if-is_left.cells) (next c.args.row (wide w) c.loop-column.column)
    (elim c.if-is_left.branch [
      | then-is_left+in_ok-push b ↦
          subst (IsListed w kept taken (at + 1)) (sym (b.cells-is ∙ b.in_ok-push.ensures.ok)) (listed_more w kept taken at x c.loop-column.cells i c.pair-c.ensures.order (sym c.is_left.ensures ∙ b.if-is_left.true) c.loop-column.invariant)
      | else-is_left b ↦ subst (IsListed w kept taken (at + 1)) (sym b.cells-is) (listed_same w kept taken at x c.loop-column.cells i c.pair-c.ensures.order (sym c.is_left.ensures ∙ b.if-is_left.false) c.loop-column.invariant)
    ])

pub returns : goal.returns
returns c =
    let w = c.args.window in
    let end : c.loop-column.column ≡ wide w = let l = c.loop-column-test.false in let m = c.loop-column.auto.column-end in omega (arith, l, m) in
    subst (λ n. IsListed w c.args.kept.now c.args.taken.now n c.loop-column.cells) (whole c.args.row (wide w) c.loop-column.column end) c.loop-column.invariant
