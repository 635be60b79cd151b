use Rattle.std.proofs.Common.{◌≡◌, ◌+◌, Bool, not, ◌&&◌, ◌||◌, length, take, sym, ap, subst, ◌∙◌, arith}
use Rattle.std.proofs.Math.Seq.{take-length}
use Rattle.heesch_grid.specs.declared.Cell.{Cell}
use Rattle.heesch_grid.specs.Cells.{has, same_cell}
use Rattle.heesch_grid.specs.Corona.{cells_of}
use Rattle.heesch_grid.specs.Pairs.{same_cell-true}
use Rattle.heesch_corona.specs.Searches.{IsLeastWith}
use Rattle.heesch_corona.proofs.Leasts.{least_same, neighbour_open, neighbour_closed, has_next}
use Rattle.heesch_corona.proofs.gaps.least_beside.Goals as goal
use Rattle.heesch_corona.proofs.gaps.least_beside.Goals.{then-not-is_covered, else-not-is_covered}

pub loop-i-preserved : goal.loop-i-preserved
loop-i-preserved g c test start =
    let met = g.met.G.Grid in
    let xs = g.G.Grid.geometry.touching c.args.c in
    let long : c.TOUCHING-i-end.result ≡ length xs = c.TOUCHING-i-end.ensures ∙ met.sizes.touching_is ∙ sym ((met.laws.touching_listed c.args.c c.requires.cell).1) in
    let i = c.loop-i.i in
    let r = c.touching-d.result in
    let covered = has (cells_of (take c.args.outer c.args.index.now)) in
    let next = λ (d : Cell). has_next xs i r d (omega (arith, long, c.loop-i-test.true)) c.touching-d.ensures in
    let was = c.loop-i.invariant test start in
    let new : Cell → Bool = λ d. test d || (has (take (i + 1) xs) d && not (covered d)) in
    elim c.if-not-is_covered.branch [
      | then-not-is_covered b ↦
          let none = sym c.is_covered.ensures ∙ b.if-not-is_covered.true in
          subst (IsLeastWith new) (sym b.least-is) (least_same (λ d. (test d || (has (take i xs) d && not (covered d))) || same_cell d r) new b.lesser-least.result (λ d. neighbour_open (test d) (has (take i xs) d) (same_cell d r) (not (covered d)) (λ s. ap (λ e. not (covered e)) (same_cell-true d r s) ∙ ap not none) ∙ ap (λ k. test d || (k && not (covered d))) (sym (next d))) (b.lesser-least.ensures (λ d. test d || (has (take i xs) d && not (covered d))) was))
      | else-not-is_covered b ↦
          let is = sym c.is_covered.ensures ∙ b.if-not-is_covered.false in
          subst (IsLeastWith new) (sym b.least-is) (least_same (λ d. test d || (has (take i xs) d && not (covered d))) new c.loop-i.least (λ d. neighbour_closed (test d) (has (take i xs) d) (same_cell d r) (not (covered d)) (λ s. ap (λ e. not (covered e)) (same_cell-true d r s) ∙ ap not is) ∙ ap (λ k. test d || (k && not (covered d))) (sym (next d))) was)
    ]

pub returns : goal.returns
returns g c test start =
    let met = g.met.G.Grid in
    let xs = g.G.Grid.geometry.touching c.args.c in
    let long : c.TOUCHING-i-end.result ≡ length xs = c.TOUCHING-i-end.ensures ∙ met.sizes.touching_is ∙ sym ((met.laws.touching_listed c.args.c c.requires.cell).1) in
    let end : c.loop-i.i ≡ length xs = omega (arith, long, c.loop-i-test.false, c.loop-i.auto.i-end) in
    let covered = has (cells_of (take c.args.outer c.args.index.now)) in
    least_same (λ d. test d || (has (take c.loop-i.i xs) d && not (covered d))) (λ d. test d || (has xs d && not (covered d))) c.loop-i.least (λ d. ap (λ ys. test d || (has ys d && not (covered d))) (ap (λ n. take n xs) end ∙ take-length xs)) (c.loop-i.invariant test start)
