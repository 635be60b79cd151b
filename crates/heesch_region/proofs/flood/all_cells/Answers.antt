use Rattle.std.proofs.Common.{◌≡◌, ◌+◌, ◌*◌, ◌<◌, ◌==◌, ◌&&◌, [], ◌∷◌, ℕ, length, length-append, sym, ap, ◌∙◌, subst, arith}
use Rattle.heesch_region.specs.Bits.{bit_of}
use Rattle.heesch_region.specs.Windows.{size, is_inner, cell_of}
use Rattle.heesch_region.proofs.Marking.{words_more, marks_all}
use Rattle.heesch_region.proofs.flood.all_cells.Goals as goal

pub loop-number-preserved : goal.loop-number-preserved
loop-number-preserved g c =
    let w = c.args.window in
    let f = λ (n : ℕ). is_inner w (cell_of w n) && g.G.Grid.geometry.is_cell (cell_of w n) in
    let old = c.loop-number.words.items in
    let long = c.loop-number.invariant.long in
    let items = c.in_ok-push.ensures.items in
    record {
      long = ap length items ∙ length-append old (c.first_word.result ∷ []) ∙ ap (λ n. n + 1) long;
      marks = λ n l. ap (λ ws. bit_of ws n == 1) items ∙ words_more old c.first_word.result f (λ n l. c.loop-number.invariant.marks n (subst (λ k. n < 64 * k) long l)) (λ j l. c.first_word.ensures j l ∙ ap (λ k. f (64 * k + j)) (sym long)) n (subst (λ k. n < 64 * (k + 1)) (sym long) l);
    }

pub returns-clause-marks : goal.returns-clause-marks
returns-clause-marks g c d =
    let end : c.loop-number.number ≡ size c.args.window = omega (arith, c.loop-number-test.false, c.loop-number.auto.number-end, c.size-number-end.ensures) in
    marks_all c.args.window c.loop-number.words.items g.G.Grid.geometry.is_cell (λ n l. c.loop-number.invariant.marks n (subst (λ k. n < 64 * k) (sym end) l)) d
