use Rattle.std.proofs.Common.{length, refl, sym, true≢false}
use Rattle.std.proofs.lemmas.Option.{slice_get_read}
use Rattle.heesch_outer_check.proofs.Places.{past_listed, tests_listed}
use Rattle.heesch_outer_check.proofs.judging.is_listed_at.Goals as goal

pub returns-then-shapes-before : goal.returns-then-shapes-before
returns-then-shapes-before g c = (λ e. absurd (true≢false (sym e)), λ at. absurd (past_listed c.args.shapes.now c.args.before c.args.cells.now c.if-shapes-before.true at))

pub returns : goal.returns
returns g c =
    let shapes = c.args.shapes.now in
    tests_listed shapes c.args.before c.index-shapes-before.result c.cells.result.now c.args.cells.now c.eq.result
    (slice_get_read shapes (length shapes) c.args.before c.index-shapes-before.result refl c.if-shapes-before.false c.index-shapes-before.is) c.cells.ensures.cells c.eq.ensures
