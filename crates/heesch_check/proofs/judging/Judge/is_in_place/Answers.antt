use Rattle.std.proofs.Common.{◌≡◌, Some, length, refl, sym, ap, ◌∙◌, true≢false}
use Rattle.std.proofs.lemmas.Option.{slice_get_read}
use Rattle.heesch_check.proofs.Places.{past_place, tests_place}
use Rattle.heesch_check.proofs.judging.Judge.is_in_place.Goals as goal

pub returns-then-shapes-before-clause-place : goal.returns-then-shapes-before-clause-place
returns-then-shapes-before-clause-place g c =
    let self = c.args.self.now in
    let shapes = c.as_slice-shapes.result.now in
    let some : self.shapes ≡ Some shapes = c.in-Some.is ∙ ap (λ x. Some x) (sym c.as_slice-shapes.ensures) in
    (λ e. absurd (true≢false (sym e)), λ p. absurd (past_place self.header self.header.subject self.shapes shapes c.requires some c.args.entries c.args.cells.now c.if-shapes-before.true p))

pub returns-clause-place : goal.returns-clause-place
returns-clause-place g c =
    let self = c.args.self.now in
    let shapes = c.as_slice-shapes.result.now in
    let some : self.shapes ≡ Some shapes = c.in-Some.is ∙ ap (λ x. Some x) (sym c.as_slice-shapes.ensures) in
    tests_place self.header self.header.subject self.shapes shapes c.requires some c.args.entries c.index-shapes-before.result c.cells.result.now c.args.cells.now c.eq.result
    (slice_get_read shapes (length shapes) c.args.entries c.index-shapes-before.result refl c.if-shapes-before.false c.index-shapes-before.is) c.cells.ensures.cells c.eq.ensures
