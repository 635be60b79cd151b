use Rattle.std.proofs.Common.{length, nat_lt, slice_index_or, refl}
use Rattle.std.proofs.lemmas.Bool.{and_parts, ltb-true}
use Rattle.heesch_grow.proofs.Small.{small_at, small_by_test, near_cell}
use Rattle.heesch_listing.specs.Parts.{are_small}
use Rattle.heesch_app.proofs.tilings.PlainOfAnswerOptionPlain.answer.Goals as goal

pub plain-requires : goal.plain-requires
plain-requires g c =
    let shapes = c.args.self.now.shapes.now in
    let number = c.args.number in
    let accepted = and_parts (nat_lt number (length shapes)) (are_small shapes) c.requires.number in
    let cells = slice_index_or shapes number c.index-self-number.result in
    record { near = near_cell cells (small_at g.G.Grid.geometry shapes number cells c.index-self-number.result (small_by_test shapes accepted.1) (ltb-true number (length shapes) accepted.0) refl) }
