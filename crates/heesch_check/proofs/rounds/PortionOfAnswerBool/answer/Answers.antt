use Rattle.std.proofs.Common.{◌%◌, length, Some, refl, ap, ◌∙◌}
use Rattle.std.proofs.lemmas.Option.{slice_get_read}
use Rattle.heesch_check.proofs.Portions.{item_near}
use Rattle.heesch_check.proofs.rounds.PortionOfAnswerBool.answer.Goals as goal

pub portion_holds-requires-clause-near : goal.portion_holds-requires-clause-near
portion_holds-requires-clause-near g c = λ κs within.
    let self = c.args.self.now in
    let found = self.items.now in
    let i = c.saturating_sub-behind.result % self.count in
    let look = c.in-Some-Entry.ensures.lookup in
    item_near found i c.in-Some-Entry.field-0-0 c.in-Some-Entry.entry c.requires.ready.2 (slice_get_read found (length found) i c.in-Some-Entry.field-0.now refl look.3.0 look.1 ∙ ap (λ x. Some x) c.in-Some-Entry.field-0-is)
