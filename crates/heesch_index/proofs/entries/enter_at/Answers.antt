use Rattle.std.proofs.Common.{◌∷◌, [], ◌++◌, sym, ap, ◌∙◌}
use Rattle.std.proofs.lemmas.Result.{err_from_is_err_and}
use Rattle.heesch_index.proofs.EntryFacts.{AddsAt-new, KeepsNumbers-write}
use Rattle.heesch_index.proofs.entries.enter_at.Goals as goal

pub returns-in_err-push-clause-err : goal.returns-in_err-push-clause-err
returns-in_err-push-clause-err c =
    let exit = err_from_is_err_and c.from_residual.result c.from_residual.ensures.1 in
    rw exit.1 (KeepsNumbers-write c.args.numbers.now (c.get_mut.follows.lender c.push.new.self) c.args.cell c.in-Some.at.now c.push.new.self (c.get_mut.follows.holds c.push.new.self) c.in-Some.ensures.value c.in_err-push.ensures.items)

pub returns-clause-ok : goal.returns-clause-ok
returns-clause-ok c =
    let none = c.in_default.ensures.value in
    let items = c.in_ok-push-2.ensures.items ∙ ap (λ l. l ++ c.args.number ∷ []) c.new-at.ensures.items in
    AddsAt-new c.args.numbers.now c.get_mut.follows.lender-at-none c.insert.new.self c.args.cell c.push-2.new.self c.args.number c.get_mut.follows.holds-at-none c.in_ok-insert.ensures.updates.0 (sym none) items
