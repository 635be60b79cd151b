use Rattle.heesch_app.proofs.OuterChecks.{can_be_listed, outers_ended, outers_told}
use Rattle.heesch_app.proofs.checks.checked_outers_reply.Goals as goal

pub check_outers-requires-clause-subject : goal.check_outers-requires-clause-subject
check_outers-requires-clause-subject g c = λ κs within. can_be_listed c.args.header.now.subject c.requires.subject

pub returns-clause-ok : goal.returns-clause-ok
returns-clause-ok g c =
    outers_told c.args.header.now (g.R.Source.left c.args.source.now) c.in_ok-input.input.items c.deref.result.now c.in_ok-checked.checked c.told.result c.in_ok-input.ensures.ok c.deref.ensures.value
    c.in_ok-checked.ensures c.told.ensures.status c.told.ensures.text

pub returns-clause-ended : goal.returns-clause-ended
returns-clause-ended g c =
    outers_ended c.args.header.now c.in_ok-input.input.items c.deref.result.now _ c.in_ok-checked.checked c.told.result c.deref.ensures.value c.in_ok-checked.ensures
    c.in_ok-input.ensures.ended c.told.ensures.status
