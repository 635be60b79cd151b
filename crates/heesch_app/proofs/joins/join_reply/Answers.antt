use Rattle.std.proofs.Common.{refl, inl}
use Rattle.heesch_app.proofs.joins.join_reply.Goals as goal

pub returns-in-Ok-clause-ok : goal.returns-in-Ok-clause-ok
returns-in-Ok-clause-ok g c =
    let (input, all, few, joined) = c.in-Ok.ensures.ok in
    (input, all, inl (refl, few, joined))
