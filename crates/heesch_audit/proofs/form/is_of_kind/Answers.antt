use Rattle.heesch_tiling.specs.PlainAnswer.{answered}
use Rattle.heesch_logs.proofs.Equal.{through}
use Rattle.heesch_audit.proofs.Plain.{by_half_turn, by_translation, none_admitted}
use Rattle.heesch_audit.proofs.form.is_of_kind.Goals as goal

pub returns-in-Translation : goal.returns-in-Translation
returns-in-Translation g c =
    rw c.in-Translation.is
    (through c.is_by_translation.ensures (by_translation g.G.Grid.geometry g.met.G.Grid.laws c.args.limits c.args.shape.now c.args.tiling.now (answered c.plain-found.result) c.plain-found.ensures))

pub returns-in-HalfTurn : goal.returns-in-HalfTurn
returns-in-HalfTurn g c =
    rw c.in-HalfTurn.is
    (through c.is_by_half_turn.ensures (by_half_turn g.G.Grid.geometry g.met.G.Grid.laws c.args.limits c.args.shape.now c.args.tiling.now (answered c.plain-found.result) c.plain-found.ensures))

pub returns-in-Periodic : goal.returns-in-Periodic
returns-in-Periodic g c =
    let both = none_admitted g.G.Grid.geometry g.met.G.Grid.laws c.args.limits c.args.shape.now (answered c.plain-found.result) c.plain-found.ensures in
    rw c.in-Periodic.is (through c.is_periodic.ensures ((λ h. (both.0 h.0, h.1)), (λ h. (both.1 h.0, h.1))))
