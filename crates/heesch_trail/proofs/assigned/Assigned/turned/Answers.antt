use Rattle.std.proofs.Common.{false, None, ap, arith}
use Rattle.heesch_cnf.specs.declared.literal.Lit.{Lit}
use Rattle.heesch_trail.specs.declared.step.Step.{Step}
use Rattle.heesch_trail.specs.State.{State}
use Rattle.heesch_trail.proofs.Rounds.{Made-few, Made-at}
use Rattle.heesch_trail.proofs.assigned.Assigned.turned.Goals as goal

pub of-requires : goal.of-requires
of-requires c =
    let t = c.args.self.now in
    let blank : Lit = record { var = 0; positive = false } in
    let d : Step = record { lit = blank; level = 0; reason = None } in
    let few = Made-few t.steps c.made.result.now c.made.ensures.made in
    let at = Made-at t.steps c.made.result.now c.args.place blank d c.made.ensures.made (omega (arith, few, c.requires)) in
    let holds = c.made.ensures.valid.steps c.args.place d c.requires in
    let high = holds.high in
    omega (arith, ap (λ (l : Lit). l.var) at, high, c.vars.ensures.small, c.vars.ensures.vars, ap (λ (s : State). s.vars) c.self.view_is)
