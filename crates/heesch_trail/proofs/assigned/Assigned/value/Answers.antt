use Rattle.std.proofs.Common.{◌+◌, ◌*◌, true, ap, ◌∙◌, arith}
use Rattle.std.proofs.lemmas.List.{get_or_default}
use Rattle.heesch_cnf.specs.declared.literal.Lit.{Lit}
use Rattle.heesch_trail.specs.declared.truth.Truth.TheVariants.{Open}
use Rattle.heesch_trail.specs.State.{State, values_of}
use Rattle.heesch_trail.specs.Inner.{value_in}
use Rattle.heesch_trail.proofs.assigned.Assigned.value.Goals as goal

pub returns : goal.returns
returns c =
    let t = c.self.inside in
    let l : Lit = record { var = c.args.var; positive = true } in
    let vars = ap (λ (s : State). s.vars) c.self.view_is in
    c.value.ensures ∙ ap value_in (c.index.ensures ∙ get_or_default t.values.items (2 * c.args.var + 1) c.index.result.now Open (omega (arith, c.self.invariant.held.room, vars, c.requires)))
    ∙ c.self.invariant.held.values_are l (omega (arith, vars, c.requires)) ∙ ap (λ (s : State). values_of s.steps c.args.var) c.self.view_is
