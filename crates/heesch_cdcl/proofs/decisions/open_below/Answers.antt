use Rattle.std.proofs.Common.{◌≤◌, sym, subst}
use Rattle.heesch_cnf.specs.declared.literal.Lit.{Lit}
use Rattle.heesch_cdcl.proofs.ReadSteps.{form_of}
use Rattle.heesch_cdcl.proofs.decisions.open_below.Goals as goal

pub value_of-requires : goal.value_of-requires
value_of-requires c =
    let trail = c.args.trail.now in
    let clause = c.clause-lit-items in
    let form = form_of trail c.args.number clause.result.now clause.ensures.valid c.requires clause.ensures.clause in
    let range = form.in_range c.loop-lit.lit-index c.lit-item.result c.loop-lit-test.true in
    subst (λ (l : Lit). l.var ≤ trail.vars) (sym c.lit-item.is) range.1
