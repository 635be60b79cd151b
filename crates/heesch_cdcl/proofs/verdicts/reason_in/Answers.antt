use Rattle.std.proofs.Common.{◌∙◌, sym}
use Rattle.heesch_cdcl.proofs.ReadSteps.{reason_number, form_of}
use Rattle.heesch_cdcl.proofs.verdicts.reason_in.Goals as goal

pub clause-requires : goal.clause-requires
clause-requires c = reason_number c.args.trail.now c.args.var c.in-Some.reason c.vars.ensures.valid (sym c.reason_of.ensures ∙ c.in-Some.is)

pub returns-in-Some : goal.returns-in-Some
returns-in-Some c =
    form_of c.args.trail.now c.in-Some.reason c.clause.result.now c.vars.ensures.valid
    (reason_number c.args.trail.now c.args.var c.in-Some.reason c.vars.ensures.valid (sym c.reason_of.ensures ∙ c.in-Some.is)) c.clause.ensures.clause
