use Rattle.std.proofs.Common.{◌∙◌, sym, ap}
use Rattle.heesch_cnf.specs.Lines.{clause_of}
use Rattle.heesch_logs.proofs.LogLines.{learnt_there, given_there}
use Rattle.heesch_logs.proofs.proof_log.clause_at.Goals as goal

pub returns-in-Learn : goal.returns-in-Learn
returns-in-Learn c = λ d. c.as_slice.ensures ∙ sym (ap clause_of (learnt_there c.args.steps.now c.args.given.now c.args.index c.index-steps-index.result c.requires c.index-steps-index.is d c.in-Learn.clause c.in-Learn.hints c.in-Learn.is))

pub returns-in-Cut : goal.returns-in-Cut
returns-in-Cut c = λ d. c.given_at.ensures ∙ sym (ap clause_of (given_there c.args.steps.now c.args.given.now c.args.index c.index-steps-index.result c.requires c.index-steps-index.is d c.in-Cut.cut c.in-Cut.is))
