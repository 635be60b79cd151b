use Rattle.std.proofs.Common.{◌∙◌, Some, sym, ap}
use Rattle.heesch_rup.specs.Hints.{hints_of}
use Rattle.heesch_logs.proofs.LogLines.{learnt_there, given_there}
use Rattle.heesch_logs.proofs.proof_log.hints_at.Goals as goal

pub returns-in-Learn : goal.returns-in-Learn
returns-in-Learn c = λ given d. ap Some c.as_slice.ensures ∙ sym (ap hints_of (learnt_there c.args.steps.now given c.args.index c.index-steps-index.result c.requires c.index-steps-index.is d c.in-Learn.clause c.in-Learn.hints c.in-Learn.is))

pub returns-in-Cut : goal.returns-in-Cut
returns-in-Cut c = λ given d. sym (ap hints_of (given_there c.args.steps.now given c.args.index c.index-steps-index.result c.requires c.index-steps-index.is d c.in-Cut.cut c.in-Cut.is))
