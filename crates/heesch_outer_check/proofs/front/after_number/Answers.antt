use Rattle.std.proofs.Common.{◌∙◌}
use Rattle.heesch_outer_check.proofs.Answers.{none_is}
use Rattle.heesch_outer_check.proofs.Words.{number_ends, number_missed}
use Rattle.heesch_outer_check.proofs.front.after_number.Goals as goal

pub returns-in_err-rest-2 : goal.returns-in_err-rest-2
returns-in_err-rest-2 c =
    none_is _ _ c.from_residual-in_err-rest-2.result c.from_residual-in_err-rest-2.ensures
    (number_missed c.args.label.now c.as_bytes.result.now c.in_ok-rest.rest.now c.args.bytes.now c.args.number (c.as_bytes.ensures.value ∙ c.format.ensures.text) c.in_ok-rest.ensures c.in_err-rest-2.ensures)

pub returns : goal.returns
returns c =
    number_ends c.args.label.now c.as_bytes.result.now c.in_ok-rest.rest.now c.in_ok-rest-2.rest.now c.args.bytes.now c.args.number c.after-3.result (c.as_bytes.ensures.value ∙ c.format.ensures.text) c.in_ok-rest.ensures c.in_ok-rest-2.ensures c.after-3.ensures
