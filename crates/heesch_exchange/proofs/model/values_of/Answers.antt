use Rattle.std.proofs.Common.{◌≤◌, ◌+◌, length, arith}
use Rattle.heesch_exchange.proofs.Told.{few_before, few_before_stranger}
use Rattle.heesch_exchange.proofs.model.values_of.Goals as goal

pub overflow_add-result : goal.overflow_add-result
overflow_add-result c =
    let few : c.in-Err-NotText.line ≤ length c.args.text.now + 1 = few_before c.args.vars c.args.text.now c.in-Err-NotText.line (rw c.in-Err-NotText.field-0-is at c.in-Err-NotText.ensures.stop) in omega arith

pub overflow_add-result-in-Err-Stranger : goal.overflow_add-result-in-Err-Stranger
overflow_add-result-in-Err-Stranger c =
    let few : c.in-Err-Stranger.line ≤ length c.args.text.now + 1 = few_before_stranger c.args.vars c.args.text.now c.in-Err-Stranger.line (rw c.in-Err-Stranger.field-0-is at c.in-Err-Stranger.ensures.stop) in omega arith
