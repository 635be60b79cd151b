use Rattle.heesch_exchange.proofs.Literals.{no_negative}
use Rattle.heesch_exchange.proofs.lines.read_literal.Goals as goal

pub returns-in_err-read_variable-in-Some : goal.returns-in_err-read_variable-in-Some
returns-in_err-read_variable-in-Some c = let h = c.from_residual.ensures in let k = c.in_err-read_variable-in-Some.ensures in let m = c.in-Some.ensures in rw h (no_negative c.args.word.now c.in-Some.digits.now m k)
