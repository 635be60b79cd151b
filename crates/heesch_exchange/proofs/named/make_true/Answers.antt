use Rattle.std.proofs.Common.{length}
use Rattle.heesch_exchange.proofs.Naming.{true_more}
use Rattle.heesch_exchange.proofs.named.make_true.Goals as goal

pub returns-then-literal : goal.returns-then-literal
returns-then-literal c = λ before so. true_more (length c.args.values.now) before c.args.values.now c.args.literal so c.if-literal.true c.requires.low c.requires.high
