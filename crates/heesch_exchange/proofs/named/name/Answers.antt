use Rattle.std.proofs.Common.{arith}
use Rattle.heesch_exchange.proofs.Naming.{named_more, is_fresh}
use Rattle.heesch_exchange.proofs.named.name.Goals as goal

pub returns : goal.returns
returns c = λ before marks.
    (named_more before c.args.named.now c.args.literal marks c.requires.0 (omega arith), is_fresh before c.args.named.now c.args.literal marks c.requires.0 (omega arith) c.if-named-index.false)
