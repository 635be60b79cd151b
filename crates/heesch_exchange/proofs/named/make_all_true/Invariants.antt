use Rattle.std.proofs.Common.{take, length}
use Rattle.heesch_exchange.specs.Models.{IsAssignment}
use Rattle.heesch_exchange.proofs.named.make_all_true.Given as goal

abbrev pub invariant-loop-literal : goal.invariant-loop-literal
invariant-loop-literal l = IsAssignment (length l.fn.values) (take l.literal-index l.literals) l.values
