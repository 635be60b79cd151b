use Rattle.std.proofs.Common.{List, ◌++◌, take, length}
use Rattle.heesch_cnf.specs.declared.literal.Lit.{Lit}
use Rattle.heesch_exchange.specs.Models.{AreOver}
use Rattle.heesch_exchange.specs.Lines.{AreNamed}
use Rattle.heesch_exchange.proofs.named.name_all.Given as goal

abbrev pub invariant-loop-literal : goal.invariant-loop-literal
invariant-loop-literal l = (before : List Lit) → AreNamed before l.fn.named → AreOver (length l.fn.named) before
    → AreNamed (before ++ take l.literal-index l.literals) l.named × AreOver (length l.fn.named) (before ++ take l.literal-index l.literals)
