use Rattle.std.proofs.Common.{All}
use Rattle.heesch_cnf.specs.Lines.{IsNumber}
use Rattle.heesch_cdcl.specs.declared.covers.Cover.{Cover}
use Rattle.heesch_cdcl.proofs.covers.covers_in.Given as goal

abbrev pub invariant-loop-index : goal.invariant-loop-index
invariant-loop-index l = All (λ (c : Cover). IsNumber l.formula.clauses c.number) l.covers.items
