use Rattle.std.proofs.Common.{◌≡◌, ◌++◌, take}
use Rattle.std.specs.Prelude.{codes}
use Rattle.std.specs.List.{flat_map}
use Rattle.heesch_exchange.proofs.clauses.append_clause.Given as goal

abbrev pub invariant-loop-literal : goal.invariant-loop-literal
invariant-loop-literal g l = l.out.items ≡ l.fn.out.items ++ flat_map (λ literal. g.W.Word.text literal ++ codes " ") (take l.literal-index l.clause)
