use Rattle.std.proofs.Common.{◌≡◌, false, drop}
use Rattle.heesch_grammar.specs.Grammar.{steps}
use Rattle.heesch_grammar.specs.Statements.{start}
use Rattle.heesch_outer_check.proofs.entry.spot_behind.Given as goal

abbrev pub invariant-loop-line : goal.invariant-loop-line
invariant-loop-line l = steps false l.spot (drop l.line-index l.lines) ≡ steps false start l.lines
