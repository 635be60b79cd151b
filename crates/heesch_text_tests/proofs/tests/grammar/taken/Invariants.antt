use Rattle.std.proofs.Common.{◌≡◌, Some}
use Rattle.heesch_grammar.specs.Grammar.{steps}
use Rattle.heesch_grammar.specs.Statements.{start}
use Rattle.heesch_text_tests.proofs.tests.grammar.taken.Given as goal

abbrev pub invariant-loop-line : goal.invariant-loop-line
invariant-loop-line l = steps l.brief start l.queue.items ≡ Some l.spot
