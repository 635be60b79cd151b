use Rattle.std.proofs.Common.{◌≡◌}
use Rattle.heesch_text_tests.proofs.tests.table.text_of.Given as goal

abbrev pub invariant-loop-holed : goal.invariant-loop-holed
invariant-loop-holed l = l.tally.shapes ≡ l.holed-index
