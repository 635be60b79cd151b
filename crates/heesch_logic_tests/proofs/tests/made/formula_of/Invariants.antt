use Rattle.std.proofs.Common.{◌≡◌}
use Rattle.heesch_logic_tests.proofs.tests.made.formula_of.Given as goal

abbrev pub invariant-loop-numbers : goal.invariant-loop-numbers
invariant-loop-numbers l = l.formula.vars ≡ l.vars
