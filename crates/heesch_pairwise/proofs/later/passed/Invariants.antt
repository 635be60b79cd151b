use Rattle.heesch_pairwise.specs.Later.{ArePassed}
use Rattle.heesch_pairwise.proofs.later.passed.Given as goal

abbrev pub invariant-loop-at : goal.invariant-loop-at
invariant-loop-at l = ArePassed l.numbers l.at l.n
