use Rattle.std.proofs.Common.{◌≡◌, vec_len}
use Rattle.heesch_geometry_tests.proofs.tests.cuts.model_of.Given as goal

abbrev pub invariant-loop-i : goal.invariant-loop-i
invariant-loop-i l = vec_len l.model ≡ l.i
