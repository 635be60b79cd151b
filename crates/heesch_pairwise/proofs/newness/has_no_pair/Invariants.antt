use Rattle.std.proofs.Common.{◌≡◌, ◌<◌, ℕ, false, get_or}
use Rattle.heesch_cnf.specs.declared.literal.Lit.{Lit}
use Rattle.heesch_pairwise.specs.Pairs.{HasLater}
use Rattle.heesch_pairwise.proofs.newness.has_no_pair.Given as goal

abbrev pub invariant-loop-lit : goal.invariant-loop-lit
invariant-loop-lit g l = (k : ℕ) (d : Lit) → k < l.lit-index → (get_or l.clause k d).positive ≡ false → ¬ HasLater l.universe.vars (get_or l.clause k d).var l.clause
