use Rattle.std.proofs.Common.{◌≡◌, ◌<◌, ℕ, false, get_or}
use Rattle.heesch_cnf.specs.declared.literal.Lit.{Lit}
use Rattle.heesch_pairwise.specs.Pairs.{HavePair}
use Rattle.heesch_pairwise.proofs.newness.has_later.Given as goal

abbrev pub invariant-loop-lit : goal.invariant-loop-lit
invariant-loop-lit g l = (k : ℕ) (d : Lit) → k < l.lit-index → (get_or l.clause k d).positive ≡ false → ¬ HavePair l.universe.vars l.var (get_or l.clause k d).var
