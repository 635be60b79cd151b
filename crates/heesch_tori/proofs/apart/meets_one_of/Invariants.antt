use Rattle.std.proofs.Common.{◌<◌, ℕ, get_or}
use Rattle.heesch_cnf.specs.declared.literal.Lit.{Lit}
use Rattle.heesch_tori.specs.Later.{IsMet}
use Rattle.heesch_tori.specs.Shared.{tabled_sets}
use Rattle.heesch_tori.proofs.apart.meets_one_of.Given as goal

abbrev pub invariant-loop-lit : goal.invariant-loop-lit
invariant-loop-lit l = (k : ℕ) (d : Lit) → k < l.lit-index → ¬ IsMet (tabled_sets l.table) l.first (get_or l.clause k d)
