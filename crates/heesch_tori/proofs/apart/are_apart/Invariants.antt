use Rattle.std.proofs.Common.{◌<◌, ℕ, get_or}
use Rattle.heesch_cnf.specs.declared.literal.Lit.{Lit}
use Rattle.heesch_tori.specs.Later.{IsOneOfTwo}
use Rattle.heesch_tori.specs.Shared.{tabled_sets}
use Rattle.heesch_tori.proofs.apart.are_apart.Given as goal

abbrev pub invariant-loop-lit : goal.invariant-loop-lit
invariant-loop-lit l = (k : ℕ) (d : Lit) → k < l.lit-index → ¬ IsOneOfTwo (tabled_sets l.table) (get_or l.clause k d) l.clause
