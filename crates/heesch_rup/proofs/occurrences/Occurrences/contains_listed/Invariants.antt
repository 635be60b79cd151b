use Rattle.std.proofs.Common.{ℕ, ◌<◌, get_or}
use Rattle.heesch_cnf.specs.declared.literal.Lit.{Lit}
use Rattle.heesch_cnf.specs.Literals.{held}
use Rattle.heesch_cnf.specs.Flat.{code_of}
use Rattle.heesch_rup.specs.Listed.{NoneFalsifiedAt}
use Rattle.heesch_rup.proofs.occurrences.Occurrences.contains_listed.Given as goal

abbrev pub invariant-loop-lit : goal.invariant-loop-lit
invariant-loop-lit l =
    (j : ℕ) (d : Lit) → j < l.lit-index → NoneFalsifiedAt l.self.counts.items (held l.values) l.clauses.clauses l.count (code_of (get_or l.clause j d))
