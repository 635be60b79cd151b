use Rattle.std.proofs.Common.{◌≡◌, ◌<◌, ℕ, [], ◌∷◌, false, get_or, Contains}
use Rattle.heesch_cert.specs.Literals.{literals}
use Rattle.heesch_cnf.specs.declared.literal.Lit.{Lit}
use Rattle.heesch_numbers.specs.OwnerCounts.{owners_of}
use Rattle.heesch_numbers.proofs.owners.OwnerClauses.has_one_of.Given as goal

abbrev pub invariant-loop-lit : goal.invariant-loop-lit
invariant-loop-lit g l = (k : ℕ) (d : Lit) → k < l.lit-index → (get_or l.clause k d).positive ≡ false → ¬ Contains (owners_of l.universe.vars l.self.cells.items) (literals.minus (get_or l.clause k d).var ∷ l.owner ∷ [])
