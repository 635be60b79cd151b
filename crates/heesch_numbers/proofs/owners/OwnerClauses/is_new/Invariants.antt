use Rattle.std.proofs.Common.{◌<◌, ℕ, length, get_or}
use Rattle.heesch_cnf.specs.declared.literal.Lit.{Lit}
use Rattle.heesch_numbers.specs.OwnerCounts.{HasOneOf, owners_of}
use Rattle.heesch_numbers.proofs.owners.OwnerClauses.is_new.Given as goal

abbrev pub invariant-loop-owner : goal.invariant-loop-owner
invariant-loop-owner g l = (k : ℕ) (d : Lit) → k < l.owner-index → length l.universe.vars < (get_or l.clause k d).var → ¬ HasOneOf (owners_of l.universe.vars l.self.cells.items) (get_or l.clause k d) l.clause
