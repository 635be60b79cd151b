use Rattle.std.proofs.Common.{vec_len}
use Rattle.heesch_cnf.specs.Literals.{held}
use Rattle.heesch_rup.proofs.Chains.{Walks, places_left}
use Rattle.heesch_rup.proofs.occurrences.Occurrences.any_falsified.Given as goal

abbrev pub invariant-loop-next : goal.invariant-loop-next
invariant-loop-next l = Walks l.self.counts.items (held l.values) l.clauses.clauses (vec_len l.self.earlier) l.count l.slot l.next

abbrev pub decreases-loop-next : goal.decreases-loop-next
decreases-loop-next l = places_left l.next
