use Rattle.std.proofs.Common.{take}
use Rattle.std.specs.Prelude.{flat_map}
use Rattle.std.specs.List.{enumerate_from}
use Rattle.heesch_grid.specs.OwnerFormula.{rank_clauses}
use Rattle.heesch_cert.specs.Literals.{literals}
use Rattle.heesch_encode.specs.Taking.{Takes}
use Rattle.heesch_encode.proofs.owners.take_ranks.Given as goal

abbrev pub invariant-loop-rank : goal.invariant-loop-rank
invariant-loop-rank l = Takes l.fn.collector l.collector (flat_map (rank_clauses literals l.start l.count) (take l.rank (enumerate_from 0 l.holders)))
