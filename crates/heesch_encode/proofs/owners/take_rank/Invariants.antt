use Rattle.std.proofs.Common.{take}
use Rattle.std.specs.Prelude.{flat_map}
use Rattle.std.specs.List.{range_with_len}
use Rattle.heesch_encode.specs.Taking.{Takes}
use Rattle.heesch_encode.proofs.Holders.{bit_piece}
use Rattle.heesch_encode.proofs.owners.take_rank.Given as goal

abbrev pub invariant-loop-t : goal.invariant-loop-t
invariant-loop-t l = Takes l.fn.collector l.collector (flat_map (bit_piece l.start (l.rank, l.var)) (take l.t (range_with_len 0 l.count)))
