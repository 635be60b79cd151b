use Rattle.std.proofs.Common.{◌≡◌, ◌+◌, ◌<◌, take}
use Rattle.heesch_merge.specs.Union.{shapes_in}
use Rattle.heesch_merge.proofs.merging.are_long.Given as goal

abbrev pub invariant-loop-list : goal.invariant-loop-list
invariant-loop-list g l = (l.missing + shapes_in (take l.list-index l.lists) ≡ 4096) × (0 < l.missing)
