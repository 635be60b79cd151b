use Rattle.std.proofs.Common.{ℕ, ◌<◌, get_or}
use Rattle.heesch_grid.specs.declared.isometries.Iso.{Iso}
use Rattle.heesch_logs.specs.Near.{IsNearIso}
use Rattle.heesch_logs.proofs.near.are_near_isos.Given as goal

abbrev pub invariant-loop-by : goal.invariant-loop-by
invariant-loop-by l = (k : ℕ) (d : Iso) → k < l.by-index → IsNearIso (get_or l.isos k d)
