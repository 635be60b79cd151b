use Rattle.std.proofs.Common.{ℕ, ◌<◌, List, get_or, All}
use Rattle.heesch_grid.specs.declared.isometries.Iso.{Iso}
use Rattle.heesch_logs.specs.Near.{IsNearIso}
use Rattle.heesch_logs.proofs.near.are_near_layers.Given as goal

abbrev pub invariant-loop-layer : goal.invariant-loop-layer
invariant-loop-layer l = (k : ℕ) (d : List Iso) → k < l.layer-index → All IsNearIso (get_or l.layers k d)
