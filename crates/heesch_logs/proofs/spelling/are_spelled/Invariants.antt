use Rattle.std.proofs.Common.{ℕ, ◌<◌, List, get_or}
use Rattle.std.specs.Prelude.{None}
use Rattle.heesch_grid.specs.declared.isometries.Iso.{Iso}
use Rattle.heesch_logs.specs.Spelling.{IsSpelledAfter}
use Rattle.heesch_logs.proofs.spelling.are_spelled.Given as goal

abbrev pub invariant-loop-layer : goal.invariant-loop-layer
invariant-loop-layer g l = (k : ℕ) (d : List Iso) → k < l.layer-index → IsSpelledAfter g.G.Grid.geometry l.shape None (get_or l.layers k d)
