use Rattle.std.proofs.Common.{drop}
use Rattle.std.specs.Prelude.{◌↔◌, None}
use Rattle.heesch_logs.specs.Spelling.{IsSpelledAfter, tile_of}
use Rattle.heesch_logs.proofs.spelling.is_spelled.Given as goal

abbrev pub invariant-loop-by : goal.invariant-loop-by
invariant-loop-by g l = IsSpelledAfter g.G.Grid.geometry l.shape None l.layer ↔ IsSpelledAfter g.G.Grid.geometry l.shape (tile_of l.last) (drop l.by-index l.layer)
