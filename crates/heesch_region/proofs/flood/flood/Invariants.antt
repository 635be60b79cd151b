use Rattle.std.proofs.Common.{sum}
use Rattle.heesch_region.specs.Windows.{is_marked}
use Rattle.heesch_region.specs.Floods.{IsNarrowed}
use Rattle.heesch_region.proofs.flood.flood.Given as goal

abbrev pub invariant-loop-window : goal.invariant-loop-window
invariant-loop-window g l = IsNarrowed g.G.Grid.geometry (is_marked l.window l.taken) (is_marked l.window l.initial.kept) (is_marked l.window l.kept)

abbrev pub decreases-loop-window : goal.decreases-loop-window
decreases-loop-window g l = sum l.kept
