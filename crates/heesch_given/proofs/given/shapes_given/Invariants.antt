use Rattle.std.proofs.Common.{◌≤◌, ◌-◌}
use Rattle.heesch_given.proofs.Going.{Going}
use Rattle.heesch_given.proofs.given.shapes_given.Given as goal

abbrev pub invariant-pieces : goal.invariant-pieces
invariant-pieces g l = record {
  going : Going g.G.Grid.geometry (g.R.Source.left l.fn.source) (g.R.Source.left l.source) l.count l.lines.shapes.items l.lines.line;
  within : l.count ≤ g.row.MOST;
  later : g.R.Source.faults l.fn.source ≤ g.R.Source.faults l.source;
}

abbrev pub decreases-pieces : goal.decreases-pieces
decreases-pieces g l = g.row.MOST - l.count
