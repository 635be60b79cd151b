use Rattle.std.proofs.Common.{◌≡◌, ◌≤◌, ◌-◌}
use Rattle.std.specs.Prelude.{None}
use Rattle.heesch_parts.proofs.Going.{Going}
use Rattle.heesch_parts.proofs.input.joined.Given as goal

abbrev pub invariant-pieces : goal.invariant-pieces
invariant-pieces g l = record {
  going : Going (g.R.Source.left l.fn.source) (g.R.Source.left l.source) l.count l.joiner.kept l.items;
  unrefused : l.joiner.refusal ≡ None;
  within : l.count ≤ g.row.MOST;
  later : g.R.Source.faults l.fn.source ≤ g.R.Source.faults l.source;
}

abbrev pub decreases-pieces : goal.decreases-pieces
decreases-pieces g l = g.row.MOST - l.count
