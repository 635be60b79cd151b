use Rattle.std.proofs.Common.{◌<◌}
use Rattle.heesch_trail.specs.State.{level_of}
use Rattle.heesch_cdcl.specs.Marked.{IsLevelIn}
use Rattle.heesch_cdcl.proofs.analysis.back_of.Given as goal

abbrev pub invariant-loop-lit : goal.invariant-loop-lit
invariant-loop-lit l = record { below : l.back < level_of l.trail.steps; reached : IsLevelIn l.trail.steps l.clause l.back }
