use Rattle.std.proofs.Common.{◌-◌, length}
use Rattle.heesch_trail.specs.State.{IsTrail}
use Rattle.heesch_cdcl.specs.Search.{LowerFixpoints, SameClauses}
use Rattle.heesch_cdcl.proofs.workspace.Workspace.descend.Given as goal

abbrev pub invariant-loop-number : goal.invariant-loop-number
invariant-loop-number l = record { valid : IsTrail l.self.trail; lower : LowerFixpoints l.self.trail; same : SameClauses l.fn.self.trail l.self.trail }

abbrev pub decreases-loop-number : goal.decreases-loop-number
decreases-loop-number l = l.self.trail.vars - length l.self.trail.steps
