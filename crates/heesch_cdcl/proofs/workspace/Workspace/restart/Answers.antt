use Rattle.std.proofs.Common.{◌∙◌}
use Rattle.heesch_trail.proofs.Levels.{Continues-level}
use Rattle.heesch_cdcl.proofs.workspace.Workspace.restart.Goals as goal

pub returns-clause-level : goal.returns-clause-level
returns-clause-level c = Continues-level c.go_back.new.self.trail c.propagate.new.self c.propagate.ensures.goes_on ∙ c.go_back.ensures.level
