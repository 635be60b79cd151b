use Rattle.std.proofs.Common.{◌≡◌, map, take, All}
use Rattle.heesch_logs.specs.Admitted.{given_clause, IsAdmittedStep}
use Rattle.heesch_logs.proofs.logs.admitted_log.Given as goal

abbrev pub invariant-loop-step : goal.invariant-loop-step
invariant-loop-step g l = record { admitted : All (IsAdmittedStep g.G.Grid.geometry l.universe l.free_levels) (take l.step-index l.step-items); same : l.given ≡ map (given_clause l.universe.vars) (take l.step-index l.step-items) }
