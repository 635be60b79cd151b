use Rattle.std.proofs.Common.{ℕ, ◌<◌, get_or}
use Rattle.heesch_cert.specs.declared.proof.Step.{Step}
use Rattle.heesch_logs.specs.Near.{IsNearStep}
use Rattle.heesch_logs.proofs.near.is_near_proof.Given as goal

abbrev pub invariant-loop-step : goal.invariant-loop-step
invariant-loop-step l = (k : ℕ) (d : Step) → k < l.step-index → IsNearStep (get_or l.step-items k d)
