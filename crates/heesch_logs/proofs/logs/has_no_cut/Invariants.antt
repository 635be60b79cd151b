use Rattle.std.proofs.Common.{ℕ, ◌<◌, get_or}
use Rattle.heesch_cert.specs.declared.proof.Step.{Step}
use Rattle.heesch_cert.specs.Proofs.{IsLearnStep}
use Rattle.heesch_logs.proofs.logs.has_no_cut.Given as goal

abbrev pub invariant-loop-step : goal.invariant-loop-step
invariant-loop-step l = (k : ℕ) (d : Step) → k < l.step-index → IsLearnStep (get_or l.step-items k d)
