use Rattle.std.proofs.Common.{ℕ, ◌<◌, get_or}
use Rattle.heesch_cert.specs.declared.proof.Step.{Step}
use Rattle.heesch_levels.specs.UpTo.{IsStepUpTo}
use Rattle.heesch_outer.proofs.checking.has_cuts_up_to.Given as goal

abbrev pub invariant-loop-step : goal.invariant-loop-step
invariant-loop-step l = (k : ℕ) (d : Step) → k < l.step-index → IsStepUpTo l.h (get_or l.step-items k d)
