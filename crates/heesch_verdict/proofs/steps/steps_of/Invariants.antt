use Rattle.std.proofs.Common.{◌≡◌, [], map, All}
use Rattle.heesch_cert.specs.Proofs.{IsLearnStep, line_of_step}
use Rattle.heesch_verdict.proofs.steps.steps_of.Given as goal

abbrev pub invariant-loop-line : goal.invariant-loop-line
invariant-loop-line l = record { learnt : All IsLearnStep l.steps.items; same : map (line_of_step []) l.steps.items ≡ l.yielded }
