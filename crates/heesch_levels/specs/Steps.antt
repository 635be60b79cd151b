-- A proof, from a log and the cuts that were given.
use Rattle.std.specs.Prelude.{List, [], ◌∷◌}
use Rattle.heesch_cnf.specs.declared.log.Line.{Line}
use Rattle.heesch_cnf.specs.declared.log.Line.TheVariants.{Learn as LearnLine, Given}
use Rattle.heesch_cnf.specs.declared.log.Log.{Log}
use Rattle.heesch_cert.specs.declared.proof.Cut.{Cut as TheCut}
use Rattle.heesch_cert.specs.declared.proof.Step.{Step}
use Rattle.heesch_cert.specs.declared.proof.Step.TheVariants.{Learn, Cut}
use Rattle.heesch_cert.specs.declared.proof.Proof.{Proof}

-- each Learn line is a step of its own, and each Given line the next of the cuts
abbrev pub steps_of : List Line → List TheCut → List Step
steps_of [] cuts = []
steps_of (LearnLine clause hints ∷ lines) cuts = Learn clause hints ∷ steps_of lines cuts
steps_of (Given clause ∷ lines) [] = steps_of lines []
steps_of (Given clause ∷ lines) (cut ∷ cuts) = Cut cut ∷ steps_of lines cuts

-- these steps, and the last line of the log
abbrev pub proof_of : Log → List TheCut → Proof
proof_of log cuts = record { steps = steps_of log.lines cuts; last = log.last }
