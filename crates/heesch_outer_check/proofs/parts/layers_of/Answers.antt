use Rattle.heesch_outer_check.proofs.ProofLines.{no_layers}
use Rattle.heesch_outer_check.proofs.parts.layers_of.Goals as goal

pub returns-in_default-line : goal.returns-in_default-line
returns-in_default-line c = λ layers e. no_layers c.loop-line.layers layers c.in-Some.line _ _ c.args.lines.items c.in-Some.ensures.items c.in_default-line.not-Layer c.loop-line.invariant e
