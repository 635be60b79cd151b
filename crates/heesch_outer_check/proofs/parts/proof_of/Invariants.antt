use Rattle.std.proofs.Common.{◌≡◌, ◌++◌, length, map}
use Rattle.heesch_text.specs.Catalogue.{step_line}
use Rattle.heesch_outer_check.proofs.parts.proof_of.Given as goal

abbrev pub invariant-loop-line : goal.invariant-loop-line
invariant-loop-line l = l.fn.lines.items ≡ map step_line l.steps ++ l.rest.items

abbrev pub decreases-loop-line : goal.decreases-loop-line
decreases-loop-line l = length l.rest.items
