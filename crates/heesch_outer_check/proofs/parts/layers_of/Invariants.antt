use Rattle.std.proofs.Common.{◌≡◌, ◌++◌, length}
use Rattle.heesch_text.specs.Catalogue.{layer_lines}
use Rattle.heesch_outer_check.proofs.parts.layers_of.Given as goal

abbrev pub invariant-loop-line : goal.invariant-loop-line
invariant-loop-line l = l.fn.lines.items ≡ layer_lines l.layers ++ l.rest.items

abbrev pub decreases-loop-line : goal.decreases-loop-line
decreases-loop-line l = length l.rest.items
