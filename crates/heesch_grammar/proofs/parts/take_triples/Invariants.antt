use Rattle.std.proofs.Common.{◌≡◌, ◌++◌, length}
use Rattle.heesch_grammar.specs.Parts.{triples_at}
use Rattle.heesch_grammar.proofs.parts.take_triples.Given as goal

abbrev pub invariant-loop-line : goal.invariant-loop-line
invariant-loop-line l = l.triples ++ triples_at l.lines.items ≡ triples_at l.fn.lines.items

abbrev pub decreases-loop-line : goal.decreases-loop-line
decreases-loop-line l = length l.lines.items
