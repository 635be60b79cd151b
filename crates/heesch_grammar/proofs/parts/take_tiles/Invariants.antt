use Rattle.std.proofs.Common.{◌≡◌, ◌++◌, length}
use Rattle.heesch_grammar.specs.Parts.{places_at, members_at}
use Rattle.heesch_grammar.proofs.parts.take_tiles.Given as goal

abbrev pub invariant-loop-line : goal.invariant-loop-line
invariant-loop-line l = record {
  places : l.places ++ places_at l.lines.items ≡ places_at l.fn.lines.items;
  members : l.members ++ members_at l.lines.items ≡ members_at l.fn.lines.items;
}

abbrev pub decreases-loop-line : goal.decreases-loop-line
decreases-loop-line l = length l.lines.items
