use Rattle.std.proofs.Common.{◌≡◌, ◌++◌, ◌-◌}
use Rattle.heesch_grammar.specs.Parts.{layers_at, behind_layers}
use Rattle.heesch_grammar.proofs.parts.take_layers.Given as goal

abbrev pub invariant-loop-i : goal.invariant-loop-i
invariant-loop-i l = record {
  layers : l.layers ++ layers_at (l.count - l._i) l.lines.items ≡ layers_at l.count l.fn.lines.items;
  rest : behind_layers (l.count - l._i) l.lines.items ≡ behind_layers l.count l.fn.lines.items;
}
