use Rattle.std.proofs.Common.{◌≡◌, ◌++◌, take}
use Rattle.heesch_text.specs.Lines.{text_of}
use Rattle.heesch_text.specs.Catalogue.{layer_lines}
use Rattle.heesch_text.proofs.evidence.append_layers.Given as goal

abbrev pub invariant-loop-places : goal.invariant-loop-places
invariant-loop-places l = l.out.items ≡ l.fn.out.items ++ text_of (layer_lines (take l.places-index l.layers))
