use Rattle.std.proofs.Common.{◌≡◌, take}
use Rattle.heesch_text.specs.Shapes.{list_text}
use Rattle.heesch_app.proofs.listing.text_of.Given as goal

abbrev pub invariant-loop-shape : goal.invariant-loop-shape
invariant-loop-shape g l = l.text.items ≡ list_text (take l.shape-index l.shapes)
