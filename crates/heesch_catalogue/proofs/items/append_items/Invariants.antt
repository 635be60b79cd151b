use Rattle.std.proofs.Common.{take}
use Rattle.heesch_catalogue.specs.Rounds.{AreTexts, Extends}
use Rattle.heesch_catalogue.proofs.items.append_items.Given as goal

-- the texts of the items before this place are appended
abbrev pub invariant-loop-item : goal.invariant-loop-item
invariant-loop-item g l = Extends (AreTexts (g.R.ShapeText.is_text l.texts) (take l.item-index l.items)) l.fn.text.items l.text.items
