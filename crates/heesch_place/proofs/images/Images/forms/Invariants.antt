use Rattle.std.proofs.Common.{take}
use Rattle.heesch_place.proofs.Moving.{AreSettled}
use Rattle.heesch_place.proofs.images.Images.forms.Given as goal

abbrev pub invariant-loop-tile : goal.invariant-loop-tile
invariant-loop-tile g l = AreSettled g.G.Grid.geometry (take l.tile-index l.tile-items) l.all.items
