use Rattle.std.proofs.Common.{◌≡◌, filter, take}
use Rattle.heesch_place.specs.Spots.{is_whole, step_to}
use Rattle.heesch_place.proofs.forms.Forms.whole.Given as goal

abbrev pub invariant-loop-spot : goal.invariant-loop-spot
invariant-loop-spot g l = l.kept.items ≡ filter (λ s. is_whole g.G.Grid.geometry (step_to l.self.forms s)) (take l.spot-index l.spots)
