use Rattle.std.proofs.Common.{map, take}
use Rattle.heesch_place.specs.Spots.{tile_at}
use Rattle.heesch_place.specs.Universes.{AddTiles}
use Rattle.heesch_place.proofs.universe.add_entries.Given as goal

abbrev pub invariant-loop-spot : goal.invariant-loop-spot
invariant-loop-spot g l =
    AddTiles (λ e. record { level = e.level; tile = e.place.tile }) (λ e. e.place.by) g.G.Grid.geometry l.forms.shape l.level (map (tile_at l.forms.forms) (take l.spot-index l.spots)) l.fn.entries.items l.entries.items
