use Rattle.std.proofs.Common.{get_or}
use Rattle.heesch_grid.specs.Cells.{origin}
use Rattle.heesch_place.specs.declared.spots.Spot.{Spot}
use Rattle.heesch_place.proofs.Gathering.{member_at}
use Rattle.heesch_place.proofs.spots.SpotMarks.others.Goals as goal

abbrev none : Spot
none = record { form = 0; first = origin }

pub has-requires : goal.has-requires
has-requires c = c.requires (get_or c.args.spots.now c.loop-spot.spot-index none) (member_at c.args.spots.now c.loop-spot.spot-index none c.loop-spot-test.true)
