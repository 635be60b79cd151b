use Rattle.std.proofs.Common.{get_or}
use Rattle.heesch_grid.specs.Cells.{origin}
use Rattle.heesch_place.specs.declared.spots.Spot.{Spot}
use Rattle.heesch_place.proofs.Gathering.{member_at}
use Rattle.heesch_place.proofs.forms.Forms.whole.Goals as goal

abbrev none : Spot
none = record { form = 0; first = origin }

pub is_whole-requires-clause-form : goal.is_whole-requires-clause-form
is_whole-requires-clause-form g c = c.requires.forms (get_or c.args.spots.now c.loop-spot.spot-index none) (member_at c.args.spots.now c.loop-spot.spot-index none c.loop-spot-test.true)

pub is_whole-requires-clause-first : goal.is_whole-requires-clause-first
is_whole-requires-clause-first g c = c.requires.firsts (get_or c.args.spots.now c.loop-spot.spot-index none) (member_at c.args.spots.now c.loop-spot.spot-index none c.loop-spot-test.true)
