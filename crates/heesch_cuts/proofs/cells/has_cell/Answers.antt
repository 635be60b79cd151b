use Rattle.std.proofs.Common.{◌∙◌}
use Rattle.heesch_cuts.proofs.Rising.{has_by_place}
use Rattle.heesch_cuts.proofs.cells.has_cell.Goals as goal

pub returns : goal.returns
returns c = c.is_some.ensures ∙ has_by_place c.args.cells.now c.args.c c.place_of.result c.place_of.ensures.found c.place_of.ensures.none
