use Rattle.heesch_grid.proofs.FromDefinitions.{window_covers_shrink}
use Rattle.heesch_grid.proofs.laws.window_covers_shrink.Goals as goal

pub returns : goal.returns
returns c = window_covers_shrink
