use Rattle.std.proofs.Common.{◌∙◌}
use Rattle.heesch_lattice.proofs.Vectors.{turned_moved}
use Rattle.heesch_lattice.proofs.turned.turned_end.Goals as goal

pub returns : goal.returns
returns g c = c.apply.ensures ∙ turned_moved g.G.Grid.geometry g.met.G.Grid.laws c.args.k c.requires.turn c.args.v c.turn-moved.result c.requires.near c.turn-moved.ensures
