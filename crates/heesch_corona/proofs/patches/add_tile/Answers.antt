use Rattle.heesch_corona.proofs.Added.{image_near}
use Rattle.heesch_corona.proofs.patches.add_tile.Goals as goal

pub image-requires-clause-within : goal.image-requires-clause-within
image-requires-clause-within g c = image_near g.G.Grid.geometry g.met.G.Grid.laws c.args.shape.now c.args.by c.requires.near c.requires.by
