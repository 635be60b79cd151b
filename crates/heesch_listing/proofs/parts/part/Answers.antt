use Rattle.heesch_listing.proofs.Covering.{cut_part}
use Rattle.heesch_listing.proofs.parts.part.Goals as goal

pub returns : goal.returns
returns g c =
    cut_part c.args.parents.now c.args.number c.min-start.result c.min.result c.min-start.ensures c.min.ensures
