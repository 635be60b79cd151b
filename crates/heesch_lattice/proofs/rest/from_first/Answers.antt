use Rattle.heesch_lattice.proofs.Listing.{are_triples}
use Rattle.heesch_lattice.proofs.rest.from_first.Goals as goal

pub returns : goal.returns
returns c = are_triples c.args.area c.requires.some
