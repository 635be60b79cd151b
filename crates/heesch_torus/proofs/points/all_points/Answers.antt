use Rattle.heesch_torus.proofs.Masking.{all_bits}
use Rattle.heesch_torus.proofs.points.all_points.Goals as goal

pub returns : goal.returns
returns c = all_bits c.args.count c.requires.some c.requires.few
