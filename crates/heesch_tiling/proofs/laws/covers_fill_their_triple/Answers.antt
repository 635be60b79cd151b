use Rattle.heesch_tiling.proofs.Areas.{fills}
use Rattle.heesch_tiling.proofs.laws.covers_fill_their_triple.Goals as goal

pub returns : goal.returns
returns c = λ g shape t places law form cover. fills g law shape form t cover.is_triple places cover.isometries cover
