use Rattle.std.proofs.Common.{subst}
use Rattle.heesch_torus.specs.Answer.{IsTorusAnswer}
use Rattle.heesch_verdict.proofs.Firsts.{found_cover}
use Rattle.heesch_verdict.proofs.subject.Subject.settle.Goals as goal

pub returns-in-Tiles : goal.returns-in-Tiles
returns-in-Tiles g c =
    let geometry = g.G.Grid.geometry in
    let shape = c.args.self.now.shape.now in
    found_cover geometry g.met.G.Grid.laws shape c.requires.shape c.args.triple c.requires.domain c.in-Tiles.tiling (subst (IsTorusAnswer geometry shape c.args.triple c.args.self.now.limits.turns) c.in-Tiles.is c.in_ok-tiling.ensures)
