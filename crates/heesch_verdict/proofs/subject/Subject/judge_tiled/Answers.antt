use Rattle.heesch_verdict.proofs.Entries.{tiled_judged}
use Rattle.heesch_verdict.proofs.subject.Subject.judge_tiled.Goals as goal

pub returns : goal.returns
returns g c =
    let self = c.args.self.now in
    tiled_judged g.G.Grid.geometry self.limits self.shape.now c.requires.shape c.args.tiled.kind c.args.tiled.tiling c.len.result c.in_ok-classes.classes c.len.ensures c.requires.tiled c.in_ok-classes.ensures
