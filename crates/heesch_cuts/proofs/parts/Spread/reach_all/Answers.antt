use Rattle.heesch_cuts.proofs.Spreading.{spread_on}
use Rattle.heesch_cuts.proofs.parts.Spread.reach_all.Goals as goal

pub loop-at-preserved : goal.loop-at-preserved
loop-at-preserved g c =
    let new = c.reach_around.new.self in
    let e = c.in_ok-reach_around.ensures in
    spread_on g.G.Grid.geometry g.met.G.Grid.laws c.args.hole.now c.loop-at.self.reached.items c.loop-at.self.todo.items c.pop.new.self.items c.in-Some.at new.reached.items new.todo.items c.loop-at.invariant c.in-Some.ensures.items c.requires.cells e.on e.around
