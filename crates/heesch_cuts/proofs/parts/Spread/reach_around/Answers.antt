use Rattle.std.proofs.Common.{take, ◌∙◌}
use Rattle.heesch_cuts.specs.Parts.{IsReached}
use Rattle.heesch_cuts.proofs.Neighbours.{more_neighbours, all_neighbours}
use Rattle.heesch_cuts.proofs.Spreading.{went_further, reached_grows}
use Rattle.heesch_cuts.proofs.parts.Spread.reach_around.Goals as goal

pub loop-i-preserved : goal.loop-i-preserved
loop-i-preserved g c =
    let hole = c.args.hole.now in
    let new = c.reach.new.self in
    let e = c.in_ok-reach.ensures in (
      went_further hole c.args.self.now.reached.items c.args.self.now.todo.items c.loop-i.self.reached.items c.loop-i.self.todo.items new.reached.items new.todo.items c.loop-i.invariant.0 e.on,
      more_neighbours g.G.Grid.geometry g.met.G.Grid.laws c.args.c c.requires.cell c.ADJACENT-i-end.result (c.ADJACENT-i-end.ensures ∙ g.met.G.Grid.sizes.adjacent_is)
          (IsReached hole new.reached.items) c.loop-i.i c.adjacent.result c.loop-i-test.true c.adjacent.ensures (reached_grows hole c.loop-i.self.reached.items new.reached.items e.on.grows (take c.loop-i.i (g.G.Grid.geometry.adjacent c.args.c)) c.loop-i.invariant.1) e.there,
    )

pub returns-clause-around : goal.returns-clause-around
returns-clause-around g c =
    all_neighbours g.G.Grid.geometry g.met.G.Grid.laws c.args.c c.requires.cell c.ADJACENT-i-end.result (c.ADJACENT-i-end.ensures ∙ g.met.G.Grid.sizes.adjacent_is)
    (IsReached c.args.hole.now c.loop-i.self.reached.items) c.loop-i.i c.loop-i-test.false c.loop-i.invariant.1
