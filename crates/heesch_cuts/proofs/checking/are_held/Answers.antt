use Rattle.std.proofs.Common.{sym, ◌∙◌}
use Rattle.heesch_cuts.specs.Enclosing.{is_held}
use Rattle.heesch_cuts.proofs.Neighbours.{one_neighbour, no_neighbour}
use Rattle.heesch_cuts.proofs.Conditions.{all_less, all_more, all_at_end}
use Rattle.heesch_cuts.proofs.checking.are_held.Goals as goal

pub returns-then-not-is_held : goal.returns-then-not-is_held
returns-then-not-is_held g c =
    let less = one_neighbour g.G.Grid.geometry g.met.G.Grid.laws c.args.c c.requires.cell c.ADJACENT-i-end.result (c.ADJACENT-i-end.ensures ∙ g.met.G.Grid.sizes.adjacent_is) c.loop-i.i c.loop-i-test.true in
    all_less (is_held c.args.shape.now c.args.universe.now.vars c.args.level c.args.hole.now c.args.marks.now) (g.G.Grid.geometry.adjacent c.args.c) c.loop-i.i c.adjacent.result less c.adjacent.ensures (sym c.is_held.ensures ∙ c.if-not-is_held.true)

pub loop-i-preserved : goal.loop-i-preserved
loop-i-preserved g c =
    let less = one_neighbour g.G.Grid.geometry g.met.G.Grid.laws c.args.c c.requires.cell c.ADJACENT-i-end.result (c.ADJACENT-i-end.ensures ∙ g.met.G.Grid.sizes.adjacent_is) c.loop-i.i c.loop-i-test.true in
    all_more (is_held c.args.shape.now c.args.universe.now.vars c.args.level c.args.hole.now c.args.marks.now) (g.G.Grid.geometry.adjacent c.args.c) c.loop-i.i c.adjacent.result less c.adjacent.ensures (sym c.is_held.ensures ∙ c.if-not-is_held.false) c.loop-i.invariant

pub returns : goal.returns
returns g c =
    let all = no_neighbour g.G.Grid.geometry g.met.G.Grid.laws c.args.c c.requires.cell c.ADJACENT-i-end.result (c.ADJACENT-i-end.ensures ∙ g.met.G.Grid.sizes.adjacent_is) c.loop-i.i c.loop-i-test.false in
    all_at_end (is_held c.args.shape.now c.args.universe.now.vars c.args.level c.args.hole.now c.args.marks.now) (g.G.Grid.geometry.adjacent c.args.c) c.loop-i.i all c.loop-i.invariant
