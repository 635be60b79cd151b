use Rattle.std.proofs.Common.{◌≡◌, ◌<◌, true, false, length, sym, ◌∙◌, arith}
use Rattle.heesch_grid.specs.Cells.{has}
use Rattle.heesch_shape.proofs.Touches.{found, none_more, none_all, item_at, touching_any}
use Rattle.heesch_shape.proofs.contact.touches_one.Given as given
use Rattle.heesch_shape.proofs.contact.touches_one.Goals as goal
use Rattle.heesch_shape.proofs.contact.touches_one.Goals.{After-TOUCHING-i-end}

-- the loop goes by the places of the cells that touch
long : (g : given.Over) (c : After-TOUCHING-i-end g) → c.TOUCHING-i-end.result ≡ length (g.G.Grid.geometry.touching c.args.c)
long g c = c.TOUCHING-i-end.ensures ∙ g.met.G.Grid.sizes.touching_is ∙ sym ((g.met.G.Grid.laws.touching_listed c.args.c c.requires.cell).1)

pub returns-then-contains : goal.returns-then-contains
returns-then-contains g c =
    let xs = g.G.Grid.geometry.touching c.args.c in
    let p = has c.args.others.now in
    let r = c.touching.result in
    let less : c.loop-i.i < length xs = omega (arith, long g (goal.at.returns-then-contains g c).After-TOUCHING-i-end, c.loop-i-test.true) in
    sym (found p xs c.loop-i.i r less (item_at p xs c.loop-i.i r true c.touching.ensures (sym c.contains.ensures ∙ c.if-contains.true))) ∙ touching_any g.G.Grid.geometry g.met.G.Grid.laws c.args.c c.requires.cell c.args.others.now

pub loop-i-preserved : goal.loop-i-preserved
loop-i-preserved g c =
    let xs = g.G.Grid.geometry.touching c.args.c in
    let p = has c.args.others.now in
    let less : c.loop-i.i < length xs = omega (arith, long g (goal.at.loop-i-preserved g c).After-TOUCHING-i-end, c.loop-i-test.true) in
    none_more p xs c.loop-i.i c.touching.result less (item_at p xs c.loop-i.i c.touching.result false c.touching.ensures (sym c.contains.ensures ∙ c.if-contains.false)) c.loop-i.invariant

pub returns : goal.returns
returns g c =
    let xs = g.G.Grid.geometry.touching c.args.c in
    let end : c.loop-i.i ≡ length xs = omega (arith, long g (goal.at.returns g c).After-TOUCHING-i-end, c.loop-i-test.false, c.loop-i.auto.i-end) in
    sym (none_all (has c.args.others.now) xs c.loop-i.i end c.loop-i.invariant) ∙ touching_any g.G.Grid.geometry g.met.G.Grid.laws c.args.c c.requires.cell c.args.others.now
