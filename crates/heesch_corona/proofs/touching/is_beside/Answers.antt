use Rattle.std.proofs.Common.{◌≡◌, length, take, sym, ◌∙◌, arith}
use Rattle.heesch_grid.specs.Cells.{has}
use Rattle.heesch_grid.specs.Corona.{cells_of}
use Rattle.heesch_corona.proofs.Members.{any_at, none_more, none_all}
use Rattle.heesch_corona.proofs.touching.is_beside.Goals as goal

pub returns-then-is_covered : goal.returns-then-is_covered
returns-then-is_covered g c =
    let met = g.met.G.Grid in
    let xs = g.G.Grid.geometry.touching c.args.c in
    let long : c.TOUCHING-i-end.result ≡ length xs = c.TOUCHING-i-end.ensures ∙ met.sizes.touching_is ∙ sym ((met.laws.touching_listed c.args.c c.requires.cell).1) in
    sym (any_at (has (cells_of (take c.args.most c.args.index.now))) xs c.loop-i.i c.touching.result (omega (arith, long, c.loop-i-test.true)) c.touching.ensures (sym c.is_covered.ensures ∙ c.if-is_covered.true))

pub loop-i-preserved : goal.loop-i-preserved
loop-i-preserved g c =
    let met = g.met.G.Grid in
    let xs = g.G.Grid.geometry.touching c.args.c in
    let long : c.TOUCHING-i-end.result ≡ length xs = c.TOUCHING-i-end.ensures ∙ met.sizes.touching_is ∙ sym ((met.laws.touching_listed c.args.c c.requires.cell).1) in
    none_more (has (cells_of (take c.args.most c.args.index.now))) xs c.loop-i.i c.touching.result (omega (arith, long, c.loop-i-test.true)) c.touching.ensures (sym c.is_covered.ensures ∙ c.if-is_covered.false) c.loop-i.invariant

pub returns : goal.returns
returns g c =
    let met = g.met.G.Grid in
    let xs = g.G.Grid.geometry.touching c.args.c in
    let long : c.TOUCHING-i-end.result ≡ length xs = c.TOUCHING-i-end.ensures ∙ met.sizes.touching_is ∙ sym ((met.laws.touching_listed c.args.c c.requires.cell).1) in
    sym (none_all (has (cells_of (take c.args.most c.args.index.now))) xs c.loop-i.i (omega (arith, long, c.loop-i-test.false, c.loop-i.auto.i-end)) c.loop-i.invariant)
