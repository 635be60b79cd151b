use Rattle.std.proofs.Common.{◌≡◌, length, sym, ◌∙◌, arith}
use Rattle.heesch_shape.proofs.Reached.{met_at, unmet_more, unmet_all}
use Rattle.heesch_shape.proofs.reach.are_adjacent.Goals as goal

pub returns-then-eq : goal.returns-then-eq
returns-then-eq g c =
    let met = g.met.G.Grid in
    let xs = g.G.Grid.geometry.adjacent c.args.c in
    let long : c.ADJACENT-i-end.result ≡ length xs = c.ADJACENT-i-end.ensures ∙ met.sizes.adjacent_is ∙ sym ((met.laws.adjacent_listed c.args.c c.requires.cell).1) in
    met_at xs c.loop-i.i c.adjacent.result c.args.d (omega (arith, long, c.loop-i-test.true)) c.adjacent.ensures (sym c.eq.ensures ∙ c.if-eq.true)

pub loop-i-preserved : goal.loop-i-preserved
loop-i-preserved g c =
    let met = g.met.G.Grid in
    let xs = g.G.Grid.geometry.adjacent c.args.c in
    let long : c.ADJACENT-i-end.result ≡ length xs = c.ADJACENT-i-end.ensures ∙ met.sizes.adjacent_is ∙ sym ((met.laws.adjacent_listed c.args.c c.requires.cell).1) in
    unmet_more xs c.loop-i.i c.adjacent.result c.args.d (omega (arith, long, c.loop-i-test.true)) c.adjacent.ensures (sym c.eq.ensures ∙ c.if-eq.false) c.loop-i.invariant

pub returns : goal.returns
returns g c =
    let met = g.met.G.Grid in
    let xs = g.G.Grid.geometry.adjacent c.args.c in
    let long : c.ADJACENT-i-end.result ≡ length xs = c.ADJACENT-i-end.ensures ∙ met.sizes.adjacent_is ∙ sym ((met.laws.adjacent_listed c.args.c c.requires.cell).1) in
    unmet_all xs c.loop-i.i c.args.d (omega (arith, long, c.loop-i-test.false, c.loop-i.auto.i-end)) c.loop-i.invariant
