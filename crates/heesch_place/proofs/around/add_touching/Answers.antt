use Rattle.std.proofs.Common.{◌≡◌, length, sym, ◌∙◌, arith}
use Rattle.std.proofs.lemmas.List.Elements.{All-contains}
use Rattle.heesch_grid.specs.Geometry.{Touching}
use Rattle.heesch_place.proofs.Gathering.{taken_more, taken_all}
use Rattle.heesch_place.proofs.around.add_touching.Goals as goal

pub loop-i-preserved : goal.loop-i-preserved
loop-i-preserved g c =
    let met = g.met.G.Grid in
    let ys = g.G.Grid.geometry.touching c.args.c in
    let long : c.TOUCHING-i-end.result ≡ length ys = c.TOUCHING-i-end.ensures ∙ met.sizes.touching_is ∙ sym ((met.laws.touching_listed c.args.c c.requires.cell).1) in
    taken_more ys c.loop-i.i c.touching.result c.args.all.now.items c.loop-i.all.items c.add.new.all.items (omega (arith, long, c.loop-i-test.true)) c.touching.ensures c.loop-i.invariant c.in_ok-add.ensures

pub returns : goal.returns
returns g c =
    let met = g.met.G.Grid in
    let ys = g.G.Grid.geometry.touching c.args.c in
    let l = met.laws.touching_listed c.args.c c.requires.cell in
    let long : c.TOUCHING-i-end.result ≡ length ys = c.TOUCHING-i-end.ensures ∙ met.sizes.touching_is ∙ sym l.1 in
    taken_all (Touching g.G.Grid.geometry c.args.c) ys c.loop-i.i c.args.all.now.items c.loop-i.all.items (omega (arith, long, c.loop-i-test.false, c.loop-i.auto.i-end)) l.0.every (λ x m. All-contains (Touching g.G.Grid.geometry c.args.c) ys x l.0.only m) c.loop-i.invariant
