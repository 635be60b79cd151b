use Rattle.std.proofs.Common.{Vec, Global, ◌≡◌, ◌++◌, List, filter, not, take, ap, ◌∙◌, subst, arith}
use Rattle.std.proofs.lemmas.List.{take_all}
use Rattle.heesch_grid.specs.declared.Cell.{Cell}
use Rattle.heesch_grid.specs.Cells.{has}
use Rattle.heesch_encode.proofs.Rising.{filter_keeps, filter_skips}
use Rattle.heesch_encode.proofs.ClauseLists.{some_below}
use Rattle.heesch_encode.proofs.Rings.{place_read}
use Rattle.heesch_encode.proofs.ring.add_touching.Goals as goal
use Rattle.heesch_encode.proofs.ring.add_touching.Goals.{then-not-has+in_ok-add, else-not-has}

pub loop-i-preserved : goal.loop-i-preserved
loop-i-preserved g c =
    let xs : List Cell = g.G.Grid.geometry.touching c.args.c in
    let i = c.loop-i.i in
    let near : Cell = c.touching-near.result in
    elim c.if-not-has.branch [
      | then-not-has+in_ok-add w ↦
          ap (λ (v : Vec Cell Global). v.items) w.ring-is ∙ w.in_ok-add.ensures
          ∙ filter_keeps (λ d. not (has c.args.tile.now d)) c.args.ring.now.items c.loop-i.ring.items xs i near (some_below xs i near c.touching-near.ensures) (place_read xs i near c.touching-near.ensures) (cc (c.has.ensures, w.if-not-has.true)) c.loop-i.invariant
      | else-not-has w ↦
          ap (λ (v : Vec Cell Global). v.items) w.ring-is
          ∙ filter_skips (λ d. not (has c.args.tile.now d)) c.args.ring.now.items c.loop-i.ring.items xs i near (some_below xs i near c.touching-near.ensures) (place_read xs i near c.touching-near.ensures) (cc (c.has.ensures, w.if-not-has.false)) c.loop-i.invariant
    ]

pub returns : goal.returns
returns g c =
    let met = g.met.G.Grid in
    let xs : List Cell = g.G.Grid.geometry.touching c.args.c in
    let long = (met.laws.touching_listed c.args.c c.requires.cell).1 in
    let all : take c.loop-i.i xs ≡ xs = take_all c.loop-i.i xs (omega (arith, long, c.loop-i-test.false, c.TOUCHING-i-end.ensures, met.sizes.touching_is)) in
    subst (λ zs. c.loop-i.ring.items ≡ c.args.ring.now.items ++ filter (λ d. not (has c.args.tile.now d)) zs) all c.loop-i.invariant
