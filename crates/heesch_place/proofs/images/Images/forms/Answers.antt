use Rattle.std.proofs.Common.{◌≡◌, ◌<◌, [], get_or, take, sym, ap, subst, ◌∙◌, arith}
use Rattle.std.proofs.Math.Seq.{take-length}
use Rattle.heesch_grid.specs.Cells.{has}
use Rattle.heesch_place.specs.Found.{IsMoved}
use Rattle.heesch_place.proofs.Gathering.{any_default}
use Rattle.heesch_place.proofs.Moving.{AreSettled, turned_near, settled_none, settled_more, forms}
use Rattle.heesch_place.proofs.images.Images.forms.Goals as goal

pub settled-requires : goal.settled-requires
settled-requires g c d h =
    let turned = c.turned-tile-items.result.now in
    let i = c.loop-tile.tile-index in
    let item = c.tile-item.result in
    let is : item ≡ get_or turned i [] = c.tile-item.is ∙ any_default turned i item [] c.loop-tile-test.true in
    let less : i < g.G.Grid.geometry.turns = omega (arith, c.loop-tile-test.true, c.turned-tile-items.ensures.long) in
    turned_near g.G.Grid.geometry g.met.G.Grid.laws c.args.self.now (get_or turned i []) i less c.requires (c.turned-tile-items.ensures.each i less) d (ap (λ t. has t d) (sym is) ∙ h)

pub loop-tile-init : goal.loop-tile-init
loop-tile-init g c = subst (AreSettled g.G.Grid.geometry []) (sym c.new-all.ensures.items) (settled_none g.G.Grid.geometry c.turned-tile-items.result.now)

pub loop-tile-preserved : goal.loop-tile-preserved
loop-tile-preserved g c =
    let turned = c.turned-tile-items.result.now in
    let i = c.loop-tile.tile-index in
    let item = c.tile-item.result in
    let is : item ≡ get_or turned i [] = c.tile-item.is ∙ any_default turned i item [] c.loop-tile-test.true in
    settled_more g.G.Grid.geometry turned i c.loop-tile.all.items c.add.new.all.items c.settled.result c.loop-tile-test.true c.loop-tile.invariant (subst (λ t. IsMoved g.G.Grid.geometry t c.settled.result) is c.settled.ensures.moved) c.settled.ensures.near c.settled.ensures.begins c.in_ok-add.ensures

pub returns : goal.returns
returns g c =
    let turned = c.turned-tile-items.result.now in
    let all : take c.loop-tile.tile-index turned ≡ turned = ap (λ n. take n turned) (omega (arith, c.loop-tile-test.false, c.loop-tile.auto.tile-index-end)) ∙ take-length turned in
    forms g.G.Grid.geometry turned g.met.G.Grid.laws c.args.self.now c.loop-tile.all.items c.listed_tiles.result.items c.listed_tiles.ensures.few c.turned-tile-items.ensures (subst (λ ts. AreSettled g.G.Grid.geometry ts c.loop-tile.all.items) all c.loop-tile.invariant) c.listed_tiles.ensures.listed
