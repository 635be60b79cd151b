use Rattle.std.proofs.Common.{◌∙◌, pos, sym, subst, arith}
use Rattle.heesch_grid.specs.declared.isometries.Iso.{Iso}
use Rattle.heesch_grid.specs.Geometry.{apply}
use Rattle.heesch_grid.specs.Vectors.{IsWithin}
use Rattle.heesch_shape.proofs.Best.{image_small}
use Rattle.heesch_shape.proofs.Sets.{images_hold}
use Rattle.heesch_place.proofs.Moving.{TurnedBelow, turned_none, turned_more}
use Rattle.heesch_place.proofs.images.all_turned.Goals as goal

pub image-requires-clause-within : goal.image-requires-clause-within
image-requires-clause-within g c =
    let geometry = g.G.Grid.geometry in
    let by : Iso = record { turn = c.loop-k.k; da = pos 0; db = pos 0 } in
    images_hold (IsWithin 1000000) (apply geometry by) c.args.shape.now (λ d h. image_small geometry g.met.G.Grid.laws c.loop-k.k d (omega (arith, c.loop-k-test.true, c.TURNS-k-end.ensures, g.met.G.Grid.sizes.turns_is)) (c.requires d h))

pub loop-k-init : goal.loop-k-init
loop-k-init g c = subst (TurnedBelow g.G.Grid.geometry c.args.shape.now 0) (sym c.new-all.ensures.items) (turned_none g.G.Grid.geometry c.args.shape.now)

pub loop-k-preserved : goal.loop-k-preserved
loop-k-preserved g c =
    turned_more g.G.Grid.geometry c.args.shape.now c.loop-k.k c.loop-k.all.items c.add.new.all.items c.image.result c.loop-k.invariant c.image.ensures.list c.in_ok-add.ensures

pub returns : goal.returns
returns g c =
    let i = c.loop-k.invariant in
    record {
      long = i.long ∙ omega (arith, c.loop-k-test.false, c.loop-k.auto.k-end, c.TURNS-k-end.ensures, g.met.G.Grid.sizes.turns_is);
      each = λ k less. i.each k (omega (arith, less, c.loop-k-test.false, c.TURNS-k-end.ensures, g.met.G.Grid.sizes.turns_is));
    }
