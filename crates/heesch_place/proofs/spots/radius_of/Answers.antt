use Rattle.std.proofs.Common.{arith}
use Rattle.heesch_grid.specs.Cells.{origin}
use Rattle.heesch_grid.specs.Vectors.{IsWithin}
use Rattle.heesch_grid.proofs.Images.{wider}
use Rattle.heesch_place.specs.declared.spots.Spot.{Spot}
use Rattle.heesch_place.proofs.Gathering.{member_at, taken_kept, taken_whole}
use Rattle.heesch_place.proofs.spots.radius_of.Goals as goal

abbrev none : Spot
none = record { form = 0; first = origin }

pub loop-spot-preserved : goal.loop-spot-preserved
loop-spot-preserved c =
    let spots = c.args.spots.now in
    let i = c.loop-spot.spot-index in
    let less = c.loop-spot-test.true in
    let w = c.widened-radius in
    record {
      within = taken_kept (λ (s : Spot). IsWithin w.result s.first) spots i none less (λ s m. wider c.loop-spot.radius w.result s.first w.ensures.more (c.loop-spot.invariant.within s m)) w.ensures.within;
      bound = λ n near. w.ensures.bound n (c.loop-spot.invariant.bound n near) (near _ (member_at spots i none less));
    }

pub returns-clause-within : goal.returns-clause-within
returns-clause-within c =
    taken_whole (λ (s : Spot). IsWithin c.loop-spot.radius s.first) c.args.spots.now c.loop-spot.spot-index (omega (arith, c.loop-spot-test.false, c.loop-spot.auto.spot-index-end)) c.loop-spot.invariant.within
