use Rattle.std.proofs.Common.{refl, subst, arith}
use Rattle.heesch_grid.specs.Names.{geometry_of}
use Rattle.heesch_check.specs.Catalogues.{IsInPlace}
use Rattle.heesch_check.proofs.Audits.{placed_on}
use Rattle.heesch_check.proofs.judging.Judge.placed.Goals as goal

pub loop-item-preserved : goal.loop-item-preserved
loop-item-preserved g c =
    let header = c.args.self.now.header in
    record {
      count = omega (arith, c.loop-item.invariant.count);
      placed = placed_on header c.args.before c.loop-item.entries c.loop-item.item-index c.args.items.now c.item-item.result c.in-Entry.line c.in-Entry.entry c.loop-item.invariant.placed c.loop-item.invariant.count c.loop-item-test.true c.item-item.is c.in-Entry.is
          (subst (IsInPlace (geometry_of header.grid) header.subject c.loop-item.entries) c.as_slice.ensures (c.if-not-is_in_place.ensures.place.0 refl));
    }
