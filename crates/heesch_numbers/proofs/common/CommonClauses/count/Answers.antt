use Rattle.std.proofs.Common.{length, ap, arith}
use Rattle.heesch_place.specs.Universes.{Levels}
use Rattle.heesch_numbers.specs.Common.{common_of}
use Rattle.heesch_numbers.proofs.Answering.{all_long}
use Rattle.heesch_numbers.proofs.common.CommonClauses.count.Goals as goal

pub overflow_sub-supports : goal.overflow_sub-supports
overflow_sub-supports g c = let t = c.self.invariant.lowest_within in omega (arith, t, c.count.ensures.count)

pub returns : goal.returns
returns g c = λ around gives.
    let t = c.self.invariant in
    let a = all_long g.G.Grid.geometry around c.self.inside.universe c.self.inside.first.items (t.first_is around gives) c.self.inside.covering (t.counts_are around gives) c.self.inside.lowest t.lowest_within t.low t.high in
    let v = ap (λ (w : Levels). length (common_of g.G.Grid.geometry around w)) c.self.view_is in
    omega (arith, a, v, c.count.ensures.count, c.total.ensures, c.len.ensures)
