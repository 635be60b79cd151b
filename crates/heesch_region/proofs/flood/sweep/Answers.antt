use Rattle.std.proofs.Common.{◌≡◌, ◌+◌, ◌*◌, ◌-◌, ◌<◌, ◌≤◌, ℕ, List, subst, arith}
use Rattle.heesch_region.specs.Windows.{is_marked}
use Rattle.heesch_region.specs.Floods.{IsSettled, counted}
use Rattle.heesch_region.proofs.Rows.{fewer_then, same_then, settled_then}
use Rattle.heesch_region.proofs.Strips.{narrowed_then, counted_below, counted_twice, strips_inside}
use Rattle.heesch_region.proofs.flood.sweep.Goals as goal

pub loop-number-preserved : goal.loop-number-preserved
loop-number-preserved g c =
    let geometry = g.G.Grid.geometry in
    let w = c.args.window in
    let was = c.loop-number.invariant in
    let step = c.narrow_strip-cleared.ensures in
    let count : ℕ = (w.tall - 8) * w.unit in
    let settled : List ℕ → ℕ → Type 0 = λ ws n. IsSettled geometry w (is_marked w c.args.taken.now) (is_marked w ws) (4 * w.unit + n) in
    record {
      narrowed = narrowed_then was.narrowed step.narrowed;
      fewer = fewer_then c.loop-number.cleared c.narrow_strip-cleared.result was.fewer was.same step.fewer step.same;
      same = same_then c.loop-number.cleared c.narrow_strip-cleared.result was.same step.same;
      settled = settled_then c.loop-number.cleared c.narrow_strip-cleared.result (λ ws k. settled ws (counted c.args.upward count k)) c.loop-number.number was.same was.settled (λ still. subst (settled c.loop-number.kept) c.counted.ensures (step.settled still));
    }

pub returns-clause-settled : goal.returns-clause-settled
returns-clause-settled g c e n from to =
    let geometry = g.G.Grid.geometry in
    let w = c.args.window in
    let up = c.args.upward in
    let count : ℕ = (w.tall - 8) * w.unit in
    let k : ℕ = n - 4 * w.unit in
    let less : k < count = strips_inside n w.unit w.tall w.rows from to in
    let at = counted_below up count k less in
    let is : 4 * w.unit + counted up count (counted up count k) ≡ n = let t = counted_twice up count k less in whole (counted up count (counted up count k)) n w.unit t from in
    subst (IsSettled geometry w (is_marked w c.args.taken.now) (is_marked w c.args.kept.now)) is
    (c.loop-number.invariant.settled e (counted up count k) (let end = c.loop-number-test.false in omega (arith, at, end)))
  where
    whole : (z n u : ℕ) → z ≡ n - 4 * u → 4 * u ≤ n → 4 * u + z ≡ n
    whole z n u e l = omega (arith, e, l)
