use Rattle.std.proofs.Common.{◌≡◌, ◌+◌, ◌-◌, reverse, subst, arith}
use Rattle.heesch_cdcl.specs.Resolved.{IsResolving}
use Rattle.heesch_cdcl.proofs.Resolving.{place_left}
use Rattle.heesch_cdcl.proofs.analysis.Resolution.resolve.Goals as goal

pub overflow_sub-place : goal.overflow_sub-place
overflow_sub-place c =
    let m = c.loop-place.self.marks in
    place_left c.conflict.inside.trail.now c.loop-place.place m (reverse c.loop-place.self.hints.items) c.loop-place.invariant.resolving (omega arith)

pub resolve_at-requires-clause-resolving : goal.resolve_at-requires-clause-resolving
resolve_at-requires-clause-resolving c =
    let m = c.loop-place.self.marks in
    let left = place_left c.conflict.inside.trail.now c.loop-place.place m (reverse c.loop-place.self.hints.items) c.loop-place.invariant.resolving (omega arith) in
    let same : c.loop-place.place ≡ c.loop-place.place - 1 + 1 = omega (arith, left) in
    subst (λ p. IsResolving c.conflict.inside.trail.now p m (reverse c.loop-place.self.hints.items)) same c.loop-place.invariant.resolving

pub loop-place-smaller : goal.loop-place-smaller
loop-place-smaller c =
    let m = c.loop-place.self.marks in
    let left = place_left c.conflict.inside.trail.now c.loop-place.place m (reverse c.loop-place.self.hints.items) c.loop-place.invariant.resolving (omega arith) in
    omega (arith, left)
