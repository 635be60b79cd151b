use Rattle.std.proofs.Common.{◌≡◌, ◌<◌, ◌∙◌, sym, ap, subst, ℕ, ◌+◌, get_or, slice_index, map, filter, take, eq-eqb, w64}
use Rattle.std.specs.Int.{bit_not}
use lib.Bits.{bit_and}
use Rattle.std.specs.List.{Contains}
use Rattle.heesch_exact.specs.Covers.{is_within}
use Rattle.heesch_exact.specs.Branches.{AreCandidates, IsPart}
use Rattle.heesch_exact.proofs.Bits.{part_from_none}
use Rattle.heesch_exact.proofs.Nodes.{one_more_candidate, all_more_yes, all_more_no, one_more_set, no_more_set}
use Rattle.heesch_exact.proofs.candidates.within.Goals as goal
use Rattle.heesch_exact.proofs.candidates.within.Goals.{then-mask-points-eq0+in_ok-push, else-mask-points-eq0}

pub loop-i-preserved : goal.loop-i-preserved
loop-i-preserved c =
    let masks = c.args.masks.now in
    let points = c.args.points in
    let i = c.loop-i.i in
    let old = c.loop-i.numbers.items in
    let was = c.loop-i.invariant in
    let small = (c.type_inv.masks i).fits in
    let fits = c.ranges.points.fits in
    elim c.if-mask-points-eq0.branch [
      | then-mask-points-eq0+in_ok-push w ↦
          let is = sym (ap (λ v. v.items) w.numbers-is ∙ w.in_ok-push.ensures.items) in
          let part = part_from_none (get_or masks i 0) points small fits w.if-mask-points-eq0.true in
          record {
            candidates = subst (AreCandidates masks points) is (one_more_candidate masks points old i was.candidates c.loop-i-test.true part);
            all = subst (λ xs. (j : ℕ) → j < i + 1 → IsPart (slice_index masks j) points → Contains xs j) is (all_more_yes masks points old i was.all);
            sets = subst (λ xs. map (λ j. slice_index masks j) xs ≡ filter (is_within points) (take (i + 1) masks)) is (one_more_set masks points old i c.loop-i-test.true (eq-eqb (bit_and (get_or masks i 0) (bit_not w64 points)) 0 w.if-mask-points-eq0.true) was.sets);
          }
      | else-mask-points-eq0 w ↦
          let is = sym (ap (λ v. v.items) w.numbers-is) in
          record {
            candidates = subst (AreCandidates masks points) is was.candidates;
            all = subst (λ xs. (j : ℕ) → j < i + 1 → IsPart (slice_index masks j) points → Contains xs j) is (all_more_no masks points old i small fits w.if-mask-points-eq0.false was.all);
            sets = subst (λ xs. map (λ j. slice_index masks j) xs ≡ filter (is_within points) (take (i + 1) masks)) is (no_more_set masks points old i c.loop-i-test.true w.if-mask-points-eq0.false was.sets);
          }
    ]
