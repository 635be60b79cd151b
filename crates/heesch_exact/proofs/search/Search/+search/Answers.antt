use Rattle.std.proofs.Common.{◌+◌, ◌-◌, ◌≤◌, ◌++◌, ◌∷◌, [], refl, sym, ap, ◌∙◌, subst, drop, take, filter, get_or, vec_len, All, arith}
use Rattle.std.specs.List.{sum_by}
use Rattle.heesch_exact.specs.Covers.{without}
use Rattle.heesch_exact.specs.Branches.{AreCandidates, IsEnding, IsTried, is_apart}
use Rattle.std.proofs.lemmas.List.{length-drop}
use Rattle.heesch_exact.proofs.Nodes.{no_cover, no_cover_without}
use Rattle.heesch_exact.proofs.Partial.{through, some_way}
use Rattle.heesch_exact.proofs.Listing.{next_place}
use Rattle.heesch_exact.proofs.Steps.{candidate_here, is_part, none_from_counts, lacks_from_test, tried_without, spent_without, fewer, one_tried, rest, popped, ending_with, tried_with, spent_with, spent_covered, spent_all, taken, taken_end, taken_spent, all_tried}
use Rattle.heesch_exact.proofs.search.Search.+search.Goals as goal

pub cover-returns-then-self-eq0-clause-ending : goal.cover-returns-then-self-eq0-clause-ending
cover-returns-then-self-eq0-clause-ending t c =
    let some = some_way c.args.masks.now (drop c.args.from c.args.self.now.candidates.items) c.args.left in
    let none = c.if-self-eq0.true in
    (none, omega (arith, some, none))

pub cover-returns-in-None-clause-spent : goal.cover-returns-in-None-clause-spent
cover-returns-in-None-clause-spent t c =
    let some = some_way c.args.masks.now (drop c.args.from c.args.self.now.candidates.items) c.args.left in
    omega (arith, some)

pub cover-returns-in-None-clause-ending : goal.cover-returns-in-None-clause-ending
cover-returns-in-None-clause-ending t c =
    let masks = c.args.masks.now in
    let items = c.args.self.now.candidates.items in
    let from = c.args.from in
    let w = c.in-None.ensures in
    let none = none_from_counts masks items c.deref.result.now from c.of.result.one w.0 c.deref.ensures.value (c.of.ensures.one w.0) w.2 in
    (refl, no_cover_without masks c.args.left (drop from items) w.0 (λ i. (c.type_inv.masks i).fits) c.ranges.left.fits c.requires.candidates w.1 none)

pub cover_point-bounds-masks-number : goal.cover_point-bounds-masks-number
cover_point-bounds-masks-number t c =
    let at = candidate_here c.args.masks.now c.args.left c.args.self.now.candidates.items c.loop-k.self.candidates.items c.args.from c.loop-k.k c.index-number.result.now (λ i. (c.type_inv.masks i).fits) c.ranges.left.fits c.requires.candidates c.loop-k.invariant.candidates c.loop-k.auto.k (omega arith) c.index-number.ensures in
    (is_part c.args.masks.now c.args.left (drop c.args.from c.args.self.now.candidates.items) (c.loop-k.k - c.args.from) c.index-number.result.now at).0

pub cover_point-loop-k-preserved-then-mask-point-eq0 : goal.cover_point-loop-k-preserved-then-mask-point-eq0
cover_point-loop-k-preserved-then-mask-point-eq0 t c =
    let masks = c.args.masks.now in
    let point = c.args.point in
    let here = drop c.args.from c.args.self.now.candidates.items in
    let was = c.loop-k.invariant in
    let at = candidate_here c.args.masks.now c.args.left c.args.self.now.candidates.items c.loop-k.self.candidates.items c.args.from c.loop-k.k c.index-number.result.now (λ i. (c.type_inv.masks i).fits) c.ranges.left.fits c.requires.candidates c.loop-k.invariant.candidates c.loop-k.auto.k (omega arith) c.index-number.ensures in
    let lacks = lacks_from_test (get_or masks c.index-number.result.now 0) point c.if-mask-point-eq0.true in
    let next = next_place c.args.from c.loop-k.k c.loop-k.auto.k in
    record {
      candidates = was.candidates;
      chosen = was.chosen;
      tried = subst (λ n. All (IsTried masks c.args.left here point) (take n here)) next (tried_without masks c.args.left here (c.loop-k.k - c.args.from) c.index-number.result.now at point lacks was.tried);
      nodes = was.nodes;
      spent = subst (λ n. c.args.self.now.nodes ≤ c.loop-k.self.nodes + sum_by (through masks point here c.args.left) (take n here)) next
          (spent_without masks c.args.left here (c.loop-k.k - c.args.from) c.index-number.result.now at point lacks c.args.self.now.nodes c.loop-k.self.nodes was.spent);
    }

pub cover_point-cover-requires : goal.cover_point-cover-requires
cover_point-cover-requires t c =
    let at = candidate_here c.args.masks.now c.args.left c.args.self.now.candidates.items c.loop-k.self.candidates.items c.args.from c.loop-k.k c.index-number.result.now (λ i. (c.type_inv.masks i).fits) c.ranges.left.fits c.requires.candidates c.loop-k.invariant.candidates c.loop-k.auto.k (omega arith) c.index-number.ensures in
    let x = taken c.args.masks.now c.args.left c.args.point c.args.self.now.candidates.items c.loop-k.self.candidates.items c.push_apart.new.candidates.items c.args.from c.loop-k.k c.len-to.result c.index-number.result.now at c.if-mask-point-eq0.false c.loop-k.invariant.candidates c.in_ok-push_apart.ensures (omega arith) in
    let here = drop c.args.from c.args.self.now.candidates.items in
    let few = fewer c.args.masks.now c.args.left here (c.loop-k.k - c.args.from) c.index-number.result.now at c.args.point x.has in
    let one = one_tried c.args.masks.now c.args.left here (c.loop-k.k - c.args.from) c.index-number.result.now at c.args.point x.has in
    let part = rest c.args.masks.now c.args.left here (c.loop-k.k - c.args.from) c.index-number.result.now at c.args.point x.has in
    let longer = x.longer in
    let end = x.end in
    let shorter = length-drop c.args.from c.args.self.now.candidates.items in
    (omega (arith, longer, end, few, one, shorter), (omega (arith, longer, end), subst (AreCandidates c.args.masks.now (without c.args.left (get_or c.args.masks.now c.index-number.result.now 0))) (sym x.added) part))

pub cover_point-returns-in_default : goal.cover_point-returns-in_default
cover_point-returns-in_default t c =
    let was = c.loop-k.invariant in
    let at = candidate_here c.args.masks.now c.args.left c.args.self.now.candidates.items c.loop-k.self.candidates.items c.args.from c.loop-k.k c.index-number.result.now (λ i. (c.type_inv.masks i).fits) c.ranges.left.fits c.requires.candidates c.loop-k.invariant.candidates c.loop-k.auto.k (omega arith) c.index-number.ensures in
    let x = taken c.args.masks.now c.args.left c.args.point c.args.self.now.candidates.items c.loop-k.self.candidates.items c.push_apart.new.candidates.items c.args.from c.loop-k.k c.len-to.result c.index-number.result.now at c.if-mask-point-eq0.false c.loop-k.invariant.candidates c.in_ok-push_apart.ensures (omega arith) in
    let here = drop c.args.from c.args.self.now.candidates.items in
    let spent = taken_spent c.args.masks.now c.args.left c.args.point c.args.self.now.candidates.items c.push_apart.new.candidates.items c.args.from c.loop-k.k c.len-to.result c.index-number.result.now x c.loop-k.self.nodes c.cover.new.self.nodes c.in_ok-ending.ensures.spent in
    record {
      candidates = c.truncate.ensures.items ∙ ap (take c.len-to.result) c.in_ok-ending.ensures.candidates ∙ x.kept;
      ending = ending_with c.args.masks.now c.args.left here (c.loop-k.k - c.args.from) c.index-number.result.now at c.args.point x.has c.in_ok-ending.ending c.args.self.now.chosen.items c.cover.new.self.chosen.items c.args.self.now.nodes c.loop-k.self.nodes c.cover.new.self.nodes c.in_default.not-Failed was.spent
          (taken_end c.args.masks.now c.args.left c.args.point c.args.self.now.candidates.items c.push_apart.new.candidates.items c.args.from c.loop-k.k c.len-to.result c.index-number.result.now x c.args.self.now.chosen.items c.push.new.self.items c.cover.new.self.chosen.items c.loop-k.self.nodes c.cover.new.self.nodes c.in_ok-ending.ending (c.in_ok-push.ensures.items ∙ ap (λ xs. xs ++ (c.index-number.result.now ∷ [])) was.chosen) c.in_ok-ending.ensures.ending);
      nodes = omega (arith, c.in_ok-ending.ensures.nodes, was.nodes);
      spent = spent_covered c.args.masks.now c.args.left here (c.loop-k.k - c.args.from) c.index-number.result.now at c.args.point x.has c.args.self.now.nodes c.loop-k.self.nodes c.cover.new.self.nodes was.spent spent;
    }

pub cover_point-loop-k-preserved : goal.cover_point-loop-k-preserved
cover_point-loop-k-preserved t c =
    let masks = c.args.masks.now in
    let point = c.args.point in
    let here = drop c.args.from c.args.self.now.candidates.items in
    let was = c.loop-k.invariant in
    let at = candidate_here c.args.masks.now c.args.left c.args.self.now.candidates.items c.loop-k.self.candidates.items c.args.from c.loop-k.k c.index-number.result.now (λ i. (c.type_inv.masks i).fits) c.ranges.left.fits c.requires.candidates c.loop-k.invariant.candidates c.loop-k.auto.k (omega arith) c.index-number.ensures in
    let x = taken c.args.masks.now c.args.left c.args.point c.args.self.now.candidates.items c.loop-k.self.candidates.items c.push_apart.new.candidates.items c.args.from c.loop-k.k c.len-to.result c.index-number.result.now at c.if-mask-point-eq0.false c.loop-k.invariant.candidates c.in_ok-push_apart.ensures (omega arith) in
    let end = taken_end c.args.masks.now c.args.left c.args.point c.args.self.now.candidates.items c.push_apart.new.candidates.items c.args.from c.loop-k.k c.len-to.result c.index-number.result.now x c.args.self.now.chosen.items c.push.new.self.items c.cover.new.self.chosen.items c.loop-k.self.nodes c.cover.new.self.nodes c.in_ok-ending.ending (c.in_ok-push.ensures.items ∙ ap (λ xs. xs ++ (c.index-number.result.now ∷ [])) was.chosen) c.in_ok-ending.ensures.ending in
    let first = c.args.self.now.chosen.items in
    let failed = subst (IsEnding masks (without c.args.left (get_or masks c.index-number.result.now 0)) (filter (is_apart masks (get_or masks c.index-number.result.now 0)) here) (first ++ (c.index-number.result.now ∷ [])) c.cover.new.self.chosen.items c.loop-k.self.nodes c.cover.new.self.nodes) c.in-Failed.is end in
    let spent = taken_spent c.args.masks.now c.args.left c.args.point c.args.self.now.candidates.items c.push_apart.new.candidates.items c.args.from c.loop-k.k c.len-to.result c.index-number.result.now x c.loop-k.self.nodes c.cover.new.self.nodes c.in_ok-ending.ensures.spent in
    let next = next_place c.args.from c.loop-k.k c.loop-k.auto.k in
    record {
      candidates = c.truncate.ensures.items ∙ ap (take c.len-to.result) c.in_ok-ending.ensures.candidates ∙ x.kept;
      chosen = popped first c.cover.new.self.chosen.items c.pop.new.self.items c.index-number.result.now (vec_len c.cover.new.self.chosen) failed.0 (omega arith) c.pop.ensures.rest;
      tried = subst (λ n. All (IsTried masks c.args.left here point) (take n here)) next (tried_with masks c.args.left here (c.loop-k.k - c.args.from) c.index-number.result.now at point x.has failed.1 was.tried);
      nodes = omega (arith, c.in_ok-ending.ensures.nodes, was.nodes);
      spent = subst (λ n. c.args.self.now.nodes ≤ c.cover.new.self.nodes + sum_by (through masks point here c.args.left) (take n here)) next
          (spent_with masks c.args.left here (c.loop-k.k - c.args.from) c.index-number.result.now at point x.has c.args.self.now.nodes c.loop-k.self.nodes c.cover.new.self.nodes was.spent spent);
    }

pub cover_point-returns-clause-ending : goal.cover_point-returns-clause-ending
cover_point-returns-clause-ending t c =
    let here = drop c.args.from c.args.self.now.candidates.items in
    let all = all_tried c.args.self.now.candidates.items c.args.from c.loop-k.k (omega arith) in
    (c.loop-k.invariant.chosen, no_cover c.args.masks.now c.args.left here c.args.point (λ i. (c.type_inv.masks i).fits) c.ranges.left.fits c.requires.candidates c.requires.point (subst (All (IsTried c.args.masks.now c.args.left here c.args.point)) all c.loop-k.invariant.tried))

pub cover_point-returns-clause-spent : goal.cover_point-returns-clause-spent
cover_point-returns-clause-spent t c =
    let masks = c.args.masks.now in
    let here = drop c.args.from c.args.self.now.candidates.items in
    let all = all_tried c.args.self.now.candidates.items c.args.from c.loop-k.k (omega arith) in
    let tried = subst (λ xs. c.args.self.now.nodes ≤ c.loop-k.self.nodes + sum_by (through masks c.args.point here c.args.left) xs) all c.loop-k.invariant.spent in
    spent_all masks (λ i. (c.type_inv.masks i).fits) c.args.point here c.args.left c.ranges.left.fits c.args.self.now.nodes c.loop-k.self.nodes tried
