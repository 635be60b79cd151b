use Rattle.std.proofs.Common.{ℕ, refl, sym, subst, [], arith}
use Rattle.std.proofs.lemmas.List.Sorted.{IsNonDecreasingBy-from_sort}
use Rattle.heesch_exact.specs.Branches.{IsEnding}
use Rattle.heesch_exact.specs.Covers.{IsAnswer, IsExactCover}
use Rattle.heesch_exact.proofs.Steps.{ending_inside}
use Rattle.heesch_exact.proofs.Whole.{is_exact_cover, not_covered, all_ways, ways_spent, power_spent}
use Rattle.heesch_exact.proofs.exact_cover.Goals as goal
use Rattle.heesch_exact.proofs.exact_cover.Goals.{in-Covered, in-Failed, in-Open}

pub returns-clause-answer : goal.returns-clause-answer
returns-clause-answer c =
    let masks = c.args.masks.now in
    let points = c.args.points in
    let nodes = c.args.nodes.now in
    let left = c.cover.new.self.nodes in
    let candidates = c.in_ok-within.field-0.items in
    let chosen = c.cover.new.self.chosen.items in
    let small = λ (i : ℕ). (c.type_inv.masks i).fits in
    let fits = c.ranges.points.fits in
    let ending = ending_inside masks points candidates candidates c.new.result.items [] chosen nodes left c.in_ok-ending.ending refl c.new.ensures.items c.in_ok-ending.ensures.ending in
    elim c.match-ending.branch [
      | in-Covered w ↦
          let sorted = w.sort_unstable.new.self.items in
          let added = subst (IsEnding masks points candidates [] chosen nodes left) w.in-Covered.is ending in
          let order = IsNonDecreasingBy-from_sort (λ (x : ℕ). x) sorted w.sort_unstable.ensures.sorted in
          let cover = is_exact_cover masks points small fits chosen sorted added w.sort_unstable.ensures.permutation order in
          subst (IsAnswer masks points nodes left) (sym w.result-is) (subst (IsExactCover masks points) (sym w.from_vec.ensures) cover)
      | in-Failed w ↦
          let failed = subst (IsEnding masks points candidates [] chosen nodes left) w.in-Failed.is ending in
          subst (IsAnswer masks points nodes left) (sym w.result-is) (λ sets cover. not_covered masks points small fits sets cover candidates c.in_ok-within.ensures.all failed.1)
      | in-Open w ↦
          let open_ = subst (IsEnding masks points candidates [] chosen nodes left) w.in-Open.is ending in
          let all = all_ways masks points candidates c.in_ok-within.ensures.sets in
          let few = open_.1 in
          subst (IsAnswer masks points nodes left) (sym w.result-is) (open_.0, omega (arith, all, few))
    ]

pub returns-clause-spent : goal.returns-clause-spent
returns-clause-spent c =
    ways_spent c.args.masks.now c.args.points c.in_ok-within.field-0.items c.in_ok-within.ensures.sets c.args.nodes.now c.cover.new.self.nodes c.in_ok-ending.ensures.spent

pub returns-clause-few : goal.returns-clause-few
returns-clause-few c =
    power_spent c.args.masks.now c.args.points c.args.nodes.now c.cover.new.self.nodes (ways_spent c.args.masks.now c.args.points c.in_ok-within.field-0.items c.in_ok-within.ensures.sets c.args.nodes.now c.cover.new.self.nodes c.in_ok-ending.ensures.spent)
