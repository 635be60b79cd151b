use Rattle.std.proofs.Common.{◌≤◌, ◌<◌, ◌-◌, All, length, take, drop, sym, ap, ◌∙◌, subst, arith}
use Rattle.std.specs.Prelude.{sum}
use Rattle.heesch_numbers.specs.Counts.{gaps, FallsIn}
use Rattle.heesch_numbers.proofs.Counting.{falls, sum-gaps, length-gaps}
use Rattle.heesch_numbers.proofs.prefix.Prefix.place.Goals as goal
use Rattle.heesch_numbers.proofs.prefix.Prefix.place.Goals.{After-count_to-part, After-start}

-- the part is within the counts
within : (c : After-count_to-part) → c.count_to-part.result ≤ length c.self.inside.ends.items
within c = subst (λ es. c.count_to-part.result ≤ length es) c.deref.ensures.value c.count_to-part.ensures.bound

-- where the place falls
fall : (c : After-start) → (c.start.result ≤ c.args.place) × FallsIn (gaps 0 c.self.inside.ends.items) c.args.place c.count_to-part.result (c.args.place - c.start.result)
fall c =
    let ends = c.self.inside.ends.items in
    let all = sum-gaps 0 ends c.self.inside.total c.self.invariant in
    let v = ap sum c.self.view_is in
    let r = c.requires in
    falls ends c.self.inside.total c.args.place c.count_to-part.result c.self.invariant (omega (arith, all, v, r)) (subst (λ es. c.count_to-part.result ≤ length es) c.deref.ensures.value c.count_to-part.ensures.bound)
    (subst (λ es. All (λ m. m ≤ c.args.place) (take c.count_to-part.result es)) c.deref.ensures.value c.count_to-part.ensures.below)
    (subst (λ es. All (λ m. c.args.place < m) (drop c.count_to-part.result es)) c.deref.ensures.value c.count_to-part.ensures.above)
    c.start.result (c.start.ensures ∙ ap (λ g. sum (take c.count_to-part.result g)) (sym c.self.view_is))

pub start-requires : goal.start-requires
start-requires c =
    let l = within (goal.at.start-requires c).After-count_to-part in
    let v = ap length c.self.view_is in
    let long = length-gaps 0 c.self.inside.ends.items in
    omega (arith, l, v, long)

pub overflow_sub-result : goal.overflow_sub-result
overflow_sub-result c = let f = (fall (goal.at.overflow_sub-result c).After-start).0 in omega (arith, f)

pub returns : goal.returns
returns c = subst (λ g. FallsIn g c.args.place c.count_to-part.result (c.args.place - c.start.result)) c.self.view_is (fall (goal.at.returns c).After-start).1
