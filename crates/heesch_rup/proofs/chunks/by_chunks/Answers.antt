use Rattle.std.proofs.Common.{◌≡◌, ℕ, ◌-◌, List, sym, ap, ◌∙◌, subst, arith}
use Rattle.std.specs.Int.{div_ceil}
use Rattle.std.specs.List.{AllZip, range_with_len}
use Rattle.rayon.specs.Numbers.{nat_range}
use Rattle.rayon.proofs.ToStd.{nat_range-All}
use Rattle.heesch_rup.proofs.Chunked.{chunk_begins}
use Rattle.heesch_rup.proofs.chunks.by_chunks.Goals as goal

pub collect-requires-clause-ready : goal.collect-requires-clause-ready
collect-requires-clause-ready g c =
    let ends = c.into_par_iter.ensures in
    let inside = nat_range-All (λ i. goal.F-pre g c.args.answer i) 0 c.div_ceil.result (λ i low high. c.requires.callable i (chunk_begins c.args.count c.div_ceil.result i c.div_ceil.ensures high)) in
    rw (c.with_min_len.ensures.base, c.map.ensures.base, c.map.ensures.f, ends.0, ends.1) (λ κs within k d lt. (inside k d lt, λ y p. tt))

pub returns : goal.returns
returns g c =
    let ends = c.into_par_iter.ensures in
    let chunks = c.div_ceil.result in
    let whole : chunks - 0 ≡ chunks = omega arith in
    let found = c.in_ok-found.ensures in
    let chain = rw (c.with_min_len.ensures.base, c.map.ensures.base, c.map.ensures.f) at found.1 in
    let numbers = chain.1 ∙ (λ i. nat_range (ends.0 i) (ends.1 i)) ∙ ap (range_with_len 0) (whole ∙ c.div_ceil.ensures) in
    subst (AllZip (goal.F-post g c.args.answer) (range_with_len 0 (div_ceil c.args.count 1024))) (sym found.2)
    (subst (λ (xs : List ℕ). AllZip (goal.F-post g c.args.answer) xs found.0) numbers chain.2)
