use Rattle.std.proofs.Common.{◌≡◌, ◌+◌, ◌%◌, ◌==◌, suc, sym, ap, ◌∙◌, true≢false, arith, inl, inr, eqb-true}
use Rattle.std.proofs.lemmas.Bool.{cases_Bool, cases_lt}
use Rattle.heesch_lattice.specs.Listed.{triples_from}
use Rattle.heesch_lattice.proofs.Listing.{step_undivided, step_ended}
use Rattle.heesch_lattice.proofs.rest.settled.Goals as goal

pub loop-column-preserved : goal.loop-column-preserved
loop-column-preserved c =
    let area = c.args.area in
    let p = c.loop-column.column in
    let s = c.loop-column.shift in
    let low = c.loop-column-test.true in
    let more : c.loop-column.column + 1 ≡ suc c.loop-column.column = omega arith in
    let step : triples_from area p s ≡ triples_from area (suc p) 0 =
    elim (cases_Bool (area % p == 0)) [
      | inr f ↦ step_undivided area p s c.requires.some low f
      | inl t ↦ elim (cases_lt s p) [
        | inl l ↦ absurd (true≢false (sym (c.is_of_area.ensures.1 (eqb-true (area % p) 0 t, l)) ∙ c.if-not-is_of_area.true))
        | inr m ↦ step_ended area p s c.requires.some low t m
      ]
    ]
    in
    record {
      positive = omega arith;
      below = omega (arith, low);
      rest = ap (λ k. triples_from area k 0) more ∙ sym step ∙ c.loop-column.invariant.rest;
    }
