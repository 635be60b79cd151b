use Rattle.std.proofs.Common.{◌<◌, ◌∙◌, ℕ, sym, subst, ap, true≢false, arith, inl, inr}
use Rattle.std.proofs.lemmas.Bool.{cases_order}
use Rattle.heesch_tiling.specs.Counting.{spot}
use Rattle.heesch_tiling.specs.Search.{CoversTurned}
use Rattle.heesch_tiling.proofs.Searching.{first_shift, no_shift}
use Rattle.heesch_tiling.proofs.search.first_marked_shift.Goals as goal

pub returns-then-is_turned_cover-clause-found : goal.returns-then-is_turned_cover-clause-found
returns-then-is_turned_cover-clause-found g c =
    first_shift g.G.Grid.geometry c.args.cells.now c.args.triple c.requires.triple.is_triple.p_positive c.loop-k.k c.shift_at-v.result c.shift_at-v.ensures.is (subst (λ (n : ℕ). c.loop-k.k < n) c.shift_count-k-end.ensures c.loop-k-test.true) c.loop-k.invariant.none (c.is_turned_cover.ensures.covers.0 c.if-is_turned_cover.true)

pub loop-k-preserved : goal.loop-k-preserved
loop-k-preserved g c = record {
  same = c.is_turned_cover.ensures.same;
  none = λ j l covers. elim (cases_order j c.loop-k.k) [
    | inl e ↦ true≢false (sym (c.is_turned_cover.ensures.covers.1 (subst (CoversTurned g.G.Grid.geometry c.args.cells.now c.args.triple) (ap (spot c.args.triple.p) e ∙ sym c.shift_at-v.ensures.is) covers)) ∙ c.if-is_turned_cover.false)
    | inr o ↦ elim o [ inl less ↦ c.loop-k.invariant.none j less covers | inr more ↦ absurd (omega (arith, l, more)) ]
  ];
}

pub returns-clause-none : goal.returns-clause-none
returns-clause-none g c =
    no_shift g.G.Grid.geometry c.args.cells.now c.args.triple c.requires.triple.is_triple.p_positive c.loop-k.k (let count = c.shift_count-k-end.ensures in omega (arith, count, c.loop-k-test.false)) c.loop-k.invariant.none
