use Rattle.std.proofs.Common.{◌≡◌, ◌+◌, ◌<◌, ℕ, true, false, take, length, inl, inr, subst, sym, arith}
use Rattle.std.specs.Prelude.{nat_lt, slice_index, MatchOption}
use Rattle.std.proofs.lemmas.Bool.{cases_Bool}
use Rattle.heesch_grid.specs.Hole.{IsHoleFree, IsGreatestHole}
use Rattle.heesch_grid.specs.Corona.{cells_of}
use Rattle.heesch_corona.specs.Searches.{IsWhole}
use Rattle.heesch_corona.proofs.holes.first_hole.Goals as goal

below : (m n : ℕ) → nat_lt m n ≡ true → m < n
below m n h = grind arith

same : (m n : ℕ) → m < n + 1 → nat_lt m n ≡ false → m ≡ n
same m n l h = grind arith

pub loop-level-preserved : goal.loop-level-preserved
loop-level-preserved g c k a l =
    let geometry = g.G.Grid.geometry in
    let sets = c.args.index.now in
    let ends = c.args.ends.now in
    elim (cases_Bool (nat_lt k c.loop-level.level)) [
      | inl t ↦ c.loop-level.invariant k a (below k c.loop-level.level t)
      | inr f ↦
          let cells = cells_of (take (slice_index ends c.loop-level.level) sets) in
          let whole : IsWhole geometry sets ends c.loop-level.level = subst (λ o. MatchOption o (IsHoleFree geometry cells) (λ hole. (0 < length hole) × IsGreatestHole geometry cells hole)) c.in_default.is c.in_ok-hole.ensures in
          subst (IsWhole geometry sets ends) (sym (same k c.loop-level.level l f)) whole
    ]

pub returns : goal.returns
returns g c k a l = c.loop-level.invariant k a (let m = c.loop-level-test.false in omega (arith, l, m))
