use Rattle.std.proofs.Common.{◌≡◌, ◌≤◌, ℕ, get_or, length}
use Rattle.heesch_grid.specs.CoronaFormula.{Variable, IsNumbered}
use Rattle.heesch_pairwise.specs.Later.{later_of, ArePassedAt}
use Rattle.heesch_pairwise.proofs.later.later_at.Given as goal

abbrev pub invariant-loop-rank : goal.invariant-loop-rank
invariant-loop-rank g l = record {
  size : length l.counts ≡ 32;
  passed : ArePassedAt l.universe.vars l.cells l.counts l.now;
  is : (x : Variable) → IsNumbered l.universe.vars l.var x → l.now ≡ get_or (later_of l.universe.vars (l.var, x)) l._rank 0;
}
