use Rattle.std.proofs.Common.{ℕ, ◌-◌, ◌<◌, ◌≤◌, length}
use Rattle.heesch_grid.specs.CoronaFormula.{Variable, IsNumbered}
use Rattle.heesch_encode.proofs.meeting.last_below.Given as goal

abbrev pub invariant-loop-low : goal.invariant-loop-low
invariant-loop-low g l = record {
  order : l.low ≤ l.high;
  bound : l.high ≤ length l.universe.vars;
  below : (n : ℕ) (x : Variable) → IsNumbered l.universe.vars n x → n ≤ l.low → x.level < l.level;
  above : (n : ℕ) (x : Variable) → IsNumbered l.universe.vars n x → l.high < n → l.level ≤ x.level;
}

abbrev pub decreases-loop-low : goal.decreases-loop-low
decreases-loop-low g l = l.high - l.low
