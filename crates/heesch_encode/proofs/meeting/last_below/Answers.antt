use Rattle.std.proofs.Common.{◌≡◌, ◌+◌, ◌-◌, ◌/◌, ◌≤◌, length, get_or, arith}
use Rattle.heesch_grid.specs.CoronaFormula.{Variable, IsNumbered}
use Rattle.heesch_encode.proofs.Numbered.{no_entry}
use Rattle.heesch_encode.proofs.Pieces.{some_at, numbered_order}
use Rattle.heesch_encode.proofs.meeting.last_below.Given as given
use Rattle.heesch_encode.proofs.meeting.last_below.Goals as goal
use Rattle.heesch_encode.proofs.meeting.last_below.Goals.{After-level_of}

-- the variable in the middle
middle : (g : given.Over) (c : After-level_of g) → (v : Variable) × IsNumbered c.args.universe.now.vars (c.loop-low.low + (c.loop-low.high - c.loop-low.low) / 2 + 1) v × (c.level_of.result ≡ v.level)
middle g c =
    let vars = c.args.universe.now.vars in
    let bound = c.loop-low.invariant.bound in
    let k = c.loop-low.low + (c.loop-low.high - c.loop-low.low) / 2 + 1 in
    let top : k ≤ length vars = omega (arith, bound, c.loop-low-test.true) in
    let number = some_at vars k (omega arith) top in
    (get_or vars (k - 1) no_entry.1, number, c.level_of.ensures (get_or vars (k - 1) no_entry.1) number)

pub loop-low-preserved-then-level_of-level : goal.loop-low-preserved-then-level_of-level
loop-low-preserved-then-level_of-level g c =
    let at = middle g (goal.at.loop-low-preserved-then-level_of-level g c).After-level_of in
    record {
      order = omega (arith, c.loop-low-test.true);
      bound = c.loop-low.invariant.bound;
      below = λ n x is l. let o = numbered_order c.args.universe.now.vars c.requires.rising n _ x at.0 is at.1 l in omega (arith, o, at.2, c.if-level_of-level.true);
      above = c.loop-low.invariant.above;
    }

pub loop-low-preserved : goal.loop-low-preserved
loop-low-preserved g c =
    let at = middle g (goal.at.loop-low-preserved g c).After-level_of in
    record {
      order = omega (arith, c.loop-low-test.true);
      bound = let bound = c.loop-low.invariant.bound in omega (arith, bound, c.loop-low-test.true);
      below = c.loop-low.invariant.below;
      above = λ n x is l. let o = numbered_order c.args.universe.now.vars c.requires.rising _ n at.0 x at.1 is (omega arith) in omega (arith, o, at.2, c.if-level_of-level.false);
    }
