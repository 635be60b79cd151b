use Rattle.std.proofs.Common.{◌≡◌, ℕ, ◌-◌, ◌≤◌, List, Option, length}
use Rattle.heesch_io.specs.Input.{ReadsNoFurther}
use Rattle.heesch_check.specs.Reading.{IsPending, IsReading, DecideNothing}
use Rattle.heesch_check.proofs.Behind.{left_to_judge}
use Rattle.heesch_check.proofs.checking.check_behind.Given as goal

abbrev pub invariant-rounds : goal.invariant-rounds
invariant-rounds g l =
    let left = g.R.Source.left in
    record {
      kept : l.judge ≡ record l.fn.judge { entries = l.judge.entries };
      pending : (first : Option (List ℕ)) → IsReading first (left l.fn.source) l.fn.items l.fn.stream l.fn.reading → IsPending l.fn.judge.header first (left l.source) l.at_hand.items l.stream l.judge.entries l.at_hand.reading;
      no_further : (first : Option (List ℕ)) → IsReading first (left l.fn.source) l.fn.items l.fn.stream l.fn.reading → ReadsNoFurther DecideNothing first (left l.fn.source) → ReadsNoFurther DecideNothing first (left l.source);
      later : g.R.Source.faults l.fn.source ≤ g.R.Source.faults l.source;
    }

abbrev pub decreases-rounds : goal.decreases-rounds
decreases-rounds g l = left_to_judge l.at_hand.reading (1099511627776 - l.stream.count) (length l.at_hand.items)
