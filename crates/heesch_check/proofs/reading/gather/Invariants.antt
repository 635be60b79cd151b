use Rattle.std.proofs.Common.{◌≡◌, ◌⊎◌, ◌++◌, ℕ, ◌-◌, ◌<◌, ◌≤◌, List, Option}
use Rattle.heesch_reader.specs.declared.item.Item.{Item}
use Rattle.heesch_reader.specs.Taking.{HasRead}
use Rattle.heesch_check.specs.Reading.{IsReading, StopsGathering}
use Rattle.heesch_check.proofs.reading.gather.Given as goal

abbrev pub invariant-pieces : goal.invariant-pieces
invariant-pieces g l =
    let left = g.R.Source.left in
    record {
      more : (more : List Item) × (l.items ≡ l.fn.items ++ more);
      grown : (l.items ≡ l.fn.items) ⊎ (l.fn.stream.count < l.stream.count);
      counts : l.fn.stream.count ≤ l.stream.count;
      goes_on : (first : Option (List ℕ)) (found : List Item) → IsReading first (left l.fn.source) (found ++ l.fn.items) l.fn.stream l.fn.came_to → HasRead first (left l.source) (found ++ l.items) l.stream;
      stops : (first : Option (List ℕ)) (found : List Item) → IsReading first (left l.fn.source) (found ++ l.fn.items) l.fn.stream l.fn.came_to → StopsGathering first (left l.fn.source) (left l.source) found l.fn.items l.fn.enough;
      later : g.R.Source.faults l.fn.source ≤ g.R.Source.faults l.source;
    }

abbrev pub decreases-pieces : goal.decreases-pieces
decreases-pieces g l = 1099511627776 - l.stream.count
