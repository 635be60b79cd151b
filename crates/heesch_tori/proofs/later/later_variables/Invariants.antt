use Rattle.std.proofs.Common.{◌≡◌, ◌*◌, ◌≤◌, map, length, take}
use Rattle.std.specs.Prelude.{flat_map, sum}
use Rattle.std.specs.List.{enumerate_from}
use Rattle.heesch_tori.specs.Later.{later_sharing, later_numbers}
use Rattle.heesch_tori.specs.Shared.{tabled_sets}
use Rattle.heesch_tori.proofs.later.later_variables.Given as goal

abbrev pub invariant-loop-i : goal.invariant-loop-i
invariant-loop-i l = record {
  counts : l.counts ≡ map (λ u. length (later_sharing (tabled_sets l.table) u)) (take l.i (enumerate_from 1 (tabled_sets l.table)));
  numbers : l.numbers.items ≡ flat_map (later_numbers (tabled_sets l.table)) (take l.i (enumerate_from 1 (tabled_sets l.table)));
  few : sum l.counts ≤ 4608 * l.i;
}
