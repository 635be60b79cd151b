use Rattle.std.proofs.Common.{◌≡◌, filter_map}
use Rattle.std.specs.List.{range_with_len}
use Rattle.heesch_cuts.specs.Marks.{is_marked, literal_of}
use Rattle.heesch_cuts.proofs.clauses.literals.Given as goal

abbrev pub invariant-loop-i : goal.invariant-loop-i
invariant-loop-i l = l.clause ≡ filter_map (λ n. literal_of (is_marked l.negated n) (is_marked l.asserted n) n) (range_with_len 1 l.i)
