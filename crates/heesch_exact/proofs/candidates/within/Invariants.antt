use Rattle.std.proofs.Common.{◌≡◌, ℕ, ◌<◌, slice_index, map, filter, take}
use Rattle.std.specs.List.{Contains}
use Rattle.heesch_exact.specs.Covers.{is_within}
use Rattle.heesch_exact.specs.Branches.{AreCandidates, IsPart}
use Rattle.heesch_exact.proofs.candidates.within.Given as goal

abbrev pub invariant-loop-i : goal.invariant-loop-i
invariant-loop-i l = record {
  candidates : AreCandidates l.masks l.points l.numbers.items;
  all : (i : ℕ) → i < l.i → IsPart (slice_index l.masks i) l.points → Contains l.numbers.items i;
  sets : map (λ i. slice_index l.masks i) l.numbers.items ≡ filter (is_within l.points) (take l.i l.masks);
}
