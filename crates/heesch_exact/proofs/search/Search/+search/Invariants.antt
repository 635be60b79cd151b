use Rattle.std.proofs.Common.{◌≡◌, ◌≤◌, ◌+◌, ◌-◌, ◌*◌, All, take, drop, vec_len}
use Rattle.std.specs.List.{sum_by}
use Rattle.heesch_exact.specs.Branches.{IsTried}
use Rattle.heesch_exact.proofs.Partial.{through}
use Rattle.heesch_exact.proofs.search.Search.+search.Given as goal

abbrev pub decreases-cover : goal.decreases-cover
decreases-cover l = 2 * (vec_len l.self.now.candidates - l.from) + 1

abbrev pub decreases-cover_point : goal.decreases-cover_point
decreases-cover_point l = 2 * (vec_len l.self.now.candidates - l.from)

abbrev pub invariant-cover_point-loop-k : goal.invariant-cover_point-loop-k
invariant-cover_point-loop-k l =
    let here = drop l.from l.initial.self.candidates.items in
    record {
      candidates : l.self.candidates.items ≡ l.initial.self.candidates.items;
      chosen : l.self.chosen.items ≡ l.initial.self.chosen.items;
      tried : All (IsTried l.masks l.left here l.point) (take (l.k - l.from) here);
      nodes : l.self.nodes ≤ l.initial.self.nodes;
      spent : l.initial.self.nodes ≤ l.self.nodes + sum_by (through l.masks l.point here l.left) (take (l.k - l.from) here);
    }
