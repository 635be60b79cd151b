use Rattle.std.proofs.Common.{◌≡◌, ◌≤◌, ◌+◌, ◌-◌, ◌++◌, take, drop, filter, vec_len}
use Rattle.heesch_exact.specs.Branches.{is_apart}
use Rattle.heesch_exact.proofs.candidates.push_apart.Given as goal

abbrev pub invariant-loop-k : goal.invariant-loop-k
invariant-loop-k l =
    let old = l.fn.candidates.items in
    record {
      long : vec_len l.candidates ≡ l.to + (l.to - l.from);
      kept : take l.top l.candidates.items ≡ old ++ filter (is_apart l.masks l.mask) (take (l.k - l.from) (drop l.from old));
      low : l.to ≤ l.top;
      high : l.top ≤ l.to + (l.k - l.from);
    }
