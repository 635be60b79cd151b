use Rattle.std.proofs.Common.{◌≡◌, ◌+◌, map, take, length}
use Rattle.std.specs.Prelude.{sum_by}
use Rattle.std.specs.List.{enumerate_from}
use Rattle.heesch_encode.specs.Families.{apart_at}
use Rattle.heesch_encode.specs.Marks.{AreUnmarked}
use Rattle.heesch_pairwise.proofs.PairLists.{HaveAtMost, size_at}
use Rattle.heesch_pairwise.proofs.pairs.PairClauses.of.Given as goal

abbrev pub invariant-loop-i : goal.invariant-loop-i
invariant-loop-i g l = record {
  later : l.all.later ≡ map (λ x. length (apart_at l.universe.vars x)) (take l.i (enumerate_from 1 l.universe.vars));
  most : HaveAtMost l.universe.vars l.all.most_holders l.i;
  unmarked : AreUnmarked (length l.universe.vars) l.marks.words.items;
  left : l.left + sum_by (size_at l.universe.vars) (take l.i (enumerate_from 1 l.universe.vars)) ≡ l.fn.room;
}
