use Rattle.std.proofs.Common.{◌≡◌, ◌+◌, ◌*◌, vec_len}
use Rattle.heesch_rup.specs.Listed.{ListsFirst}
use Rattle.heesch_rup.proofs.occurrences.occurrences_of.Given as goal

abbrev pub invariant-loop-place : goal.invariant-loop-place
invariant-loop-place l = record {
  room : vec_len l.listed.last ≡ 2 * l.clauses.vars + 2;
  counts : vec_len l.listed.counts ≡ 2 * l.clauses.vars + 2;
  count : vec_len l.listed.earlier ≡ l._place;
  lists : ListsFirst l.clauses.clauses l.listed;
}
