use Rattle.std.proofs.Common.{◌≡◌, ℕ, ◌+◌, ◌*◌, ◌<◌, take, slice_index_or, vec_len}
use Rattle.heesch_cnf.specs.declared.log.Line.{Line}
use Rattle.heesch_cnf.specs.Literals.{held}
use Rattle.heesch_cnf.specs.Clauses.{IsNew}
use Rattle.heesch_cnf.specs.Lines.{clause_of, clauses_with}
use Rattle.heesch_rup.specs.Assigned.{all_open}
use Rattle.heesch_rup.specs.Listed.{ListsFirst}
use Rattle.heesch_rup.proofs.newness.are_new_in_turn.Given as goal

abbrev pub invariant-loop-i : goal.invariant-loop-i
invariant-loop-i g l =
    let f = g.N.ClauseSource.listed l.formula in
    let lines = (g.S.Steps.written l.steps).lines in
    record {
      slots : vec_len l.listed.last ≡ 2 * l.added.vars + 2;
      counts : vec_len l.listed.counts ≡ 2 * l.added.vars + 2;
      count : vec_len l.listed.earlier ≡ l.i;
      lists : ListsFirst l.added.clauses l.listed;
      room : vec_len l.assignment.values ≡ l.added.vars + 1;
      open_ : held l.assignment.values.items ≡ all_open;
      fresh : (k : ℕ) (d : Line) → k < l.i → IsNew (clauses_with f.clauses (take k lines)) (clause_of (slice_index_or lines k d));
    }
