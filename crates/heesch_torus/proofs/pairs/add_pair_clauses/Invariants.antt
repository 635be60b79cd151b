use Rattle.std.proofs.Common.{ℕ, ◌+◌, ◌*◌, ◌<◌, ◌≤◌, flat_map, length, take}
use Rattle.std.specs.Prelude.{slice_index}
use Rattle.std.specs.List.{enumerate_from}
use Rattle.heesch_torus.specs.Variables.{sets_of}
use Rattle.heesch_torus.specs.Formula.{AddsClauses}
use Rattle.heesch_torus.proofs.Excluding.{pairs_with}
use Rattle.heesch_torus.proofs.pairs.add_pair_clauses.Given as goal

abbrev pub invariant-loop-at : goal.invariant-loop-at
invariant-loop-at g l = record {
  low : (v : ℕ) → 1 ≤ v → v < length l.marks → slice_index l.marks v ≤ l.at;
  adds : AddsClauses (flat_map (pairs_with (sets_of l.incidence.sets.now.variables.now)) (take l.at (enumerate_from 1 (sets_of l.incidence.sets.now.variables.now)))) l.initial.formula.vars l.initial.formula.clauses l.formula.vars l.formula.clauses;
  few : length l.formula.clauses ≤ length l.initial.formula.clauses + 4608 * l.at;
}
