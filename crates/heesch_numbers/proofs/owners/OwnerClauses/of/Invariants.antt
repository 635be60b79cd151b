use Rattle.std.proofs.Common.{◌≡◌, ◌+◌, ◌*◌, ◌≤◌, map, take, length, All}
use Rattle.std.specs.Prelude.{sum_by}
use Rattle.heesch_grid.specs.OwnerFormula.{holders, owner_count}
use Rattle.heesch_numbers.specs.OwnerCounts.{clause_count}
use Rattle.heesch_numbers.proofs.owners.OwnerClauses.of.Given as goal

abbrev pub invariant-loop-i : goal.invariant-loop-i
invariant-loop-i g l = record {
  cells : l.all.cells ≡ l.initial.all.cells;
  clauses : l.all.clauses ≡ map (clause_count l.universe.vars) (take l.i l.all.cells.items);
  owners : l.all.owners ≡ map (owner_count l.universe.vars) (take l.i l.all.cells.items);
  some : 1 ≤ l.all.most_holders;
  most : All (λ c. length (holders l.universe.vars c) ≤ l.all.most_holders) (take l.i l.all.cells.items);
  left : l.left + 2 * sum_by (clause_count l.universe.vars) (take l.i l.all.cells.items) ≡ l.fn.room;
}
