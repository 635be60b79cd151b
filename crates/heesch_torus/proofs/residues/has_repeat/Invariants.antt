use Rattle.std.proofs.Common.{◌≢◌, ℕ, suc, ◌<◌, get_or}
use Rattle.heesch_grid.specs.declared.Cell.{Cell}
use Rattle.heesch_torus.proofs.residues.has_repeat.Given as goal

abbrev pub invariant-loop-i : goal.invariant-loop-i
invariant-loop-i l = (k : ℕ) (d : Cell) → suc k < l.i → get_or l.cells k d ≢ get_or l.cells (suc k) d
