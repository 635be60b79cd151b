use Rattle.std.proofs.Common.{◌≡◌}
use Rattle.arrayvec.specs.ArrayVec.{ArrayVec}
use Rattle.heesch_grid.specs.declared.Cell.{Cell}
use Rattle.heesch_torus.proofs.Finding.{seen}
use Rattle.heesch_torus.proofs.found.Found.into_variables.Given as goal

abbrev pub invariant-loop-residues : goal.invariant-loop-residues
invariant-loop-residues l = l.variables.items ≡ seen (λ (k : ArrayVec Cell). k.items) l.yielded
