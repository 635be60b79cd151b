use Rattle.std.proofs.Common.{subst}
use Rattle.heesch_cert.specs.declared.tiling.Tiling.{Tiling}
use Rattle.heesch_grid.specs.Lattice.{IsTriple}
use Rattle.heesch_orbit.proofs.classing.classes.Goals as goal

pub classes_of-requires-clause-triple : goal.classes_of-requires-clause-triple
classes_of-requires-clause-triple g c = subst (λ (tiling : Tiling). IsTriple tiling.triple) c.tiling.view_is c.tiling.invariant.is_triple
