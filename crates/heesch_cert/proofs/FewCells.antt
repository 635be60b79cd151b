-- Sizes are small.
use Rattle.std.proofs.Common.{◌≤◌, ℕ, arith}
use Rattle.heesch_grid.specs.declared.GridName.{GridName}
use Rattle.heesch_grid.specs.declared.GridName.TheVariants.{Square, Hex, Iamond, Kite}
use Rattle.heesch_cnf.specs.declared.version.Version.{Version}
use Rattle.heesch_cnf.specs.declared.version.Version.TheVariants.{One, Two}
use Rattle.heesch_cert.specs.Sizes.{most_cells}

pub few_cells : (version : Version) (grid : GridName) → most_cells version grid ≤ 18
few_cells One Square = omega arith
few_cells One Hex = omega arith
few_cells One Iamond = omega arith
few_cells One Kite = omega arith
few_cells Two Square = omega arith
few_cells Two Hex = omega arith
few_cells Two Iamond = omega arith
few_cells Two Kite = omega arith
