-- The laws of the grid of a name.
use Rattle.heesch_grid.specs.declared.GridName.{GridName}
use Rattle.heesch_grid.specs.declared.GridName.TheVariants.{Square, Hex, Iamond, Kite}
use Rattle.heesch_grid.specs.Geometry.{IsGrid}
use Rattle.heesch_grid.specs.GridTests.{square_laws, hex_laws, iamond_laws}
use Rattle.heesch_grid.specs.Names.{geometry_of}
use Rattle.heesch_kite.specs.KiteTests.{kite_laws}

pub laws_of : (name : GridName) → IsGrid (geometry_of name)
laws_of Square = square_laws
laws_of Hex = hex_laws
laws_of Iamond = iamond_laws
laws_of Kite = kite_laws
