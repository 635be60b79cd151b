-- The grids by their names.
use Rattle.std.specs.Prelude.{ℕ, List, codes}
use Rattle.heesch_grid.specs.declared.GridName.{GridName}
use Rattle.heesch_grid.specs.declared.GridName.TheVariants.{Square, Hex, Iamond, Kite}
use Rattle.heesch_grid.specs.Geometry.{Geometry}
use Rattle.heesch_grid.specs.Grids.{square, hex, iamond, kite}
use Rattle.heesch_grid.specs.Pattern.{grid_of}

-- the grid of a name
abbrev pub geometry_of : GridName → Geometry
geometry_of Square = grid_of square
geometry_of Hex = grid_of hex
geometry_of Iamond = grid_of iamond
geometry_of Kite = grid_of kite

-- the word of a name
abbrev pub grid_word : GridName → List ℕ
grid_word Square = codes "square"
grid_word Hex = codes "hex"
grid_word Iamond = codes "iamond"
grid_word Kite = codes "kite"
