-- The grids pass the tests of their tables, and so have the laws.
use Rattle.std.proofs.Common.{◌≡◌, true, refl}
use Rattle.heesch_grid.specs.Pattern.{grid_of}
use Rattle.heesch_grid.specs.Geometry.{IsGrid}
use Rattle.heesch_grid.specs.Grids.{square, hex, iamond}
use Rattle.heesch_grid.specs.PatternLaws.{laws_by_tests}
use Rattle.heesch_grid.specs.PatternTests.{passes}

pub square_passes : passes square ≡ true
square_passes = refl

pub square_laws : IsGrid (grid_of square)
square_laws = laws_by_tests square square_passes

pub hex_passes : passes hex ≡ true
hex_passes = refl

pub hex_laws : IsGrid (grid_of hex)
hex_laws = laws_by_tests hex hex_passes

pub iamond_passes : passes iamond ≡ true
iamond_passes = refl

pub iamond_laws : IsGrid (grid_of iamond)
iamond_laws = laws_by_tests iamond iamond_passes
