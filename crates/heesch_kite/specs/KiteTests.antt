-- The grid of kites passes the tests of its table, and so has the laws.
use Rattle.std.proofs.Common.{◌≡◌, true, refl}
use Rattle.heesch_grid.specs.Pattern.{grid_of}
use Rattle.heesch_grid.specs.Geometry.{IsGrid}
use Rattle.heesch_grid.specs.Grids.{kite}
use Rattle.heesch_grid.specs.PatternLaws.{laws_by_tests}
use Rattle.heesch_grid.specs.PatternTests.{passes}

pub kite_passes : passes kite ≡ true
kite_passes = refl

pub kite_laws : IsGrid (grid_of kite)
kite_laws = laws_by_tests kite kite_passes
