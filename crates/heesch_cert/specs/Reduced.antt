-- Covers whose tiles lie in their triple.
use Rattle.std.specs.Prelude.{All, ⊤}
use Rattle.heesch_grid.specs.declared.isometries.Iso.{Iso}
use Rattle.heesch_grid.specs.Geometry.{Geometry, IsIsometry}
use Rattle.heesch_grid.specs.Lattice.{Triple}
use Rattle.heesch_grid.specs.TorusFormula.{IsWithinTriple}
use Rattle.heesch_cert.specs.declared.entry.Evidence.{Evidence}
use Rattle.heesch_cert.specs.declared.entry.Evidence.TheVariants.{Cover, Search}

-- the turn is one of the grid's, and the translation is at least (0, 0), and below p and q
abbrev pub IsReducedPlace : Geometry → Triple → Iso → Type 0
IsReducedPlace g t by = IsIsometry g by × IsWithinTriple t by

-- the places of a cover are such ones
abbrev pub HasReducedCover : Geometry → Evidence → Type 0
HasReducedCover g (Cover tiling classes) = All (IsReducedPlace g tiling.triple) tiling.places
HasReducedCover g (Search free wall bare wider triples) = ⊤
