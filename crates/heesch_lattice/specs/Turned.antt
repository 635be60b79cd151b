-- Lattices that a turn carries to each other, and the covers by them.
use Rattle.std.specs.Prelude.{ℕ, ◌<◌, List}
use Rattle.heesch_grid.specs.declared.Cell.{Cell}
use Rattle.heesch_grid.specs.declared.isometries.Iso.{Iso}
use Rattle.heesch_grid.specs.Cells.{origin}
use Rattle.heesch_grid.specs.Geometry.{Geometry, IsGrid, moved}
use Rattle.heesch_grid.specs.Lattice.{Triple, IsTriple, DiffersByLattice}
use Rattle.heesch_grid.specs.Tiling.{IsPeriodicCover}

-- pairs that differ by a vector of the first lattice differ, when they are turned, by one of the second
abbrev pub CarriesInto : Geometry → ℕ → Triple → Triple → Type 0
CarriesInto g k t u = (c d : Cell) → DiffersByLattice g t c d → DiffersByLattice g u (g.turn k c) (g.turn k d)

-- the ends of two vectors, in units, from (0, 0) differ, when they are turned, by a vector of the lattice from (0, 0) turned
abbrev pub CarriesVectors : Geometry → ℕ → (v w : Cell) → Triple → Type 0
CarriesVectors g k v w u = DiffersByLattice g u (g.turn k origin) (g.turn k (moved g v.a v.b origin)) × DiffersByLattice g u (g.turn k origin) (g.turn k (moved g w.a w.b origin))

-- the turn carries the first lattice onto the second: into it, and the turn that undoes it carries the second back into the first
pub record TurnsOnto (g : Geometry) (k : ℕ) (t u : Triple) : Type 0 where
  pub into : CarriesInto g k t u
  pub back : CarriesInto g (g.inverse k) u t

-- where a turn carries one lattice onto another, a shape that has a cover by the one has one by the other
abbrev pub CoversTurn : Type 0
CoversTurn = (g : Geometry) (shape : List Cell) (k : ℕ) (t u : Triple) → IsGrid g → k < g.turns → IsTriple u → TurnsOnto g k t u → (places : List Iso) → IsPeriodicCover g shape t places → (others : List Iso) × IsPeriodicCover g shape u others
