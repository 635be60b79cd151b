-- Lattice vectors in units, and the translations that carry one set to another.
use Rattle.std.specs.Prelude.{◌≡◌, ℕ, ℤ, pos, ◌+ℤ◌, ◌*ℤ◌, List, map}
use Rattle.heesch_grid.specs.declared.Cell.{Cell}
use Rattle.heesch_grid.specs.declared.isometries.Iso.{Iso}
use Rattle.heesch_grid.specs.Cells.{SameCells}
use Rattle.heesch_grid.specs.Geometry.{Geometry, moved, image}
use Rattle.heesch_grid.specs.Lattice.{Triple}

-- v, in units, is i times (p, 0) and j times (s, q)
pub record IsVector (t : Triple) (v : Cell) : Type 0 where
  pub i : ℤ
  pub j : ℤ
  pub in_a : v.a ≡ i *ℤ pos t.p +ℤ j *ℤ pos t.s
  pub in_b : v.b ≡ j *ℤ pos t.q

-- the first set, moved by v units, is the second
abbrev pub IsStepBetween : Geometry → List Cell → List Cell → Cell → Type 0
IsStepBetween g from to v = SameCells (map (moved g v.a v.b) from) to

-- turn k, followed by a translation by v units
abbrev pub turn_and_shift : ℕ → Cell → Iso
turn_and_shift k v = record { turn = k; da = v.a; db = v.b }

-- turn k alone
abbrev pub turn_alone : ℕ → Iso
turn_alone k = record { turn = k; da = pos 0; db = pos 0 }

-- the set under the first turn, moved by v units, is the set under the second turn
abbrev pub IsStep : Geometry → List Cell → ℕ → ℕ → Cell → Type 0
IsStep g shape from to v = SameCells (image g (turn_and_shift from v) shape) (image g (turn_alone to) shape)
