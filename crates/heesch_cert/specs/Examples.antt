-- Small entries, and that they are true.
use Rattle.std.specs.Prelude.{List, [], ◌∷◌, None, pos}
use Rattle.heesch_grid.specs.declared.Cell.{Cell}
use Rattle.heesch_grid.specs.declared.isometries.Iso.{Iso}
use Rattle.heesch_grid.specs.Cells.{cell}
use Rattle.heesch_grid.specs.Geometry.{Geometry}
use Rattle.heesch_grid.specs.Pattern.{grid_of}
use Rattle.heesch_grid.specs.Grids.{iamond as iamond_tables}
use Rattle.heesch_grid.specs.Examples.{square, single, unit_triple}
use Rattle.heesch_grid.specs.Tiling.{no_move}
use Rattle.heesch_grid.specs.Symmetry.{Member}
use Rattle.heesch_cnf.specs.declared.version.Version.TheVariants.{One}
use Rattle.heesch_cert.specs.declared.limits.Limits.{Limits}
use Rattle.heesch_cert.specs.declared.tiling.Classes.{Classes}
use Rattle.heesch_cert.specs.declared.verdict.Kind.TheVariants.{Translation}
use Rattle.heesch_cert.specs.declared.verdict.Phase.TheVariants.{Free}
use Rattle.heesch_cert.specs.declared.verdict.Verdict.TheVariants.{Tiles, Size}
use Rattle.heesch_cert.specs.declared.entry.Wall.TheVariants.{Size as WallSize}
use Rattle.heesch_cert.specs.declared.entry.Bare.TheVariants.{Absent as NoBare}
use Rattle.heesch_cert.specs.declared.entry.Evidence.TheVariants.{Cover, Search}
use Rattle.heesch_cert.specs.declared.entry.Entry.{Entry}
use Rattle.heesch_cert.specs.TrueEntry.{IsTrueEntry}
use Rattle.heesch_cert.specs.RightVerdict.{HasRightVerdict}

-- the limits by default
abbrev pub square_limits : Limits
square_limits = record { turns = 20000; levels = 3; domain = 4; size = 60000000; version = One }

-- one place, where the shape stands
abbrev pub places : List Iso
places = no_move ∷ []

-- one class of one tile
abbrev pub one_member : Member
one_member = record { class = 1; by = no_move }

abbrev pub one_class : Classes
one_class = record { count = 1; members = one_member ∷ [] }

-- the single square tiles by translations
abbrev pub square_entry : Entry
square_entry = record { cells = single; verdict = Tiles Translation 1 1; evidence = Cover (record { triple = unit_triple; places = places }) one_class }

-- the grid of triangles
abbrev pub iamond : Geometry
iamond = grid_of iamond_tables

-- one triangle that points up
abbrev pub up : Cell
up = cell (pos 1) (pos 1)

abbrev pub one_up : List Cell
one_up = up ∷ []

-- the least limits
abbrev pub iamond_limits : Limits
iamond_limits = record { turns = 1; levels = 1; domain = 1; size = 1; version = One }

-- under them the single triangle is undecided: its corona formula at level 1 has 12 literals
abbrev pub iamond_entry : Entry
iamond_entry = record { cells = one_up; verdict = Size 0 Free 1; evidence = Search (record { layers = [] }) WallSize NoBare None [] }

-- both entries are true, and their verdicts right
pub record AreAsExpected : Type 0 where
  pub square_true : IsTrueEntry square square_limits square_entry
  pub square_right : HasRightVerdict square square_limits square_entry
  pub iamond_true : IsTrueEntry iamond iamond_limits iamond_entry
  pub iamond_right : HasRightVerdict iamond iamond_limits iamond_entry
