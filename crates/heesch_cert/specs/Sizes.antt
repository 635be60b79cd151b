-- Which sizes a catalogue may be of, and the word of what it is of.
use Rattle.std.specs.Prelude.{ℕ, ◌≤◌, List, codes, decimal}
use Rattle.heesch_grid.specs.declared.GridName.{GridName}
use Rattle.heesch_grid.specs.declared.GridName.TheVariants.{Square, Hex, Iamond, Kite}
use Rattle.heesch_cnf.specs.declared.version.Version.{Version}
use Rattle.heesch_cnf.specs.declared.version.Version.TheVariants.{One, Two}
use Rattle.heesch_cert.specs.declared.header.Subject.{Subject}
use Rattle.heesch_cert.specs.declared.header.Subject.TheVariants.{Size, Given}

-- the greatest size of a catalogue of this version, and 0 where the version has no catalogue of the grid
abbrev pub most_cells : Version → GridName → ℕ
most_cells One Square = 12
most_cells One Hex = 10
most_cells One Iamond = 15
most_cells One Kite = 0
most_cells Two Square = 14
most_cells Two Hex = 12
most_cells Two Iamond = 18
most_cells Two Kite = 10

-- the version has catalogues of the grid
abbrev pub HasGrid : Version → GridName → Type 0
HasGrid version grid = 1 ≤ most_cells version grid

-- a catalogue of this version is of the polyforms of a size in its range, or of those that are given, on a grid that it has
abbrev pub IsSubject : Version → GridName → Subject → Type 0
IsSubject version grid (Size n) = (1 ≤ n) × (n ≤ most_cells version grid)
IsSubject version grid Given = HasGrid version grid

-- the word of a subject: its number of cells, or `given`
abbrev pub subject_word : Subject → List ℕ
subject_word (Size n) = decimal n
subject_word Given = codes "given"
