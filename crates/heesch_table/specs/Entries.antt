-- The entries among items, and shapes among them.
use Rattle.std.specs.Prelude.{◌≡◌, ℕ, List, [], ◌∷◌, ⊤}
use Rattle.std.specs.Prelude.{Bool}
use Rattle.std.specs.List.{flat_map, AllByRecursion}
use Rattle.heesch_grid.specs.declared.Cell.{Cell}
use Rattle.heesch_grid.specs.declared.GridName.{GridName}
use Rattle.heesch_grid.specs.Geometry.{Geometry}
use Rattle.heesch_cert.specs.declared.verdict.Verdict.{Verdict}
use Rattle.heesch_reader.specs.declared.item.Item.{Item}
use Rattle.heesch_reader.specs.declared.item.Item.TheVariants as items
use Rattle.heesch_shape.specs.Faults.{IsFaultless}
use Rattle.heesch_table.specs.Holed.{IsHoled}

-- the cells and the verdict of an item, if it is an entry
abbrev pub entry_in : Item → List (List Cell × Verdict)
entry_in (items.Header header) = []
entry_in (items.Entry line entry) = (entry.cells, entry.verdict) ∷ []
entry_in (items.Brief line cells verdict) = (cells, verdict) ∷ []
entry_in (items.End count) = []

-- those of all entries, in their order
abbrev pub entries_of : List Item → List (List Cell × Verdict)
entries_of found = flat_map entry_in found

-- the item is the entry with these cells that begins on this line
abbrev pub IsEntryAt : Item → ℕ → List Cell → Type 0
IsEntryAt (items.Header header) line cells = ⊥
IsEntryAt (items.Entry first entry) line cells = (line ≡ first) × (cells ≡ entry.cells)
IsEntryAt (items.Brief first given verdict) line cells = (line ≡ first) × (cells ≡ given)
IsEntryAt (items.End count) line cells = ⊥

-- the first item, if there is one, is a header that names this grid
abbrev pub IsOfGrid : GridName → List Item → Type 0
IsOfGrid grid [] = ⊤
IsOfGrid grid (items.Header header ∷ found) = header.grid ≡ grid
IsOfGrid grid (item ∷ found) = ⊥

-- the cells of each entry are those of a shape
abbrev pub AreShapes : Geometry → List (List Cell × Verdict) → Type 0
AreShapes g entries = AllByRecursion (λ e. IsFaultless g e.0) entries

-- the entry is counted by whether its cells have a hole, and by its verdict
abbrev pub IsCounted : Geometry → List Cell × Verdict → Bool × Verdict → Type 0
IsCounted g entry counted = IsHoled g entry.0 counted.0 × (counted.1 ≡ entry.1)
