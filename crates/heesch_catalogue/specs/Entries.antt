-- The entry of one shape, and its text.
use Rattle.std.specs.Prelude.{◌≡◌, ℕ, List, Bool, if◌then◌else◌}
use Rattle.std.specs.List.{AllByRecursion}
use Rattle.heesch_grid.specs.declared.Cell.{Cell}
use Rattle.heesch_grid.specs.Geometry.{Geometry}
use Rattle.heesch_grid.specs.Polyform.{IsCanonicalListOf}
use Rattle.heesch_cert.specs.declared.entry.Entry.{Entry}
use Rattle.heesch_cert.specs.declared.limits.Limits.{Limits}
use Rattle.heesch_cert.specs.Reduced.{HasReducedCover}
use Rattle.heesch_cert.specs.RightVerdict.{HasRightVerdict}
use Rattle.heesch_cert.specs.TrueEntry.{IsTrueEntry}
use Rattle.heesch_text.specs.Catalogue.{brief_lines, brief_text, entry_lines, entry_text}
use Rattle.heesch_text.specs.Naturals.{HasNaturals}

-- the entry is of this shape's canonical list, true under the grid and the limits, its cover is reduced, and its verdict is right
pub record IsEntryOf (g : Geometry) (limits : Limits) (shape : List Cell) (entry : Entry) : Type 0 where
  pub canonical : IsCanonicalListOf g shape entry.cells
  pub is_true : IsTrueEntry g limits entry
  pub is_reduced : HasReducedCover g entry.evidence
  pub is_right : HasRightVerdict g limits entry

-- the text is that of the entry, brief or with its evidence; the natural numbers of its lines fit 32 bits
abbrev pub IsEntryText : Bool → Entry → List ℕ → Type 0
IsEntryText brief entry text =
    (text ≡ (if brief then brief_text entry else entry_text entry)) × AllByRecursion HasNaturals (if brief then brief_lines entry else entry_lines entry)
