-- Catalogues: the entries of a list of shapes, and their text.
use Rattle.std.specs.Prelude.{◌≡◌, ℕ, List, map, take, length, All, if◌then◌else◌}
use Rattle.std.specs.List.{AllByRecursion}
use Rattle.heesch_grid.specs.declared.Cell.{Cell}
use Rattle.heesch_grid.specs.Geometry.{Geometry}
use Rattle.heesch_grid.specs.Polyform.{IsFreeList}
use Rattle.heesch_cert.specs.declared.entry.Entry.{Entry}
use Rattle.heesch_cert.specs.declared.header.Header.{Header}
use Rattle.heesch_cert.specs.declared.limits.Limits.{Limits}
use Rattle.heesch_cert.specs.Reduced.{HasReducedCover}
use Rattle.heesch_cert.specs.RightVerdict.{HasRightVerdict}
use Rattle.heesch_cert.specs.TrueEntry.{IsTrueEntry}
use Rattle.heesch_line.specs.Forms.{IsLine}
use Rattle.heesch_text.specs.declared.line.Line.{Line}
use Rattle.heesch_text.specs.Catalogue.{brief_lines, entry_lines, catalogue_text, begun_text}
use Rattle.heesch_text.specs.Naturals.{HasNaturals}

-- the entries are of these shapes, one each, in their order; each is true under the grid and the limits, its cover is reduced, and its verdict is right
pub record AreEntries (g : Geometry) (limits : Limits) (shapes : List (List Cell)) (entries : List Entry) : Type 0 where
  pub of_shapes : map (λ (e : Entry). e.cells) entries ≡ shapes
  pub are_true : All (IsTrueEntry g limits) entries
  pub are_reduced : All (λ (e : Entry). HasReducedCover g e.evidence) entries
  pub are_right : All (HasRightVerdict g limits) entries

-- the lines of each entry under the header, brief or with its evidence, have the forms of a catalogue's lines
abbrev pub lines_under : Header → Entry → List Line
lines_under header e = if header.brief then brief_lines e else entry_lines e

abbrev pub AreReadable : Header → List Entry → Type 0
AreReadable header entries = AllByRecursion (λ e. AllByRecursion IsLine (lines_under header e)) entries

-- the output is the catalogue text, under the header, of entries of these shapes; its lines can be read
abbrev pub IsCatalogue : Geometry → Header → List (List Cell) → List ℕ → Type 0
IsCatalogue g header shapes output = (entries : List Entry) × AreEntries g header.limits shapes entries × AreReadable header entries × (output ≡ catalogue_text header entries)

-- the natural numbers of these lines fit 32 bits
abbrev pub HaveNaturals : Header → List Entry → Type 0
HaveNaturals header entries = AllByRecursion (λ e. AllByRecursion HasNaturals (lines_under header e)) entries

-- the output is the header's text, then the texts of entries of some first ones of these shapes, then the end's text where these are all
abbrev pub IsBegunCatalogue : Geometry → Header → List (List Cell) → List ℕ → Type 0
IsBegunCatalogue g header shapes output =
    (count : ℕ) × (entries : List Entry) × AreEntries g header.limits (take count shapes) entries × (output ≡ begun_text header (length shapes) entries)

-- the same of the free list of the grid's polyforms of n cells
abbrev pub IsCatalogueOfSize : Geometry → Header → ℕ → List ℕ → Type 0
IsCatalogueOfSize g header n output = (shapes : List (List Cell)) × IsFreeList g n shapes × IsCatalogue g header shapes output

abbrev pub IsBegunCatalogueOfSize : Geometry → Header → ℕ → List ℕ → Type 0
IsBegunCatalogueOfSize g header n output = (shapes : List (List Cell)) × IsFreeList g n shapes × IsBegunCatalogue g header shapes output
