-- The lines of an entry, and the text of each part of a catalogue.
-- In an entry's lines some numbers are determined by others: the level behind `wall` and `bare M same`, the count before layers, and the last number of the verdict.
use Rattle.std.specs.Prelude.{ℕ, ◌+◌, ◌==◌, List, [], ◌∷◌, ◌++◌, length, map, Option, Some, None, is_some, if◌then◌else◌}
use Rattle.std.specs.List.{flat_map, zip}
use Rattle.heesch_grid.specs.declared.isometries.Iso.{Iso}
use Rattle.heesch_grid.specs.Symmetry.{Member}
use Rattle.heesch_cert.specs.declared.header.Header.{Header}
use Rattle.heesch_cert.specs.declared.entry.Entry.{Entry}
use Rattle.heesch_cert.specs.declared.verdict.Verdict.{Verdict}
use Rattle.heesch_cert.specs.TrueEntry.{last_number}
use Rattle.heesch_cert.specs.declared.entry.Layers.{Layers}
use Rattle.heesch_cert.specs.declared.tiling.Tiling.{Tiling}
use Rattle.heesch_cert.specs.declared.tiling.Classes.{Classes}
use Rattle.heesch_cert.specs.declared.proof.Step.{Step}
use Rattle.heesch_cert.specs.declared.proof.Step.TheVariants as steps
use Rattle.heesch_cert.specs.declared.proof.Proof.{Proof}
use Rattle.heesch_cert.specs.declared.entry.Wall.{Wall}
use Rattle.heesch_cert.specs.declared.entry.Wall.TheVariants as walls
use Rattle.heesch_cert.specs.declared.entry.Bare.{Bare}
use Rattle.heesch_cert.specs.declared.entry.Bare.TheVariants as bares
use Rattle.heesch_cert.specs.declared.entry.TripleProof.{TripleProof}
use Rattle.heesch_cert.specs.declared.entry.Evidence.{Evidence}
use Rattle.heesch_cert.specs.declared.entry.Evidence.TheVariants as evidences
use Rattle.heesch_text.specs.declared.line.Outcome.TheVariants as outcomes
use Rattle.heesch_text.specs.declared.line.BareOutcome.TheVariants as bare_outcomes
use Rattle.heesch_text.specs.declared.line.Line.{Line}
use Rattle.heesch_text.specs.declared.line.Line.TheVariants as lines
use Rattle.heesch_text.specs.Lines.{line_text, text_of}

-- ---- a proof

-- a step
abbrev pub step_line : Step → Line
step_line (steps.Learn clause hints) = lines.Learn clause hints
step_line (steps.Cut cut) = lines.Cut cut

-- the last line, with hints where the proof refutes
abbrev pub last_line : Option (List ℕ) → Line
last_line None = lines.Spent
last_line (Some hints) = lines.Empty hints

-- the steps and the last line
abbrev pub proof_lines : Proof → List Line
proof_lines p = map step_line p.steps ++ last_line p.last ∷ []

-- ---- evidence

-- a line for each layer
abbrev pub layer_lines : List (List Iso) → List Line
layer_lines layers = map lines.Layer layers

-- how many coronas there are, and a line for each layer
abbrev pub coronas_lines : List (List Iso) → List Line
coronas_lines layers = lines.Coronas (length layers) ∷ layer_lines layers

-- how the search for the corona of this level ended, holes forbidden
abbrev pub wall_lines : ℕ → Wall → List Line
wall_lines level walls.Absent = []
wall_lines level (walls.Refuted proof) = lines.Wall level outcomes.Refuted ∷ proof_lines proof
wall_lines level (walls.Spent proof) = lines.Wall level outcomes.Spent ∷ proof_lines proof
wall_lines level walls.Size = lines.Wall level outcomes.Size ∷ []

-- how the search with holes allowed ended, with the level of the wall, the number of layers found and the last number of the verdict
abbrev pub bare_lines : (level found last : ℕ) → Bare → List Line
bare_lines level found last bares.Absent = []
bare_lines level found last bares.Same = lines.Bare level bare_outcomes.Same ∷ []
bare_lines level found last (bares.Refuted proof) = lines.Bare last (bare_outcomes.Searched outcomes.Refuted) ∷ proof_lines proof
bare_lines level found last (bares.Spent proof) = lines.Bare last (bare_outcomes.Searched outcomes.Spent) ∷ proof_lines proof
bare_lines level found last bares.Size = lines.Bare last (bare_outcomes.Searched outcomes.Size) ∷ []
bare_lines level found last bares.Open = lines.Bare found bare_outcomes.Open ∷ []

-- the number of layers behind `open`, or 0 where there is no such line
abbrev pub wider_count : Option Layers → ℕ
wider_count None = 0
wider_count (Some wider) = length wider.layers

-- the layers that were found with holes allowed
abbrev pub wider_lines : Option Layers → List Line
wider_lines None = []
wider_lines (Some wider) = lines.Open (length wider.layers) ∷ layer_lines wider.layers

-- a triple with the proof that settles it
abbrev pub triple_lines : TripleProof → List Line
triple_lines t = lines.Triple t.triple (is_some t.proof.last) ∷ proof_lines t.proof

-- a tile with its class
abbrev pub tile_line : Iso × Member → Line
tile_line t = lines.Tile t.0 t.1

-- a line for each tile
abbrev pub tile_lines : List Iso → List Member → List Line
tile_lines places members = map tile_line (zip places members)

-- a lattice and its tiles
abbrev pub cover_lines : Tiling → Classes → List Line
cover_lines tiling classes = lines.Lattice tiling.triple ∷ tile_lines tiling.places classes.members

-- what follows the hole-free coronas, with the level of the wall and the last number of the verdict
abbrev pub after_layers : (level last : ℕ) → Wall → Bare → Option Layers → List TripleProof → List Line
after_layers level last wall bare wider triples =
    wall_lines level wall ++ bare_lines level (wider_count wider) last bare ++ wider_lines wider ++ flat_map triple_lines triples

-- the evidence of an entry with this verdict
abbrev pub evidence_lines : Verdict → Evidence → List Line
evidence_lines verdict (evidences.Cover tiling classes) = cover_lines tiling classes
evidence_lines verdict (evidences.Search free wall bare wider triples) =
    coronas_lines free.layers ++ after_layers (length free.layers + 1) (last_number verdict) wall bare wider triples

-- ---- the parts of a catalogue

-- the shape and the verdict
abbrev pub brief_lines : Entry → List Line
brief_lines e = lines.Shape e.cells ∷ lines.Verdict e.verdict ∷ []

-- the shape, the verdict and the evidence
abbrev pub entry_lines : Entry → List Line
entry_lines e = brief_lines e ++ evidence_lines e.verdict e.evidence

-- the first line
abbrev pub header_text : Header → List ℕ
header_text header = line_text (lines.Header header)

-- an entry with its evidence
abbrev pub entry_text : Entry → List ℕ
entry_text e = text_of (entry_lines e)

-- an entry of a brief text
abbrev pub brief_text : Entry → List ℕ
brief_text e = text_of (brief_lines e)

-- the coronas of an entry
abbrev pub coronas_text : List (List Iso) → List ℕ
coronas_text layers = text_of (coronas_lines layers)

-- the last line, with the number of entries
abbrev pub end_text : ℕ → List ℕ
end_text count = line_text (lines.End count)

-- ---- a whole catalogue

-- an entry under this header: in a brief text without its evidence
abbrev pub text_under : Header → Entry → List ℕ
text_under header e = if header.brief then brief_text e else entry_text e

-- the texts of these entries, one after another
abbrev pub entries_text : Header → List Entry → List ℕ
entries_text header entries = flat_map (text_under header) entries

-- the header's text, the entries' texts and the end's text
abbrev pub catalogue_text : Header → List Entry → List ℕ
catalogue_text header entries = header_text header ++ entries_text header entries ++ end_text (length entries)

-- as much of the catalogue text of so many entries as its first entries decide: the end's text stands behind the last one alone
abbrev pub begun_text : Header → ℕ → List Entry → List ℕ
begun_text header count first = header_text header ++ entries_text header first ++ (if length first == count then end_text count else [])
