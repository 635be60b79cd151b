-- The lines of an entry: its shape, and lines inside it.
use Rattle.std.proofs.Common.{◌≡◌, ℕ, ◌+◌, List, [], ◌∷◌, ◌++◌, map, length, Option, Some, None, refl}
use Rattle.std.specs.List.{AllByRecursion, flat_map}
use Rattle.heesch_grid.specs.declared.isometries.Iso.{Iso}
use Rattle.heesch_grid.specs.Symmetry.{Member}
use Rattle.heesch_cert.specs.declared.proof.Step.{Step}
use Rattle.heesch_cert.specs.declared.proof.Step.TheVariants as steps
use Rattle.heesch_cert.specs.declared.proof.Proof.{Proof}
use Rattle.heesch_cert.specs.declared.verdict.Verdict.{Verdict}
use Rattle.heesch_cert.specs.declared.entry.Layers.{Layers}
use Rattle.heesch_cert.specs.declared.entry.Wall.{Wall}
use Rattle.heesch_cert.specs.declared.entry.Wall.TheVariants as walls
use Rattle.heesch_cert.specs.declared.entry.Bare.{Bare}
use Rattle.heesch_cert.specs.declared.entry.Bare.TheVariants as bares
use Rattle.heesch_cert.specs.declared.entry.TripleProof.{TripleProof}
use Rattle.heesch_cert.specs.declared.entry.Evidence.{Evidence}
use Rattle.heesch_cert.specs.declared.entry.Evidence.TheVariants as evidences
use Rattle.heesch_cert.specs.declared.entry.Entry.{Entry}
use Rattle.heesch_text.specs.declared.line.Line.{Line}
use Rattle.heesch_text.specs.declared.line.Line.TheVariants as lines
use Rattle.heesch_cert.specs.TrueEntry.{last_number}
use Rattle.heesch_text.specs.Catalogue.{step_line, last_line, proof_lines, layer_lines, wall_lines, bare_lines, wider_lines, wider_count, triple_lines, tile_lines, evidence_lines, entry_lines}
use Rattle.heesch_reader.specs.Feeding.{IsInside}
use Rattle.heesch_reader.proofs.Walking.{all_append}

-- the line stands behind an entry's verdict
abbrev pub IsEvidence : Line → Type 0
IsEvidence (lines.Header header) = ⊥
IsEvidence (lines.Shape cells) = ⊥
IsEvidence (lines.Verdict verdict) = ⊥
IsEvidence (lines.End count) = ⊥
IsEvidence line = Unit {0}

abbrev Inside : List Line → Type 0
Inside ls = AllByRecursion IsEvidence ls

steps_inside : (done : List Step) → Inside (map step_line done)
steps_inside [] = tt
steps_inside (steps.Learn clause hints ∷ done) = (tt, steps_inside done)
steps_inside (steps.Cut cut ∷ done) = (tt, steps_inside done)

last_inside : (last : Option (List ℕ)) → IsEvidence (last_line last)
last_inside None = tt
last_inside (Some hints) = tt

proof_inside : (p : Proof) → Inside (proof_lines p)
proof_inside p = all_append IsEvidence (map step_line p.steps) (last_line p.last ∷ []) (steps_inside p.steps) (last_inside p.last, tt)

layers_inside : (layers : List (List Iso)) → Inside (layer_lines layers)
layers_inside [] = tt
layers_inside (layer ∷ layers) = (tt, layers_inside layers)

wall_inside : (level : ℕ) (wall : Wall) → Inside (wall_lines level wall)
wall_inside level walls.Absent = tt
wall_inside level (walls.Refuted proof) = (tt, proof_inside proof)
wall_inside level (walls.Spent proof) = (tt, proof_inside proof)
wall_inside level walls.Size = (tt, tt)

bare_inside : (level found last : ℕ) (bare : Bare) → Inside (bare_lines level found last bare)
bare_inside level found last bares.Absent = tt
bare_inside level found last bares.Same = (tt, tt)
bare_inside level found last (bares.Refuted proof) = (tt, proof_inside proof)
bare_inside level found last (bares.Spent proof) = (tt, proof_inside proof)
bare_inside level found last bares.Size = (tt, tt)
bare_inside level found last bares.Open = (tt, tt)

wider_inside : (wider : Option Layers) → Inside (wider_lines wider)
wider_inside None = tt
wider_inside (Some wider) = (tt, layers_inside wider.layers)

triples_inside : (triples : List TripleProof) → Inside (flat_map triple_lines triples)
triples_inside [] = tt
triples_inside (t ∷ triples) = all_append IsEvidence (triple_lines t) (flat_map triple_lines triples) (tt, proof_inside t.proof) (triples_inside triples)

tiles_inside : (places : List Iso) (members : List Member) → Inside (tile_lines places members)
tiles_inside [] members = tt
tiles_inside (place ∷ places) [] = tt
tiles_inside (place ∷ places) (member ∷ members) = (tt, tiles_inside places members)

pub evidence_inside : (verdict : Verdict) (evidence : Evidence) → Inside (evidence_lines verdict evidence)
evidence_inside verdict (evidences.Cover tiling classes) = (tt, tiles_inside tiling.places classes.members)
evidence_inside verdict (evidences.Search free wall bare wider triples) =
    let level = length free.layers + 1 in
    let a = wall_inside level wall in
    let b = bare_inside level (wider_count wider) (last_number verdict) bare in
    let c = wider_inside wider in
    let d = triples_inside triples in
    let ab = all_append IsEvidence (wall_lines level wall) (bare_lines level (wider_count wider) (last_number verdict) bare) a b in
    let abc = all_append IsEvidence (wall_lines level wall ++ bare_lines level (wider_count wider) (last_number verdict) bare) (wider_lines wider) ab c in
    let abcd = all_append IsEvidence ((wall_lines level wall ++ bare_lines level (wider_count wider) (last_number verdict) bare) ++ wider_lines wider) (flat_map triple_lines triples) abc d in
    (tt, all_append IsEvidence (layer_lines free.layers) _ (layers_inside free.layers) abcd)

-- the lines behind an entry's shape
abbrev pub body_lines : Entry → List Line
body_lines e = lines.Verdict e.verdict ∷ evidence_lines e.verdict e.evidence

pub entry_shape : (e : Entry) → entry_lines e ≡ lines.Shape e.cells ∷ body_lines e
entry_shape e = refl

one_inside : (line : Line) → IsEvidence line → IsInside line
one_inside (lines.Header header) e = e
one_inside (lines.Shape cells) e = e
one_inside (lines.Verdict verdict) e = tt
one_inside (lines.End count) e = e
one_inside line e = tt

all_inside : (ls : List Line) → AllByRecursion IsEvidence ls → AllByRecursion IsInside ls
all_inside [] h = tt
all_inside (line ∷ ls) h = (one_inside line h.0, all_inside ls h.1)

pub body_inside : (e : Entry) → AllByRecursion IsInside (body_lines e)
body_inside e = (tt, all_inside (evidence_lines e.verdict e.evidence) (evidence_inside e.verdict e.evidence))

-- an entry has more lines than its shape and its verdict
pub not_brief : (verdict : Verdict) (evidence : Evidence) → evidence_lines verdict evidence ≡ [] → ⊥
not_brief verdict (evidences.Cover tiling classes) e = absurd cc
not_brief verdict (evidences.Search free wall bare wider triples) e = absurd cc
