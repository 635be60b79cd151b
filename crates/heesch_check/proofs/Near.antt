-- An entry whose lines have the forms of a catalogue's lies near 0.
use Rattle.std.proofs.Common.{◌≡◌, ℕ, zero, suc, ◌+◌, List, [], ◌∷◌, ◌++◌, map, length, Option, Some, None, All, arith}
use Rattle.std.specs.List.{AllByRecursion, flat_map}
use Rattle.heesch_grid.specs.declared.isometries.Iso.{Iso}
use Rattle.heesch_grid.specs.Symmetry.{Member}
use Rattle.heesch_grid.specs.Vectors.{IsWithin}
use Rattle.heesch_cert.specs.declared.proof.Step.{Step}
use Rattle.heesch_cert.specs.declared.proof.Step.TheVariants as steps
use Rattle.heesch_cert.specs.declared.proof.Proof.{Proof}
use Rattle.heesch_cert.specs.declared.verdict.Verdict.{Verdict}
use Rattle.heesch_cert.specs.declared.entry.Layers.{Layers}
use Rattle.heesch_cert.specs.declared.entry.Wall.{Wall}
use Rattle.heesch_cert.specs.declared.entry.Wall.TheVariants as walls
use Rattle.heesch_cert.specs.declared.entry.Bare.{Bare}
use Rattle.heesch_cert.specs.declared.entry.Bare.TheVariants as bares
use Rattle.heesch_cert.specs.declared.entry.TripleProof.{TripleProof}
use Rattle.heesch_cert.specs.declared.entry.Evidence.{Evidence}
use Rattle.heesch_cert.specs.declared.entry.Evidence.TheVariants as evidences
use Rattle.heesch_cert.specs.declared.entry.Entry.{Entry}
use Rattle.heesch_text.specs.declared.line.Line.{Line}
use Rattle.heesch_cert.specs.TrueEntry.{last_number}
use Rattle.heesch_text.specs.Catalogue.{step_line, last_line, proof_lines, layer_lines, wall_lines, bare_lines, wider_lines, wider_count, triple_lines, tile_lines, evidence_lines, entry_lines}
use Rattle.heesch_line.specs.Forms.{IsLine, IsPlace}
use Rattle.heesch_grammar.specs.Entries.{HoldsEvidence, HoldsItsLines}
use Rattle.heesch_audit.specs.Near.{IsNearWider, IsNearWall, IsNearBare, IsNearEvidence, IsNearEntry}
use Rattle.heesch_logs.specs.Near.{IsNearIso, AreNearLayers, IsNearStep, IsNearProof}

abbrev Fit : List Line → Type 0
Fit ls = AllByRecursion IsLine ls

left : (xs ys : List Line) → Fit (xs ++ ys) → Fit xs
left [] ys h = tt
left (x ∷ xs) ys h = (h.0, left xs ys h.1)

right : (xs ys : List Line) → Fit (xs ++ ys) → Fit ys
right [] ys h = h
right (x ∷ xs) ys h = right xs ys h.1

-- what holds of each item holds of each place
each : {X : Type 0} (P Q : X → Type 0) → ((x : X) → P x → Q x) → (xs : List X) → AllByRecursion P xs → All Q xs
each P Q f [] h i d lt = absurd (omega (arith, lt))
each P Q f (x ∷ xs) h zero d lt = f x h.0
each P Q f (x ∷ xs) h (suc i) d lt = each P Q f xs h.1 i d (omega (arith, lt))

one_more : {X : Type 0} (Q : X → Type 0) (x : X) (xs : List X) → Q x → All Q xs → All Q (x ∷ xs)
one_more Q x xs q h zero d lt = q
one_more Q x xs q h (suc i) d lt = h i d (omega (arith, lt))

none_yet : {X : Type 0} (Q : X → Type 0) → All Q []
none_yet Q i d lt = absurd (omega (arith, lt))

place_near : (by : Iso) → IsPlace by → IsNearIso by
place_near by p = record { a_low = p.da_range.0; a_high = p.da_range.1; b_low = p.db_range.0; b_high = p.db_range.1 }

-- ---- the parts of evidence

steps_near : (done : List Step) → Fit (map step_line done) → All IsNearStep done
steps_near [] f = none_yet IsNearStep
steps_near (steps.Learn clause hints ∷ done) f = one_more IsNearStep (steps.Learn clause hints) done tt (steps_near done f.1)
steps_near (steps.Cut cut ∷ done) f = one_more IsNearStep (steps.Cut cut) done (each (IsWithin 100000) (IsWithin 100000) (λ c h. h) cut.hole f.0.1.each) (steps_near done f.1)

pub proof_near : (p : Proof) → Fit (proof_lines p) → IsNearProof p
proof_near p f = steps_near p.steps (left (map step_line p.steps) (last_line p.last ∷ []) f)

pub layers_near : (layers : List (List Iso)) → Fit (layer_lines layers) → AreNearLayers layers
layers_near [] f = none_yet (All IsNearIso)
layers_near (layer ∷ layers) f = one_more (All IsNearIso) layer layers (each IsPlace IsNearIso place_near layer f.0.each) (layers_near layers f.1)

wall_near : (level : ℕ) (wall : Wall) → Fit (wall_lines level wall) → IsNearWall wall
wall_near level walls.Absent f = tt
wall_near level (walls.Refuted proof) f = proof_near proof f.1
wall_near level (walls.Spent proof) f = proof_near proof f.1
wall_near level walls.Size f = tt

bare_near : (level found last : ℕ) (bare : Bare) → Fit (bare_lines level found last bare) → IsNearBare bare
bare_near level found last bares.Absent f = tt
bare_near level found last bares.Same f = tt
bare_near level found last (bares.Refuted proof) f = proof_near proof f.1
bare_near level found last (bares.Spent proof) f = proof_near proof f.1
bare_near level found last bares.Size f = tt
bare_near level found last bares.Open f = tt

wider_near : (wider : Option Layers) → Fit (wider_lines wider) → IsNearWider wider
wider_near None f = tt
wider_near (Some wider) f = layers_near wider.layers f.1

triples_near : (triples : List TripleProof) → Fit (flat_map triple_lines triples) → All (λ (x : TripleProof). IsNearProof x.proof) triples
triples_near [] f = none_yet (λ (x : TripleProof). IsNearProof x.proof)
triples_near (t ∷ triples) f =
    one_more (λ (x : TripleProof). IsNearProof x.proof) t triples (proof_near t.proof (left (triple_lines t) (flat_map triple_lines triples) f).1)
    (triples_near triples (right (triple_lines t) (flat_map triple_lines triples) f))

places_near : (places : List Iso) (members : List Member) → length members ≡ length places → Fit (tile_lines places members) → All IsNearIso places
places_near [] members many f = none_yet IsNearIso
places_near (place ∷ places) [] many f = absurd (omega (arith, many))
places_near (place ∷ places) (member ∷ members) many f = one_more IsNearIso place places (place_near place f.0.0) (places_near places members (omega (arith, many)) f.1)

members_near : (places : List Iso) (members : List Member) → length members ≡ length places → Fit (tile_lines places members) → All (λ (member : Member). IsNearIso member.by) members
members_near places [] many f = none_yet (λ (member : Member). IsNearIso member.by)
members_near [] (member ∷ members) many f = absurd (omega (arith, many))
members_near (place ∷ places) (member ∷ members) many f =
    one_more (λ (member : Member). IsNearIso member.by) member members (place_near member.by f.0.2) (members_near places members (omega (arith, many)) f.1)

evidence_near : (verdict : Verdict) (evidence : Evidence) → HoldsEvidence verdict evidence → Fit (evidence_lines verdict evidence) → IsNearEvidence evidence
evidence_near verdict (evidences.Cover tiling classes) holds f =
    (places_near tiling.places classes.members holds.1 f.1, members_near tiling.places classes.members holds.1 f.1)
evidence_near verdict (evidences.Search free wall bare wider triples) holds f =
    let walled = wall_lines (length free.layers + 1) wall in
    let bared = bare_lines (length free.layers + 1) (wider_count wider) (last_number verdict) bare in
    let behind = right (layer_lines free.layers) (walled ++ bared ++ wider_lines wider ++ flat_map triple_lines triples) f.1 in
    let three = left (walled ++ bared ++ wider_lines wider) (flat_map triple_lines triples) behind in
    let two = left (walled ++ bared) (wider_lines wider) three in (
      layers_near free.layers (left (layer_lines free.layers) (walled ++ bared ++ wider_lines wider ++ flat_map triple_lines triples) f.1),
      wall_near (length free.layers + 1) wall (left walled bared two),
      bare_near (length free.layers + 1) (wider_count wider) (last_number verdict) bare (right walled bared two),
      wider_near wider (right (walled ++ bared) (wider_lines wider) three),
      triples_near triples (right (walled ++ bared ++ wider_lines wider) (flat_map triple_lines triples) behind),
    )

pub entry_near : (e : Entry) → HoldsItsLines e → Fit (entry_lines e) → IsNearEntry e
entry_near e holds f = record {
  cells = each (IsWithin 100000) (IsWithin 100000) (λ c h. h) e.cells f.0.each;
  evidence = evidence_near e.verdict e.evidence holds f.1.1;
}
