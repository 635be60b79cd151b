-- What is read of the lines of an entry is the entry.
use Rattle.std.proofs.Common.{◌≡◌, ℕ, zero, suc, ◌+◌, ◌≤◌, List, [], ◌∷◌, ◌++◌, map, length, Option, Some, None, refl, sym, ap, ◌∙◌, append_assoc, length-append, arith}
use Rattle.std.specs.List.{flat_map}
use Rattle.heesch_grid.specs.declared.isometries.Iso.{Iso}
use Rattle.heesch_grid.specs.Symmetry.{Member}
use Rattle.heesch_grid.specs.declared.Cell.{Cell}
use Rattle.heesch_cert.specs.declared.proof.Step.{Step}
use Rattle.heesch_cert.specs.declared.proof.Step.TheVariants as steps
use Rattle.heesch_cert.specs.declared.proof.Proof.{Proof}
use Rattle.heesch_cert.specs.declared.verdict.Verdict.{Verdict}
use Rattle.heesch_cert.specs.declared.entry.Layers.{Layers}
use Rattle.heesch_cert.specs.declared.entry.Wall.{Wall}
use Rattle.heesch_cert.specs.declared.entry.Wall.TheVariants as walls
use Rattle.heesch_cert.specs.declared.entry.Bare.{Bare}
use Rattle.heesch_cert.specs.declared.entry.Bare.TheVariants as bares
use Rattle.heesch_cert.specs.declared.entry.TripleProof.{TripleProof}
use Rattle.heesch_cert.specs.declared.entry.Evidence.{Evidence}
use Rattle.heesch_cert.specs.declared.entry.Evidence.TheVariants as evidences
use Rattle.heesch_cert.specs.declared.entry.Entry.{Entry}
use Rattle.heesch_text.specs.declared.line.Line.{Line}
use Rattle.heesch_text.specs.declared.line.Line.TheVariants as lines
use Rattle.heesch_cert.specs.TrueEntry.{last_number}
use Rattle.heesch_text.specs.Catalogue.{step_line, last_line, proof_lines, layer_lines, tile_lines, triple_lines, wall_lines, bare_lines, wider_lines, wider_count, after_layers, evidence_lines, entry_lines}
use Rattle.heesch_grammar.specs.Parts.{with_steps, proof_at, behind_proof, layers_at, behind_layers, places_at, members_at, wall_end, wall_at, behind_wall, bare_end, bare_at, behind_bare, open_count, wider_at, behind_wider, few_triples, triples_at, search_of, search_behind, search_at}
use Rattle.heesch_grammar.specs.Entries.{HoldsEvidence, HoldsItsLines}

-- ---- a proof

steps_again : (done : List Step) (last : Option (List ℕ)) (rest : List Line) → proof_at ((map step_line done ++ last_line last ∷ []) ++ rest) ≡ record { steps = done; last = last }
steps_again [] None rest = refl
steps_again [] (Some hints) rest = refl
steps_again (steps.Learn clause hints ∷ done) last rest = ap (λ (p : Proof). with_steps (steps.Learn clause hints ∷ []) p) (steps_again done last rest)
steps_again (steps.Cut cut ∷ done) last rest = ap (λ (p : Proof). with_steps (steps.Cut cut ∷ []) p) (steps_again done last rest)

steps_behind : (done : List Step) (last : Option (List ℕ)) (rest : List Line) → behind_proof ((map step_line done ++ last_line last ∷ []) ++ rest) ≡ rest
steps_behind [] None rest = refl
steps_behind [] (Some hints) rest = refl
steps_behind (steps.Learn clause hints ∷ done) last rest = steps_behind done last rest
steps_behind (steps.Cut cut ∷ done) last rest = steps_behind done last rest

proof_again : (p : Proof) (rest : List Line) → proof_at (proof_lines p ++ rest) ≡ p
proof_again p rest = steps_again p.steps p.last rest

proof_behind : (p : Proof) (rest : List Line) → behind_proof (proof_lines p ++ rest) ≡ rest
proof_behind p rest = steps_behind p.steps p.last rest

-- ---- layers and tiles

layers_again : (layers : List (List Iso)) (rest : List Line) → layers_at (length layers) (layer_lines layers ++ rest) ≡ layers
layers_again [] rest = refl
layers_again (layer ∷ layers) rest = ap (λ (x : List (List Iso)). layer ∷ x) (layers_again layers rest)

layers_behind : (layers : List (List Iso)) (rest : List Line) → behind_layers (length layers) (layer_lines layers ++ rest) ≡ rest
layers_behind [] rest = refl
layers_behind (layer ∷ layers) rest = layers_behind layers rest

tiles_again : (places : List Iso) (members : List Member) → length members ≡ length places → (places_at (tile_lines places members) ≡ places) × (members_at (tile_lines places members) ≡ members)
tiles_again [] [] e = (refl, refl)
tiles_again [] (m ∷ members) e = absurd (omega arith)
tiles_again (p ∷ places) [] e = absurd (omega arith)
tiles_again (p ∷ places) (m ∷ members) e =
    let h = tiles_again places members (omega arith) in
    (ap (λ (x : List Iso). p ∷ x) h.0, ap (λ (x : List Member). m ∷ x) h.1)

-- ---- triples

tail_fits : (front rest : List Line) (n : ℕ) → suc (length (front ++ rest)) ≤ suc n → length rest ≤ n
tail_fits front rest n h = let e = length-append front rest in omega arith

few_again : (ts : List TripleProof) (n : ℕ) → length (flat_map triple_lines ts) ≤ n → few_triples n (flat_map triple_lines ts) ≡ ts
few_again [] zero h = refl
few_again [] (suc n) h = refl
few_again (t ∷ ts) zero h = absurd (omega arith)
few_again (t ∷ ts) (suc n) h =
    let rest = flat_map triple_lines ts in
    let l : length rest ≤ n = tail_fits (proof_lines t.proof) rest n h in
    ap (λ (x : Proof). record { triple = t.triple; proof = x } ∷ few_triples n (behind_proof (proof_lines t.proof ++ rest))) (proof_again t.proof rest)
    ∙ ap (λ (x : List Line). t ∷ few_triples n x) (proof_behind t.proof rest)
    ∙ ap (λ (x : List TripleProof). t ∷ x) (few_again ts n l)

triples_again : (ts : List TripleProof) → triples_at (flat_map triple_lines ts) ≡ ts
triples_again ts = few_again ts (length (flat_map triple_lines ts)) (omega arith)

no_open : (ts : List TripleProof) → open_count (flat_map triple_lines ts) ≡ None
no_open [] = refl
no_open (t ∷ ts) = refl

no_bare : (ts : List TripleProof) → bare_end (flat_map triple_lines ts) ≡ None
no_bare [] = refl
no_bare (t ∷ ts) = refl

no_wall : (ts : List TripleProof) → wall_end (flat_map triple_lines ts) ≡ None
no_wall [] = refl
no_wall (t ∷ ts) = refl

-- ---- layers with holes allowed

wider_again : (w : Option Layers) (ts : List TripleProof) → wider_at (wider_lines w ++ flat_map triple_lines ts) ≡ w
wider_again None ts = rw no_open refl
wider_again (Some w) ts = ap (λ (x : List (List Iso)). Some (record { layers = x })) (layers_again w.layers (flat_map triple_lines ts))

wider_behind : (w : Option Layers) (ts : List TripleProof) → behind_wider (wider_lines w ++ flat_map triple_lines ts) ≡ flat_map triple_lines ts
wider_behind None ts = rw no_open refl
wider_behind (Some w) ts = layers_behind w.layers (flat_map triple_lines ts)

wider_no_bare : (w : Option Layers) (ts : List TripleProof) → bare_end (wider_lines w ++ flat_map triple_lines ts) ≡ None
wider_no_bare None ts = no_bare ts
wider_no_bare (Some w) ts = refl

wider_no_wall : (w : Option Layers) (ts : List TripleProof) → wall_end (wider_lines w ++ flat_map triple_lines ts) ≡ None
wider_no_wall None ts = no_wall ts
wider_no_wall (Some w) ts = refl

-- ---- a search with holes allowed

bare_again : (level found last : ℕ) (b : Bare) (rest : List Line) → bare_end rest ≡ None → bare_at (bare_lines level found last b ++ rest) ≡ b
bare_again level found last bares.Absent rest e = rw e refl
bare_again level found last bares.Same rest e = refl
bare_again level found last (bares.Refuted proof) rest e = ap bares.Refuted (proof_again proof rest)
bare_again level found last (bares.Spent proof) rest e = ap bares.Spent (proof_again proof rest)
bare_again level found last bares.Size rest e = refl
bare_again level found last bares.Open rest e = refl

bare_behind : (level found last : ℕ) (b : Bare) (rest : List Line) → bare_end rest ≡ None → behind_bare (bare_lines level found last b ++ rest) ≡ rest
bare_behind level found last bares.Absent rest e = rw e refl
bare_behind level found last bares.Same rest e = refl
bare_behind level found last (bares.Refuted proof) rest e = proof_behind proof rest
bare_behind level found last (bares.Spent proof) rest e = proof_behind proof rest
bare_behind level found last bares.Size rest e = refl
bare_behind level found last bares.Open rest e = refl

bare_no_wall : (level found last : ℕ) (b : Bare) (rest : List Line) → wall_end rest ≡ None → wall_end (bare_lines level found last b ++ rest) ≡ None
bare_no_wall level found last bares.Absent rest e = e
bare_no_wall level found last b rest e = refl

-- ---- a wall

wall_again : (level : ℕ) (w : Wall) (rest : List Line) → wall_end rest ≡ None → wall_at (wall_lines level w ++ rest) ≡ w
wall_again level walls.Absent rest e = rw e refl
wall_again level (walls.Refuted proof) rest e = ap walls.Refuted (proof_again proof rest)
wall_again level (walls.Spent proof) rest e = ap walls.Spent (proof_again proof rest)
wall_again level walls.Size rest e = refl

wall_behind : (level : ℕ) (w : Wall) (rest : List Line) → wall_end rest ≡ None → behind_wall (wall_lines level w ++ rest) ≡ rest
wall_behind level walls.Absent rest e = rw e refl
wall_behind level (walls.Refuted proof) rest e = proof_behind proof rest
wall_behind level (walls.Spent proof) rest e = proof_behind proof rest
wall_behind level walls.Size rest e = refl

-- ---- the evidence

-- what is read behind a verdict; a search without anything where there is neither a lattice nor a coronas line
evidence_at : Verdict → List Line → Evidence
evidence_at verdict (lines.Lattice triple ∷ ls) = evidences.Cover (record { triple = triple; places = places_at ls }) (record { count = last_number verdict; members = members_at ls })
evidence_at verdict (lines.Coronas count ∷ ls) = search_at count ls
evidence_at verdict ls = evidences.Search (record { layers = [] }) walls.Absent bares.Absent None []

-- a search is read where each of its parts is
parts_again : (layers : List (List Iso)) (ls walled bared opened : List Line) (wall : Wall) (bare : Bare) (wider : Option Layers) (ts : List TripleProof)
    → wall_at ls ≡ wall → behind_wall ls ≡ walled → bare_at walled ≡ bare → behind_bare walled ≡ bared → wider_at bared ≡ wider → behind_wider bared ≡ opened → triples_at opened ≡ ts
    → search_behind layers ls ≡ evidences.Search (record { layers = layers }) wall bare wider ts
parts_again layers ls walled bared opened wall bare wider ts a b c d e f g =
    ap (λ (x : List Line). search_of layers ls x (behind_bare x) (behind_wider (behind_bare x))) b
    ∙ ap (λ (x : List Line). search_of layers ls walled x (behind_wider x)) d
    ∙ ap (λ (x : List Line). search_of layers ls walled bared x) f
    ∙ ap (λ (x : Wall). evidences.Search (record { layers = layers }) x (bare_at walled) (wider_at bared) (triples_at opened)) a
    ∙ ap (λ (x : Bare). evidences.Search (record { layers = layers }) wall x (wider_at bared) (triples_at opened)) c
    ∙ ap (λ (x : Option Layers). evidences.Search (record { layers = layers }) wall bare x (triples_at opened)) e
    ∙ ap (λ (x : List TripleProof). evidences.Search (record { layers = layers }) wall bare wider x) g

after_again : (level last : ℕ) (layers : List (List Iso)) (wall : Wall) (bare : Bare) (wider : Option Layers) (ts : List TripleProof)
    → search_behind layers (after_layers level last wall bare wider ts) ≡ evidences.Search (record { layers = layers }) wall bare wider ts
after_again level last layers wall bare wider ts =
    let t = flat_map triple_lines ts in
    let o = wider_lines wider ++ t in
    let b = bare_lines level (wider_count wider) last bare ++ o in
    let all : after_layers level last wall bare wider ts ≡ wall_lines level wall ++ b = simp append_assoc in
    let nb = wider_no_bare wider ts in
    let nw = bare_no_wall level (wider_count wider) last bare o (wider_no_wall wider ts) in
    ap (λ (x : List Line). search_behind layers x) all
    ∙ parts_again layers (wall_lines level wall ++ b) b o t wall bare wider ts
    (wall_again level wall b nw) (wall_behind level wall b nw) (bare_again level (wider_count wider) last bare o nb) (bare_behind level (wider_count wider) last bare o nb)
    (wider_again wider ts) (wider_behind wider ts) (triples_again ts)

search_again : (count last : ℕ) (layers : List (List Iso)) (wall : Wall) (bare : Bare) (wider : Option Layers) (ts : List TripleProof)
    → search_at (length layers) (layer_lines layers ++ after_layers count last wall bare wider ts) ≡ evidences.Search (record { layers = layers }) wall bare wider ts
search_again count last layers wall bare wider ts =
    let rest = after_layers count last wall bare wider ts in
    ap (λ (x : List (List Iso)). search_behind x (behind_layers (length layers) (layer_lines layers ++ rest))) (layers_again layers rest)
    ∙ ap (λ (x : List Line). search_behind layers x) (layers_behind layers rest)
    ∙ after_again count last layers wall bare wider ts

evidence_again : (verdict : Verdict) (e : Evidence) → HoldsEvidence verdict e → evidence_at verdict (evidence_lines verdict e) ≡ e
unfolding evidence_at
evidence_again verdict (evidences.Cover tiling classes) h =
    let t = tiles_again tiling.places classes.members h.1 in
    ap (λ (x : List Iso). evidences.Cover (record { triple = tiling.triple; places = x }) (record { count = last_number verdict; members = members_at (tile_lines tiling.places classes.members) })) t.0
    ∙ ap (λ (x : List Member). evidences.Cover tiling (record { count = last_number verdict; members = x })) t.1
    ∙ ap (λ (x : ℕ). evidences.Cover tiling (record { count = x; members = classes.members })) (sym h.0)
evidence_again verdict (evidences.Search free wall bare wider triples) h = search_again (length free.layers + 1) (last_number verdict) free.layers wall bare wider triples

same_evidence : (v w : Verdict) (x y : Evidence) → HoldsEvidence v x → HoldsEvidence w y → v ≡ w → evidence_lines v x ≡ evidence_lines w y → x ≡ y
same_evidence v w x y hx hy e l =
    let a : evidence_at v (evidence_lines v x) ≡ evidence_at w (evidence_lines w y) = cc in
    let b = evidence_again v x hx in
    let c = evidence_again w y hy in
    cc

made : List Cell → Verdict → Evidence → Entry
made cells verdict evidence = record { cells = cells; verdict = verdict; evidence = evidence }

-- two entries that hold nothing beyond their lines, and have the same lines, are the same
pub same_entry : (d e : Entry) → HoldsItsLines d → HoldsItsLines e → entry_lines d ≡ entry_lines e → d ≡ e
unfolding made
same_entry d e hd he s =
    let c : d.cells ≡ e.cells = cc in
    let v : d.verdict ≡ e.verdict = cc in
    let l : evidence_lines d.verdict d.evidence ≡ evidence_lines e.verdict e.evidence = cc in
    let x : d.evidence ≡ e.evidence = same_evidence d.verdict e.verdict d.evidence e.evidence hd he v l in
    let all : made d.cells d.verdict d.evidence ≡ made e.cells e.verdict e.evidence = cc in
    all
