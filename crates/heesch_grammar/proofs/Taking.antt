-- The parts at the front of lines, line by line.
use Rattle.std.proofs.Common.{◌≡◌, ℕ, zero, suc, ◌≤◌, ◌<◌, Bool, List, [], ◌∷◌, ◌++◌, length, Some, refl, sym, ap, ◌∙◌, append_assoc, arith}
use Rattle.std.proofs.lemmas.List.{append-nil}
use Rattle.heesch_cert.specs.declared.proof.Proof.{Proof}
use Rattle.heesch_grid.specs.declared.isometries.Iso.{Iso}
use Rattle.heesch_grid.specs.Lattice.{Triple}
use Rattle.heesch_cert.specs.declared.entry.TripleProof.{TripleProof}
use Rattle.heesch_text.specs.declared.line.Line.{Line}
use Rattle.heesch_text.specs.declared.line.Line.TheVariants as lines
use Rattle.heesch_grammar.specs.Parts.{layers_at, behind_layers, proof_at, behind_proof, few_triples, triples_at, triple_of}

pub layers_step : (n m : ℕ) (places : List Iso) (ls : List Line) → n ≡ suc m → layers_at n (lines.Layer places ∷ ls) ≡ places ∷ layers_at m ls
layers_step n m places ls e = rw e refl

pub behind_layers_step : (n m : ℕ) (places : List Iso) (ls : List Line) → n ≡ suc m → behind_layers n (lines.Layer places ∷ ls) ≡ behind_layers m ls
behind_layers_step n m places ls e = rw e refl

-- what is behind a proof isn't longer
pub behind_shorter : (ls : List Line) → length (behind_proof ls) ≤ length ls
behind_shorter [] = omega arith
behind_shorter (lines.Learn clause hints ∷ ls) = let h = behind_shorter ls in omega arith
behind_shorter (lines.Cut cut ∷ ls) = let h = behind_shorter ls in omega arith
behind_shorter (line ∷ ls) = omega arith

-- as many triples are found with any number of them that is at least the number of lines
pub few_enough : (n m : ℕ) (ls : List Line) → length ls ≤ n → length ls ≤ m → few_triples n ls ≡ few_triples m ls
few_enough zero zero ls h k = refl
few_enough zero (suc m) [] h k = refl
few_enough zero (suc m) (line ∷ ls) h k = absurd (omega arith)
few_enough (suc n) zero [] h k = refl
few_enough (suc n) zero (line ∷ ls) h k = absurd (omega arith)
few_enough (suc n) (suc m) [] h k = refl
few_enough (suc n) (suc m) (lines.Triple triple refuted ∷ ls) h k =
    let s = behind_shorter ls in
    ap (λ (x : List TripleProof). record { triple = triple; proof = proof_at ls } ∷ x) (few_enough n m (behind_proof ls) (omega arith) (omega arith))
few_enough (suc n) (suc m) (line ∷ ls) h k = refl

pub triples_step : (triple : Triple) (refuted : Bool) (ls : List Line) → triples_at (lines.Triple triple refuted ∷ ls) ≡ record { triple = triple; proof = proof_at ls } ∷ triples_at (behind_proof ls)
triples_step triple refuted ls =
    let s = behind_shorter ls in
    ap (λ (x : List TripleProof). record { triple = triple; proof = proof_at ls } ∷ x) (few_enough (length ls) (length (behind_proof ls)) (behind_proof ls) s (omega arith))

-- ---- one more item of a loop

other_layers : (m : ℕ) (line : Line) (rest : List Line) → ((x : List Iso) → line ≡ lines.Layer x → ⊥) → (layers_at (suc m) (line ∷ rest) ≡ []) × (behind_layers (suc m) (line ∷ rest) ≡ rest)
other_layers m (lines.Layer x) rest h = absurd (h x refl)
other_layers m line rest h = (refl, refl)

pub layers_stop : (whole done : List (List Iso)) (behind items rest : List Line) (line : Line) (k m : ℕ) → items ≡ line ∷ rest → ((x : List Iso) → line ≡ lines.Layer x → ⊥) → k ≡ suc m
    → done ++ layers_at k items ≡ whole → behind_layers k items ≡ behind → (done ≡ whole) × (rest ≡ behind)
layers_stop whole done behind items rest line k m i o e h b =
    let n = other_layers m line rest o in
    let l : layers_at k items ≡ [] = ap (λ (x : List Line). layers_at k x) i ∙ ap (λ (x : ℕ). layers_at x (line ∷ rest)) e ∙ n.0 in
    let r : behind_layers k items ≡ rest = ap (λ (x : List Line). behind_layers k x) i ∙ ap (λ (x : ℕ). behind_layers x (line ∷ rest)) e ∙ n.1 in
    (sym (append-nil done) ∙ ap (λ (x : List (List Iso)). done ++ x) (sym l) ∙ h, sym r ∙ b)

pub layers_more : (whole done new : List (List Iso)) (places : List Iso) (items rest : List Line) (line : Line) (k m : ℕ) → items ≡ line ∷ rest → line ≡ lines.Layer places → k ≡ suc m
    → new ≡ done ++ places ∷ [] → done ++ layers_at k items ≡ whole → new ++ layers_at m rest ≡ whole
layers_more whole done new places items rest line k m i l e n h =
    let q : layers_at k items ≡ places ∷ layers_at m rest = ap (λ (x : List Line). layers_at k x) (i ∙ ap (λ (x : Line). x ∷ rest) l) ∙ layers_step k m places rest e in
    ap (λ (x : List (List Iso)). x ++ layers_at m rest) n ∙ append_assoc done (places ∷ []) (layers_at m rest) ∙ ap (λ (x : List (List Iso)). done ++ x) (sym q) ∙ h

pub behind_more : (behind : List Line) (places : List Iso) (items rest : List Line) (line : Line) (k m : ℕ) → items ≡ line ∷ rest → line ≡ lines.Layer places → k ≡ suc m
    → behind_layers k items ≡ behind → behind_layers m rest ≡ behind
behind_more behind places items rest line k m i l e h =
    sym (ap (λ (x : List Line). behind_layers k x) (i ∙ ap (λ (x : Line). x ∷ rest) l) ∙ behind_layers_step k m places rest e) ∙ h

triple_here : (triple : Triple) (line : Line) (rest : List Line) → triple_of line ≡ Some triple → triples_at (line ∷ rest) ≡ record { triple = triple; proof = proof_at rest } ∷ triples_at (behind_proof rest)
triple_here triple (lines.Triple t refuted) rest e = let same : t ≡ triple = cc in triples_step t refuted rest ∙ ap (λ (x : Triple). record { triple = x; proof = proof_at rest } ∷ triples_at (behind_proof rest)) same
triple_here triple line rest e = absurd cc

pub triples_more : (whole done new : List TripleProof) (triple : Triple) (proof : Proof) (items rest after : List Line) (line : Line) → items ≡ line ∷ rest → triple_of line ≡ Some triple → proof ≡ proof_at rest
    → after ≡ behind_proof rest → new ≡ done ++ record { triple = triple; proof = proof } ∷ [] → done ++ triples_at items ≡ whole → new ++ triples_at after ≡ whole
triples_more whole done new triple proof items rest after line i t p a n h =
    let q : triples_at items ≡ record { triple = triple; proof = proof } ∷ triples_at after =
    ap triples_at i ∙ triple_here triple line rest t ∙ ap (λ (x : List Line). record { triple = triple; proof = proof_at rest } ∷ triples_at x) (sym a)
    ∙ ap (λ (x : Proof). record { triple = triple; proof = x } ∷ triples_at after) (sym p) in
    ap (λ (x : List TripleProof). x ++ triples_at after) n ∙ append_assoc done (record { triple = triple; proof = proof } ∷ []) (triples_at after) ∙ ap (λ (x : List TripleProof). done ++ x) (sym q) ∙ h

pub triples_shorter : (items rest after : List Line) (line : Line) → items ≡ line ∷ rest → after ≡ behind_proof rest → length after < length items
triples_shorter items rest after line i a =
    let s = behind_shorter rest in
    let n : length items ≡ suc (length rest) = ap length i in
    let m : length after ≡ length (behind_proof rest) = ap length a in
    omega arith
