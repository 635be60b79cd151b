-- Layers and proofs, line by line.
use Rattle.std.proofs.Common.{◌≡◌, ◌≢◌, ℕ, List, [], ◌∷◌, ◌++◌, map, MatchOption, Option, Some, None, refl, sym, ap, ◌∙◌, append_assoc}
use Rattle.std.proofs.lemmas.List.{append-nil, map-append}
use Rattle.heesch_grid.specs.declared.isometries.Iso.{Iso}
use Rattle.heesch_cnf.specs.declared.literal.Lit.{Lit}
use Rattle.heesch_cert.specs.declared.proof.Cut.{Cut}
use Rattle.heesch_cert.specs.declared.proof.Proof.{Proof}
use Rattle.heesch_cert.specs.declared.proof.Step.{Step}
use Rattle.heesch_cert.specs.declared.proof.Step.TheVariants as steps
use Rattle.heesch_text.specs.declared.line.Line.{Line}
use Rattle.heesch_text.specs.declared.line.Line.TheVariants as lines
use Rattle.heesch_text.specs.Catalogue.{last_line, layer_lines, proof_lines, step_line}

-- one more item, whose line comes next
pub item_more : {X : Type 0} (text : X → Line) (done : List X) (x : X) (whole items rest : List Line) (line : Line) → items ≡ line ∷ rest → line ≡ text x → whole ≡ map text done ++ items
    → whole ≡ map text (done ++ x ∷ []) ++ rest
item_more text done x whole items rest line i l e =
    e ∙ ap (λ (y : List Line). map text done ++ y) (i ∙ ap (λ (y : Line). y ∷ rest) l)
    ∙ sym (append_assoc (map text done) (text x ∷ []) rest)
    ∙ ap (λ (y : List Line). y ++ rest) (sym (map-append text done (x ∷ [])))

-- ---- layers

pub not_layers : (done layers : List (List Iso)) (line : Line) (rest : List Line) → ((places : List Iso) → line ≡ lines.Layer places → ⊥) → layer_lines done ++ line ∷ rest ≡ layer_lines layers → ⊥
not_layers [] [] line rest other e = absurd cc
not_layers [] (places ∷ layers) line rest other e = other places cc
not_layers (d ∷ done) [] line rest other e = absurd cc
not_layers (d ∷ done) (places ∷ layers) line rest other e = not_layers done layers line rest other cc

pub no_layers : (done layers : List (List Iso)) (line : Line) (items rest whole : List Line) → items ≡ line ∷ rest → ((places : List Iso) → line ≡ lines.Layer places → ⊥) → whole ≡ layer_lines done ++ items
    → whole ≡ layer_lines layers → ⊥
no_layers done layers line items rest whole i other w e = not_layers done layers line rest other (ap (λ (x : List Line). layer_lines done ++ x) (sym i) ∙ sym w ∙ e)

pub layers_same : (layers other : List (List Iso)) → layer_lines layers ≡ layer_lines other → layers ≡ other
layers_same [] [] e = refl
layers_same [] (o ∷ other) e = absurd cc
layers_same (l ∷ layers) [] e = absurd cc
layers_same (l ∷ layers) (o ∷ other) e =
    let first : l ≡ o = cc in
    let others : layers ≡ other = layers_same layers other cc in
    cc

-- ---- proofs

-- the line is none of a step
abbrev pub IsNoStep : Line → Type 0
IsNoStep line = (step : Step) → line ≡ step_line step → ⊥

pub no_step : (line : Line) → ((clause : List Lit) (hints : List ℕ) → line ≡ lines.Learn clause hints → ⊥) → ((cut : Cut) → line ≡ lines.Cut cut → ⊥) → IsNoStep line
no_step line learn cut (steps.Learn clause hints) e = learn clause hints e
no_step line learn cut (steps.Cut c) e = cut c e

last_is_no_step : (last : Option (List ℕ)) → IsNoStep (last_line last)
last_is_no_step None (steps.Learn clause hints) e = absurd cc
last_is_no_step None (steps.Cut cut) e = absurd cc
last_is_no_step (Some h) (steps.Learn clause hints) e = absurd cc
last_is_no_step (Some h) (steps.Cut cut) e = absurd cc

abbrev made : List Step → Option (List ℕ) → Proof
made done last = record { steps = done; last = last }

-- behind the lines of steps, a line of no step is the last one
ends_so : (done others : List Step) (last : Option (List ℕ)) (line : Line) (rest : List Line) → IsNoStep line → map step_line done ++ line ∷ rest ≡ proof_lines (made others last) → (line ≡ last_line last) × (rest ≡ [])
ends_so [] [] last line rest stepless e =
    let first : line ≡ last_line last = cc in
    let others : rest ≡ [] = cc in
    (first, others)
ends_so [] (o ∷ others) last line rest stepless e = absurd (stepless o cc)
ends_so (d ∷ done) [] last line rest stepless e = absurd (last_is_no_step last d cc)
ends_so (d ∷ done) (o ∷ others) last line rest stepless e = ends_so done others last line rest stepless cc

pub ends : (done : List Step) (p : Proof) (line : Line) (rest : List Line) → IsNoStep line → map step_line done ++ line ∷ rest ≡ proof_lines p → (line ≡ last_line p.last) × (rest ≡ [])
ends done p line rest stepless e = ends_so done p.steps p.last line rest stepless e

ends_at : (done : List Step) (p : Proof) (line : Line) (items rest whole : List Line) → items ≡ line ∷ rest → IsNoStep line → whole ≡ map step_line done ++ items → whole ≡ proof_lines p → (line ≡ last_line p.last) × (rest ≡ [])
ends_at done p line items rest whole i stepless w e = ends done p line rest stepless (ap (λ (x : List Line). map step_line done ++ x) (sym i) ∙ sym w ∙ e)

-- a line that is neither a step's nor the last one
pub not_last : (last : Option (List ℕ)) (line : Line) → ((hints : List ℕ) → line ≡ lines.Empty hints → ⊥) → (line ≡ lines.Spent → ⊥) → line ≡ last_line last → ⊥
not_last None line empty spent e = spent e
not_last (Some hints) line empty spent e = empty hints e

-- what is made of the steps and the line behind them, where no line is left; no proof where one is
pub is_ended : (done : List Step) (last : Option (List ℕ)) (line : Line) (items rest whole : List Line) (r : Option Proof) → items ≡ line ∷ rest → line ≡ last_line last → whole ≡ map step_line done ++ items
    → MatchOption r (rest ≢ []) (λ proof. (rest ≡ []) × (proof ≡ made done last)) → MatchOption r ((proof : Proof) → whole ≡ proof_lines proof → ⊥) (λ proof. whole ≡ proof_lines proof)
is_ended done last line items rest whole None i l w some = λ proof e. some (ends_at done proof line items rest whole i (λ step s. last_is_no_step last step (sym l ∙ s)) w e).1
is_ended done last line items rest whole (Some proof) i l w none =
    w ∙ ap (λ (x : List Line). map step_line done ++ x) (i ∙ ap (λ (x : List Line). line ∷ x) none.0 ∙ ap (λ (x : Line). x ∷ []) l) ∙ sym (ap proof_lines none.1)

-- a line that may not stand in a proof
pub no_proof : (done : List Step) (line : Line) (items rest whole : List Line) → items ≡ line ∷ rest → IsNoStep line → ((hints : List ℕ) → line ≡ lines.Empty hints → ⊥) → (line ≡ lines.Spent → ⊥) → whole ≡ map step_line done ++ items
    → (proof : Proof) → whole ≡ proof_lines proof → ⊥
no_proof done line items rest whole i stepless empty spent w proof e = not_last proof.last line empty spent (ends_at done proof line items rest whole i stepless w e).0

-- and a proof has a last line
unended_so : (done others : List Step) (last : Option (List ℕ)) → map step_line done ++ [] ≡ proof_lines (made others last) → ⊥
unended_so [] [] last e = absurd cc
unended_so [] (o ∷ others) last e = absurd cc
unended_so (d ∷ done) [] last e = absurd (last_is_no_step last d cc)
unended_so (d ∷ done) (o ∷ others) last e = unended_so done others last cc

pub unended : (done : List Step) (p : Proof) (whole : List Line) → whole ≡ map step_line done → whole ≡ proof_lines p → ⊥
unended done p whole w e = unended_so done p.steps p.last (append-nil (map step_line done) ∙ sym w ∙ e)

step_same : (a b : Step) → step_line a ≡ step_line b → a ≡ b
step_same (steps.Learn clause hints) (steps.Learn other more) e = cc
step_same (steps.Learn clause hints) (steps.Cut cut) e = absurd cc
step_same (steps.Cut cut) (steps.Learn clause hints) e = absurd cc
step_same (steps.Cut cut) (steps.Cut other) e = cc

last_same : (a b : Option (List ℕ)) → last_line a ≡ last_line b → a ≡ b
last_same None None e = refl
last_same None (Some hints) e = absurd cc
last_same (Some hints) None e = absurd cc
last_same (Some hints) (Some other) e = cc

proofs_same : (done others : List Step) (last end : Option (List ℕ)) → proof_lines (made done last) ≡ proof_lines (made others end) → (done ≡ others) × (last ≡ end)
proofs_same [] [] last end e = (refl, last_same last end cc)
proofs_same [] (o ∷ others) last end e = absurd (last_is_no_step last o cc)
proofs_same (d ∷ done) [] last end e = absurd (last_is_no_step end d cc)
proofs_same (d ∷ done) (o ∷ others) last end e =
    let first : d ≡ o = step_same d o cc in
    let more = proofs_same done others last end cc in
    (rw (first, more.0) refl, more.1)

pub proof_same : (p q : Proof) → proof_lines p ≡ proof_lines q → p ≡ q
proof_same p q e =
    let s = proofs_same p.steps q.steps p.last q.last e in
    let a : p.steps ≡ q.steps = s.0 in
    let b : p.last ≡ q.last = s.1 in
    ap (λ (x : List Step). made x p.last) a ∙ ap (λ (x : Option (List ℕ)). made q.steps x) b
