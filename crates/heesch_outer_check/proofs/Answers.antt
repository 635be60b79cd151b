-- The text of an answer, by its first lines and by the lines behind them.
use Rattle.std.proofs.Common.{◌≡◌, ◌≢◌, ℕ, ◌+◌, ◌<◌, ◌^◌, true≢false, eqb, List, ◌∷◌, ◌++◌, MatchOption, Option, Some, None, refl, sym, ap, subst, ◌∙◌, append_assoc, arith}
use Rattle.std.specs.Prelude.{codes, decimal}
use Rattle.std.proofs.lemmas.List.{append_cancel_left}
use Rattle.heesch_grid.specs.declared.isometries.Iso.{Iso}
use Rattle.heesch_cert.specs.declared.entry.Layers.{Layers}
use Rattle.heesch_cert.specs.declared.proof.Proof.{Proof}
use Rattle.heesch_text.specs.declared.line.Line.{Line}
use Rattle.heesch_text.specs.Catalogue.{layer_lines, proof_lines}
use Rattle.heesch_text.specs.Lines.{text_of}
use Rattle.heesch_line.specs.Forms.{HasNoNewline}
use Rattle.heesch_reader.proofs.SameLines.{same_lines}
use Rattle.heesch_outer.specs.Record.{answer_text, number_line}
use Rattle.heesch_outer.specs.declared.answer.OuterAnswer.{OuterAnswer}
use Rattle.heesch_outer.specs.declared.answer.OuterAnswer.TheVariants.{Tiles, Unknown, More, Same, Spent}
use Rattle.heesch_outer_check.specs.Lines.{AreLinesOf}
use Rattle.heesch_outer_check.specs.ReadableRecords.{HasLineForms, IsAnswerOf}
use Rattle.heesch_outer_check.proofs.Decimals.{decimal_free, decimal_tells, decimal_is_no_word}
use Rattle.heesch_outer_check.proofs.ProofLines.{layers_same, proof_same}
use Rattle.heesch_outer_check.proofs.Words.{word_line, one_word, spent_free, second, fourth}

-- the bytes, behind the line `hc` of h
abbrev pub behind_hc : ℕ → List ℕ → List ℕ
behind_hc h bytes = number_line (codes "hc ") h ++ bytes

-- it is neither of the two short answers
no_short : (h : ℕ) (bytes : List ℕ) {more : List ℕ} → behind_hc h bytes ≡ 104 ∷ 104 ∷ more → ⊥
no_short h bytes e = true≢false (ap (λ (x : List ℕ). eqb (second x) 99) e)

-- the answer is told by this word behind `hh`, and by the lines of the rest
abbrev pub IsToldBy : ℕ → List ℕ → List ℕ → OuterAnswer → Type 0
IsToldBy h word rest Tiles = ⊥
IsToldBy h word rest Unknown = ⊥
IsToldBy h word rest (More layers) = (word ≡ decimal (h + 1)) × AreLinesOf rest (layer_lines layers.layers)
IsToldBy h word rest (Same proof) = (word ≡ decimal h) × AreLinesOf rest (proof_lines proof)
IsToldBy h word rest (Spent proof) = (word ≡ codes "spent") × AreLinesOf rest (proof_lines proof)

pub told : (h : ℕ) (word rest bytes : List ℕ) (answer : OuterAnswer) → h < 2 ^ 32 → HasNoNewline word → bytes ≡ word_line (codes "hh ") word ++ rest → IsAnswerOf h (behind_hc h bytes) answer → IsToldBy h word rest answer
told h word rest bytes Tiles small one_line b is = no_short h bytes is.0
told h word rest bytes Unknown small one_line b is = no_short h bytes is.0
told h word rest bytes (More layers) small one_line b is =
    let text = text_of (layer_lines layers.layers) in
    let same = append_cancel_left (number_line (codes "hc ") h) bytes (number_line (codes "hh ") (h + 1) ++ text) (is.0 ∙ append_assoc (number_line (codes "hc ") h) (number_line (codes "hh ") (h + 1)) text) in
    let r = one_word (codes "hh ") word (decimal (h + 1)) rest text one_line (decimal_free (h + 1) (omega (arith, small))) (sym b ∙ same) in
    (r.0, (r.1, is.1))
told h word rest bytes (Same proof) small one_line b is =
    let text = text_of (proof_lines proof) in
    let same = append_cancel_left (number_line (codes "hc ") h) bytes (number_line (codes "hh ") h ++ text) (is.0 ∙ append_assoc (number_line (codes "hc ") h) (number_line (codes "hh ") h) text) in
    let r = one_word (codes "hh ") word (decimal h) rest text one_line (decimal_free h (omega (arith, small))) (sym b ∙ same) in
    (r.0, (r.1, is.1))
told h word rest bytes (Spent proof) small one_line b is =
    let text = text_of (proof_lines proof) in
    let same = append_cancel_left (number_line (codes "hc ") h) bytes (word_line (codes "hh ") (codes "spent") ++ text) (is.0 ∙ append_assoc (number_line (codes "hc ") h) (word_line (codes "hh ") (codes "spent")) text) in
    let r = one_word (codes "hh ") word (codes "spent") rest text one_line spent_free (sym b ∙ same) in
    (r.0, (r.1, is.1))

-- ---- by each word one kind of answer is told

by_more : (h : ℕ) (rest : List ℕ) (answer : OuterAnswer) → h < 2 ^ 32 → IsToldBy h (decimal (h + 1)) rest answer → (layers : Layers) × (answer ≡ More layers) × AreLinesOf rest (layer_lines layers.layers)
by_more h rest Tiles small t = absurd t
by_more h rest Unknown small t = absurd t
by_more h rest (More layers) small t = (layers, refl, t.1)
by_more h rest (Same proof) small t = let e = decimal_tells (h + 1) h (omega (arith, small)) (omega (arith, small)) t.0 in absurd (omega (arith, e))
by_more h rest (Spent proof) small t = absurd (decimal_is_no_word (h + 1) (omega (arith, small)) t.0)

by_same : (h : ℕ) (rest : List ℕ) (answer : OuterAnswer) → h < 2 ^ 32 → IsToldBy h (decimal h) rest answer → (proof : Proof) × (answer ≡ Same proof) × AreLinesOf rest (proof_lines proof)
by_same h rest Tiles small t = absurd t
by_same h rest Unknown small t = absurd t
by_same h rest (More layers) small t = let e = decimal_tells h (h + 1) (omega (arith, small)) (omega (arith, small)) t.0 in absurd (omega (arith, e))
by_same h rest (Same proof) small t = (proof, refl, t.1)
by_same h rest (Spent proof) small t = absurd (decimal_is_no_word h (omega (arith, small)) t.0)

by_spent : (h : ℕ) (rest : List ℕ) (answer : OuterAnswer) → h < 2 ^ 32 → IsToldBy h (codes "spent") rest answer → (proof : Proof) × (answer ≡ Spent proof) × AreLinesOf rest (proof_lines proof)
by_spent h rest Tiles small t = absurd t
by_spent h rest Unknown small t = absurd t
by_spent h rest (More layers) small t = absurd (decimal_is_no_word (h + 1) (omega (arith, small)) (sym t.0))
by_spent h rest (Same proof) small t = absurd (decimal_is_no_word h (omega (arith, small)) (sym t.0))
by_spent h rest (Spent proof) small t = (proof, refl, t.1)

module _ (h : ℕ) (bytes rest : List ℕ) (small : h < 2 ^ 32) where
  -- ---- behind `hh` of the next number

  pub more_found : (layers : Layers) → bytes ≡ number_line (codes "hh ") (h + 1) ++ rest → AreLinesOf rest (layer_lines layers.layers) → IsAnswerOf h (behind_hc h bytes) (More layers)
  more_found layers b all = (ap (λ (x : List ℕ). behind_hc h x) (b ∙ ap (λ (x : List ℕ). number_line (codes "hh ") (h + 1) ++ x) all.0) ∙ sym (append_assoc (number_line (codes "hc ") h) (number_line (codes "hh ") (h + 1)) (text_of (layer_lines layers.layers))), all.1)

  told_more : (answer : OuterAnswer) → bytes ≡ number_line (codes "hh ") (h + 1) ++ rest → IsAnswerOf h (behind_hc h bytes) answer → (layers : Layers) × (answer ≡ More layers) × AreLinesOf rest (layer_lines layers.layers)
  told_more answer b is = by_more h rest answer small (told h (decimal (h + 1)) rest bytes answer small (decimal_free (h + 1) (omega (arith, small))) b is)

  pub more_missed : bytes ≡ number_line (codes "hh ") (h + 1) ++ rest → ((layers : Layers) → AreLinesOf rest (layer_lines layers.layers) → ⊥) → (answer : OuterAnswer) → IsAnswerOf h (behind_hc h bytes) answer → ⊥
  more_missed b none answer is = let t = told_more answer b is in none t.0 t.2

  -- ---- behind `hh` of the number

  pub same_found : (proof : Proof) → bytes ≡ number_line (codes "hh ") h ++ rest → AreLinesOf rest (proof_lines proof) → IsAnswerOf h (behind_hc h bytes) (Same proof)
  same_found proof b all = (ap (λ (x : List ℕ). behind_hc h x) (b ∙ ap (λ (x : List ℕ). number_line (codes "hh ") h ++ x) all.0) ∙ sym (append_assoc (number_line (codes "hc ") h) (number_line (codes "hh ") h) (text_of (proof_lines proof))), all.1)

  told_same : (answer : OuterAnswer) → bytes ≡ number_line (codes "hh ") h ++ rest → IsAnswerOf h (behind_hc h bytes) answer → (proof : Proof) × (answer ≡ Same proof) × AreLinesOf rest (proof_lines proof)
  told_same answer b is = by_same h rest answer small (told h (decimal h) rest bytes answer small (decimal_free h (omega (arith, small))) b is)

  pub same_missed : bytes ≡ number_line (codes "hh ") h ++ rest → ((proof : Proof) → AreLinesOf rest (proof_lines proof) → ⊥) → (answer : OuterAnswer) → IsAnswerOf h (behind_hc h bytes) answer → ⊥
  same_missed b none answer is = let t = told_same answer b is in none t.0 t.2

  -- ---- behind `hh spent`

  pub spent_found : (proof : Proof) → bytes ≡ codes "hh spent\n" ++ rest → AreLinesOf rest (proof_lines proof) → IsAnswerOf h (behind_hc h bytes) (Spent proof)
  spent_found proof b all = (ap (λ (x : List ℕ). behind_hc h x) (b ∙ ap (λ (x : List ℕ). codes "hh spent\n" ++ x) all.0) ∙ sym (append_assoc (number_line (codes "hc ") h) (codes "hh spent\n") (text_of (proof_lines proof))), all.1)

  told_spent : (answer : OuterAnswer) → bytes ≡ codes "hh spent\n" ++ rest → IsAnswerOf h (behind_hc h bytes) answer → (proof : Proof) × (answer ≡ Spent proof) × AreLinesOf rest (proof_lines proof)
  told_spent answer b is = by_spent h rest answer small (told h (codes "spent") rest bytes answer small spent_free b is)

  pub spent_missed : bytes ≡ codes "hh spent\n" ++ rest → ((proof : Proof) → AreLinesOf rest (proof_lines proof) → ⊥) → (answer : OuterAnswer) → IsAnswerOf h (behind_hc h bytes) answer → ⊥
  spent_missed b none answer is = let t = told_spent answer b is in none t.0 t.2

-- ---- behind anything else

pub none_missed : (h : ℕ) (bytes : List ℕ) → ((rest : List ℕ) → bytes ≡ number_line (codes "hh ") (h + 1) ++ rest → ⊥) → ((rest : List ℕ) → bytes ≡ number_line (codes "hh ") h ++ rest → ⊥)
    → ((rest : List ℕ) → bytes ≡ codes "hh spent\n" ++ rest → ⊥) → (answer : OuterAnswer) → IsAnswerOf h (behind_hc h bytes) answer → ⊥
none_missed h bytes more same spent Tiles is = no_short h bytes is.0
none_missed h bytes more same spent Unknown is = no_short h bytes is.0
none_missed h bytes more same spent (More layers) is = let text = text_of (layer_lines layers.layers) in more text (append_cancel_left (number_line (codes "hc ") h) bytes (number_line (codes "hh ") (h + 1) ++ text) (is.0 ∙ append_assoc (number_line (codes "hc ") h) (number_line (codes "hh ") (h + 1)) text))
none_missed h bytes more same spent (Same proof) is = let text = text_of (proof_lines proof) in same text (append_cancel_left (number_line (codes "hc ") h) bytes (number_line (codes "hh ") h ++ text) (is.0 ∙ append_assoc (number_line (codes "hc ") h) (number_line (codes "hh ") h) text))
none_missed h bytes more same spent (Spent proof) is = let text = text_of (proof_lines proof) in spent text (append_cancel_left (number_line (codes "hc ") h) bytes (codes "hh spent\n" ++ text) (is.0 ∙ append_assoc (number_line (codes "hc ") h) (codes "hh spent\n") text))

-- bytes that are neither of the two short answers, and don't begin with the line `hc` of h
pub other_missed : (h : ℕ) (bytes : List ℕ) → bytes ≢ codes "hh tiles\n" → bytes ≢ codes "hh undecided\n" → ((rest : List ℕ) → bytes ≡ behind_hc h rest → ⊥) → (answer : OuterAnswer) → IsAnswerOf h bytes answer → ⊥
other_missed h bytes tiles unknown none Tiles is = tiles is.0
other_missed h bytes tiles unknown none Unknown is = unknown is.0
other_missed h bytes tiles unknown none (More layers) is = none (number_line (codes "hh ") (h + 1) ++ text_of (layer_lines layers.layers)) (is.0 ∙ append_assoc (number_line (codes "hc ") h) (number_line (codes "hh ") (h + 1)) (text_of (layer_lines layers.layers)))
other_missed h bytes tiles unknown none (Same proof) is = none (number_line (codes "hh ") h ++ text_of (proof_lines proof)) (is.0 ∙ append_assoc (number_line (codes "hc ") h) (number_line (codes "hh ") h) (text_of (proof_lines proof)))
other_missed h bytes tiles unknown none (Spent proof) is = none (codes "hh spent\n" ++ text_of (proof_lines proof)) (is.0 ∙ append_assoc (number_line (codes "hc ") h) (codes "hh spent\n") (text_of (proof_lines proof)))

-- ---- the lines behind the words

-- what holds of an option that is this
pub some_of : {V : Type 0} (P : Type 0) (Q : V → Type 0) (r : Option V) (v : V) → r ≡ Some v → MatchOption r P Q → Q v
some_of {V = V} P Q r v e m = subst (λ (x : Option V). MatchOption x P Q) e m

pub none_of : {V : Type 0} (P : Type 0) (Q : V → Type 0) (r : Option V) → r ≡ None → MatchOption r P Q → P
none_of {V = V} P Q r e m = subst (λ (x : Option V). MatchOption x P Q) e m

pub none_is : {V : Type 0} (P : Type 0) (Q : V → Type 0) (r : Option V) → r ≡ None → P → MatchOption r P Q
none_is {V = V} P Q r e p = subst (λ (x : Option V). MatchOption x P Q) (sym e) p

one_text : (bytes : List ℕ) (ls ms : List Line) → AreLinesOf bytes ls → AreLinesOf bytes ms → ls ≡ ms
one_text bytes ls ms a b = same_lines ls ms a.1 b.1 (sym a.0 ∙ b.0)

pub no_layers_there : (bytes : List ℕ) (ls : List Line) → AreLinesOf bytes ls → ((layers : List (List Iso)) → ls ≡ layer_lines layers → ⊥) → (layers : Layers) → AreLinesOf bytes (layer_lines layers.layers) → ⊥
no_layers_there bytes ls all none layers is = none layers.layers (one_text bytes ls (layer_lines layers.layers) all is)

pub proof_there : (bytes : List ℕ) (ls : List Line) (r : Option Proof) → AreLinesOf bytes ls → MatchOption r ((proof : Proof) → ls ≡ proof_lines proof → ⊥) (λ proof. ls ≡ proof_lines proof)
    → MatchOption r ((proof : Proof) → AreLinesOf bytes (proof_lines proof) → ⊥) (λ proof. AreLinesOf bytes (proof_lines proof))
proof_there bytes ls None all none = λ proof is. none proof (one_text bytes ls (proof_lines proof) all is)
proof_there bytes ls (Some proof) all same = subst (λ (x : List Line). AreLinesOf bytes x) same all

-- ---- one answer

more_same : (layers other : Layers) (rest : List ℕ) → HasLineForms (More other) → rest ≡ text_of (layer_lines other.layers) → AreLinesOf rest (layer_lines layers.layers) → layers ≡ other
more_same layers other rest forms e all =
    ap (λ (x : List (List Iso)). record { layers = x }) (layers_same layers.layers other.layers (same_lines (layer_lines layers.layers) (layer_lines other.layers) all.1 forms (sym all.0 ∙ e)))

proofs_same : (proof other : Proof) (rest : List ℕ) → HasLineForms (Same other) → rest ≡ text_of (proof_lines other) → AreLinesOf rest (proof_lines proof) → proof ≡ other
proofs_same proof other rest forms e all = proof_same proof other (same_lines (proof_lines proof) (proof_lines other) all.1 forms (sym all.0 ∙ e))

-- two answers behind one number with one text are the same
pub one_answer : (h : ℕ) (a b : OuterAnswer) → h < 2 ^ 32 → HasLineForms a → HasLineForms b → answer_text h a ≡ answer_text h b → a ≡ b
one_answer h Tiles Tiles small f g e = refl
one_answer h Tiles Unknown small f g e = absurd (true≢false (ap (λ (x : List ℕ). eqb (fourth x) 116) e))
one_answer h Unknown Tiles small f g e = absurd (true≢false (ap (λ (x : List ℕ). eqb (fourth x) 117) e))
one_answer h Unknown Unknown small f g e = refl
one_answer h (More layers) Tiles small f g e = absurd (true≢false (ap (λ (x : List ℕ). eqb (second x) 99) e))
one_answer h (Same proof) Tiles small f g e = absurd (true≢false (ap (λ (x : List ℕ). eqb (second x) 99) e))
one_answer h (Spent proof) Tiles small f g e = absurd (true≢false (ap (λ (x : List ℕ). eqb (second x) 99) e))
one_answer h (More layers) Unknown small f g e = absurd (true≢false (ap (λ (x : List ℕ). eqb (second x) 99) e))
one_answer h (Same proof) Unknown small f g e = absurd (true≢false (ap (λ (x : List ℕ). eqb (second x) 99) e))
one_answer h (Spent proof) Unknown small f g e = absurd (true≢false (ap (λ (x : List ℕ). eqb (second x) 99) e))
one_answer h a (More layers) small f g e =
    let text = text_of (layer_lines layers.layers) in
    let t = told_more h (number_line (codes "hh ") (h + 1) ++ text) text small a refl (sym (append_assoc (number_line (codes "hc ") h) (number_line (codes "hh ") (h + 1)) text) ∙ sym e, f) in
    t.1 ∙ ap More (more_same t.0 layers text g refl t.2)
one_answer h a (Same proof) small f g e =
    let text = text_of (proof_lines proof) in
    let t = told_same h (number_line (codes "hh ") h ++ text) text small a refl (sym (append_assoc (number_line (codes "hc ") h) (number_line (codes "hh ") h) text) ∙ sym e, f) in
    t.1 ∙ ap Same (proofs_same t.0 proof text g refl t.2)
one_answer h a (Spent proof) small f g e =
    let text = text_of (proof_lines proof) in
    let t = told_spent h (codes "hh spent\n" ++ text) text small a refl (sym (append_assoc (number_line (codes "hc ") h) (codes "hh spent\n") text) ∙ sym e, f) in
    t.1 ∙ ap Spent (proofs_same t.0 proof text g refl t.2)
