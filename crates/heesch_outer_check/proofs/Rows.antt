-- The block of a record in bytes is its text, where the next record or the end begins behind it, or nothing stands there.
use Rattle.std.proofs.Common.{◌≡◌, ◌≢◌, inl, inr, ℕ, ◌+◌, ◌<◌, ◌&&◌, eqb, if◌then◌else◌, Bool, true, false, List, [], ◌∷◌, ◌++◌, map, codes, decimal, refl, sym, ap, ◌∙◌, append_assoc, arith}
use Rattle.std.specs.Prelude.{Option, Some, None, not}
use Rattle.std.specs.List.{AllByRecursion}
use Rattle.std.proofs.lemmas.Bool.Decides.{nat_tests}
use Rattle.std.proofs.lemmas.Bool.{ne_eqb}
use Rattle.heesch_grid.specs.declared.isometries.Iso.{Iso}
use Rattle.heesch_cert.specs.declared.proof.Step.{Step}
use Rattle.heesch_cert.specs.declared.proof.Step.TheVariants as steps
use Rattle.heesch_cert.specs.declared.proof.Proof.{Proof}
use Rattle.heesch_text.specs.declared.line.Line.{Line}
use Rattle.heesch_text.specs.declared.line.Line.TheVariants as lines
use Rattle.heesch_text.specs.Catalogue.{entry_lines, layer_lines, step_line, last_line, proof_lines}
use Rattle.heesch_text.specs.Lines.{text_of, words_of}
use Rattle.heesch_text.specs.Naturals.{IsNatural}
use Rattle.heesch_line.specs.Forms.{IsLine, HasNoNewline}
use Rattle.heesch_line.proofs.Newlines.{free, no_newline, parts}
use Rattle.heesch_reader.specs.Faults.{begins_next}
use Rattle.heesch_reader.specs.Feeding.{IsInside}
use Rattle.heesch_reader.proofs.FirstWords.{begins_next_cut, inside_begins}
use Rattle.heesch_check.specs.Catalogues.{block_of, behind_block}
use Rattle.heesch_check.proofs.Blocks.{IsNext}
use Rattle.heesch_outer.specs.declared.answer.OuterAnswer.{OuterAnswer}
use Rattle.heesch_outer.specs.declared.answer.OuterAnswer.TheVariants as outers
use Rattle.heesch_cert.specs.TrueEntry.{first_number}
use Rattle.heesch_reader.proofs.EntryLines.{body_inside, body_lines}
use Rattle.heesch_outer.specs.declared.answers.OuterEntry.{OuterEntry}
use Rattle.heesch_outer.specs.Outers.{record_text}
use Rattle.heesch_outer.specs.Record.{answer_lines, answer_text, number_line}

-- ---- rows of bytes

-- the bytes have no newline, and begin neither a record nor the end
pub record IsInnerRow (row : List ℕ) : Type 0 where
  pub free : HasNoNewline row
  pub inner : begins_next row ≡ false

-- each with its newline
abbrev pub rows_text : List (List ℕ) → List ℕ
rows_text [] = []
rows_text (row ∷ rows) = row ++ 10 ∷ rows_text rows

block_words : (words bytes : List ℕ) → HasNoNewline words → (block_of (words ++ bytes) ≡ words ++ block_of bytes) × (behind_block (words ++ bytes) ≡ behind_block bytes)
block_words [] bytes h = (refl, refl)
block_words (b ∷ words) bytes h =
    let e = ne_eqb b 10 h.0 in
    let s = block_words words bytes h.1 in (
      ap (λ (x : Bool). if x && begins_next (words ++ bytes) then b ∷ [] else b ∷ block_of (words ++ bytes)) e ∙ ap (λ (x : List ℕ). b ∷ x) s.0,
      ap (λ (x : Bool). if x && begins_next (words ++ bytes) then words ++ bytes else behind_block (words ++ bytes)) e ∙ s.1,
    )

goes_on : (bytes : List ℕ) → begins_next bytes ≡ false → (block_of (10 ∷ bytes) ≡ 10 ∷ block_of bytes) × (behind_block (10 ∷ bytes) ≡ behind_block bytes)
goes_on bytes e = (ap (λ (x : Bool). if x then 10 ∷ [] else 10 ∷ block_of bytes) e, ap (λ (x : Bool). if x then bytes else behind_block bytes) e)

ends : (bytes : List ℕ) → IsNext bytes → (block_of (10 ∷ bytes) ≡ 10 ∷ []) × (behind_block (10 ∷ bytes) ≡ bytes)
ends bytes (inl none) = (ap (λ (x : List ℕ). block_of (10 ∷ x)) none, ap (λ (x : List ℕ). behind_block (10 ∷ x)) none ∙ sym none)
ends bytes (inr next) = (ap (λ (x : Bool). if x then 10 ∷ [] else 10 ∷ block_of bytes) next, ap (λ (x : Bool). if x then bytes else behind_block bytes) next)

-- a row and inner rows are the block
pub block_rows : (first : List ℕ) (rows : List (List ℕ)) (behind : List ℕ) → HasNoNewline first → AllByRecursion IsInnerRow rows → IsNext behind
    → (block_of (rows_text (first ∷ rows) ++ behind) ≡ rows_text (first ∷ rows)) × (behind_block (rows_text (first ∷ rows) ++ behind) ≡ behind)
block_rows first [] behind free inner next =
    let whole : rows_text (first ∷ []) ++ behind ≡ first ++ 10 ∷ behind = append_assoc first (10 ∷ []) behind in
    let s = block_words first (10 ∷ behind) free in
    let e = ends behind next in
    (ap block_of whole ∙ s.0 ∙ ap (λ (x : List ℕ). first ++ x) e.0, ap behind_block whole ∙ s.1 ∙ e.1)
block_rows first (second ∷ rows) behind free inner next =
    let bytes = rows_text (second ∷ rows) ++ behind in
    let whole : rows_text (first ∷ second ∷ rows) ++ behind ≡ first ++ 10 ∷ bytes = append_assoc first (10 ∷ rows_text (second ∷ rows)) behind in
    let cut : bytes ≡ second ++ 10 ∷ (rows_text rows ++ behind) = append_assoc second (10 ∷ rows_text rows) behind in
    let not_next : begins_next bytes ≡ false = ap begins_next cut ∙ begins_next_cut second (rows_text rows ++ behind) ∙ inner.0.inner in
    let others = block_rows second rows behind inner.0.free inner.1 next in
    let s = block_words first (10 ∷ bytes) free in
    let e = goes_on bytes not_next in (
      ap block_of whole ∙ s.0 ∙ ap (λ (x : List ℕ). first ++ x) e.0 ∙ ap (λ (x : List ℕ). first ++ 10 ∷ x) others.0,
      ap behind_block whole ∙ s.1 ∙ e.1 ∙ others.1,
    )

pub rows_append : (xs ys : List (List ℕ)) → rows_text (xs ++ ys) ≡ rows_text xs ++ rows_text ys
rows_append [] ys = refl
rows_append (x ∷ xs) ys = ap (λ (t : List ℕ). x ++ 10 ∷ t) (rows_append xs ys) ∙ sym (append_assoc x (10 ∷ rows_text xs) (rows_text ys))

-- ---- the rows of lines

pub lines_text : (ls : List Line) → text_of ls ≡ rows_text (map words_of ls)
lines_text [] = refl
lines_text (line ∷ ls) = append_assoc (words_of line) (10 ∷ []) (text_of ls) ∙ ap (λ (t : List ℕ). words_of line ++ 10 ∷ t) (lines_text ls)

pub lines_inner : (ls : List Line) → AllByRecursion IsLine ls → AllByRecursion IsInside ls → AllByRecursion IsInnerRow (map words_of ls)
lines_inner [] forms inside = tt
lines_inner (line ∷ ls) forms inside = (record { free = no_newline line forms.0; inner = inside_begins line inside.0 }, lines_inner ls forms.1 inside.1)

-- ---- the rows of an answer

layers_inside : (layers : List (List Iso)) → AllByRecursion IsInside (layer_lines layers)
layers_inside [] = tt
layers_inside (layer ∷ layers) = (tt, layers_inside layers)

proof_inside : (p : Proof) → AllByRecursion IsInside (proof_lines p)
proof_inside p = all_inside p.steps
  where
    last_inside : (last : Option (List ℕ)) → IsInside (last_line last)
    last_inside None = tt
    last_inside (Some hints) = tt

    all_inside : (done : List Step) → AllByRecursion IsInside (map step_line done ++ last_line p.last ∷ [])
    all_inside [] = (last_inside p.last, tt)
    all_inside (steps.Learn clause hints ∷ done) = (tt, all_inside done)
    all_inside (steps.Cut cut ∷ done) = (tt, all_inside done)

-- the rows before the lines of an answer
abbrev pub number_rows : ℕ → OuterAnswer → List (List ℕ)
number_rows h outers.Tiles = codes "hh tiles" ∷ []
number_rows h outers.Unknown = codes "hh undecided" ∷ []
number_rows h (outers.More layers) = (codes "hc " ++ decimal h) ∷ (codes "hh " ++ decimal (h + 1)) ∷ []
number_rows h (outers.Same proof) = (codes "hc " ++ decimal h) ∷ (codes "hh " ++ decimal h) ∷ []
number_rows h (outers.Spent proof) = (codes "hc " ++ decimal h) ∷ codes "hh spent" ∷ []

two : (a b rest : List ℕ) → (a ++ 10 ∷ []) ++ ((b ++ 10 ∷ []) ++ rest) ≡ a ++ 10 ∷ (b ++ 10 ∷ rest)
two a b rest = append_assoc a (10 ∷ []) ((b ++ 10 ∷ []) ++ rest) ∙ ap (λ (t : List ℕ). a ++ 10 ∷ t) (append_assoc b (10 ∷ []) rest)

pub answer_rows : (h : ℕ) (answer : OuterAnswer) → answer_text h answer ≡ rows_text (number_rows h answer ++ map words_of (answer_lines answer))
answer_rows h outers.Tiles = refl
answer_rows h outers.Unknown = refl
answer_rows h (outers.More layers) =
    let rest = text_of (layer_lines layers.layers) in
    append_assoc (number_line (codes "hc ") h) (number_line (codes "hh ") (h + 1)) rest
    ∙ two (codes "hc " ++ decimal h) (codes "hh " ++ decimal (h + 1)) rest
    ∙ ap (λ (t : List ℕ). (codes "hc " ++ decimal h) ++ 10 ∷ ((codes "hh " ++ decimal (h + 1)) ++ 10 ∷ t)) (lines_text (layer_lines layers.layers))
answer_rows h (outers.Same proof) =
    let rest = text_of (proof_lines proof) in
    append_assoc (number_line (codes "hc ") h) (number_line (codes "hh ") h) rest
    ∙ two (codes "hc " ++ decimal h) (codes "hh " ++ decimal h) rest
    ∙ ap (λ (t : List ℕ). (codes "hc " ++ decimal h) ++ 10 ∷ ((codes "hh " ++ decimal h) ++ 10 ∷ t)) (lines_text (proof_lines proof))
answer_rows h (outers.Spent proof) =
    let rest = text_of (proof_lines proof) in
    append_assoc (number_line (codes "hc ") h) (codes "hh spent\n") rest
    ∙ append_assoc (codes "hc " ++ decimal h) (10 ∷ []) (codes "hh spent\n" ++ rest)
    ∙ ap (λ (t : List ℕ). (codes "hc " ++ decimal h) ++ 10 ∷ (codes "hh spent" ++ 10 ∷ t)) (lines_text (proof_lines proof))

-- ---- rows have no newline

test_free : (bytes : List ℕ) → free bytes ≡ true → HasNoNewline bytes
test_free [] h = tt
test_free (b ∷ bytes) h =
    let p = parts (not (eqb b 10)) (free bytes) h in
    (differs p.0, test_free bytes p.1)
  where
    differs : not (eqb b 10) ≡ true → b ≢ 10
    differs t = grind (arith, nat_tests)

both_free : (a b : List ℕ) → HasNoNewline a → HasNoNewline b → HasNoNewline (a ++ b)
both_free [] b h k = k
both_free (x ∷ a) b h k = (h.0, both_free a b h.1 k)

decimal_free : (n : ℕ) → IsNatural n → HasNoNewline (decimal n)
decimal_free n fits = let h = no_newline (lines.Coronas n) fits in h.1.1.1.1.1.1.1.1

hc_inner : (n : ℕ) → IsNatural n → IsInnerRow (codes "hc " ++ decimal n)
hc_inner n fits = record { free = both_free (codes "hc ") (decimal n) (test_free (codes "hc ") refl) (decimal_free n fits); inner = refl }

hh_inner : (n : ℕ) → IsNatural n → IsInnerRow (codes "hh " ++ decimal n)
hh_inner n fits = record { free = both_free (codes "hh ") (decimal n) (test_free (codes "hh ") refl) (decimal_free n fits); inner = refl }

word_inner : (word : List ℕ) → free word ≡ true → begins_next word ≡ false → IsInnerRow word
word_inner word h inner = record { free = test_free word h; inner = inner }

pub numbers_inner : (h : ℕ) → h + 1 < 4294967296 → (answer : OuterAnswer) → AllByRecursion IsInnerRow (number_rows h answer)
numbers_inner h few outers.Tiles = (word_inner (codes "hh tiles") refl refl, tt)
numbers_inner h few outers.Unknown = (word_inner (codes "hh undecided") refl refl, tt)
numbers_inner h few (outers.More layers) = (hc_inner h (omega (arith, few)), (hh_inner (h + 1) few, tt))
numbers_inner h few (outers.Same proof) = (hc_inner h (omega (arith, few)), (hh_inner h (omega (arith, few)), tt))
numbers_inner h few (outers.Spent proof) = (hc_inner h (omega (arith, few)), (word_inner (codes "hh spent") refl refl, tt))

answer_inside : (answer : OuterAnswer) → AllByRecursion IsInside (answer_lines answer)
answer_inside outers.Tiles = tt
answer_inside outers.Unknown = tt
answer_inside (outers.More layers) = layers_inside layers.layers
answer_inside (outers.Same proof) = proof_inside proof
answer_inside (outers.Spent proof) = proof_inside proof

-- ---- a record

all_rows : (xs ys : List (List ℕ)) → AllByRecursion IsInnerRow xs → AllByRecursion IsInnerRow ys → AllByRecursion IsInnerRow (xs ++ ys)
all_rows [] ys h k = k
all_rows (x ∷ xs) ys h k = (h.0, all_rows xs ys h.1 k)

-- where its number is small
pub record_block : (e : OuterEntry) → first_number e.entry.verdict + 1 < 4294967296 → AllByRecursion IsLine (entry_lines e.entry) → AllByRecursion IsLine (answer_lines e.answer) → (behind : List ℕ) → IsNext behind
    → (block_of (record_text e ++ behind) ≡ record_text e) × (behind_block (record_text e ++ behind) ≡ behind)
record_block e few forms answer_forms behind next =
    let h = first_number e.entry.verdict in
    let body = map words_of (body_lines e.entry) in
    let told = number_rows h e.answer ++ map words_of (answer_lines e.answer) in
    let shape = words_of (lines.Shape e.entry.cells) in
    let same : record_text e ≡ rows_text (shape ∷ (body ++ told)) =
    ap (λ (t : List ℕ). t ++ answer_text h e.answer) (lines_text (entry_lines e.entry))
    ∙ ap (λ (t : List ℕ). rows_text (shape ∷ body) ++ t) (answer_rows h e.answer)
    ∙ sym (rows_append (shape ∷ body) told)
    in
    let inner = all_rows body told (lines_inner (body_lines e.entry) forms.1 (body_inside e.entry))
    (all_rows (number_rows h e.answer) (map words_of (answer_lines e.answer)) (numbers_inner h few e.answer) (lines_inner (answer_lines e.answer) answer_forms (answer_inside e.answer))) in
    let s = block_rows shape (body ++ told) behind (no_newline (lines.Shape e.entry.cells) forms.0) inner next in (
      ap (λ (t : List ℕ). block_of (t ++ behind)) same ∙ s.0 ∙ sym same,
      ap (λ (t : List ℕ). behind_block (t ++ behind)) same ∙ s.1,
    )
