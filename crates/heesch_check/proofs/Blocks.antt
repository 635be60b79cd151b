-- The block of an entry in bytes is the text of its lines, where the next line begins an entry or the end, or there is none.
use Rattle.std.proofs.Common.{◌≡◌, ◌⊎◌, inl, inr, ℕ, ◌==◌, ◌&&◌, if◌then◌else◌, Bool, true, false, List, [], ◌∷◌, ◌++◌, refl, sym, ap, ◌∙◌, append_assoc}
use Rattle.std.specs.List.{AllByRecursion}
use Rattle.std.proofs.lemmas.Bool.{ne_eqb}
use Rattle.heesch_text.specs.declared.line.Line.{Line}
use Rattle.heesch_text.specs.Lines.{words_of, text_of}
use Rattle.heesch_line.specs.Forms.{IsLine, HasNoNewline}
use Rattle.heesch_line.proofs.Newlines.{no_newline}
use Rattle.heesch_reader.specs.Faults.{begins_next}
use Rattle.heesch_reader.specs.Feeding.{IsInside}
use Rattle.heesch_reader.proofs.FirstWords.{begins_next_cut, inside_begins}
use Rattle.heesch_reader.proofs.SameLines.{line_front}
use Rattle.heesch_check.specs.Catalogues.{block_of, behind_block}

-- ---- lines

pub line_alone : (line : Line) (ls : List Line) → text_of (line ∷ ls) ≡ words_of line ++ 10 ∷ text_of ls
line_alone line ls = append_assoc (words_of line) (10 ∷ []) (text_of ls)

-- ---- blocks

-- nothing stands there, or the next entry or the end begins
abbrev pub IsNext : List ℕ → Type 0
IsNext bytes = (bytes ≡ []) ⊎ (begins_next bytes ≡ true)

block_words : (words bytes : List ℕ) → HasNoNewline words → block_of (words ++ bytes) ≡ words ++ block_of bytes
block_words [] bytes h = refl
block_words (b ∷ words) bytes h =
    ap (λ (x : Bool). if x && begins_next (words ++ bytes) then b ∷ [] else b ∷ block_of (words ++ bytes)) (ne_eqb b 10 h.0)
    ∙ ap (λ (x : List ℕ). b ∷ x) (block_words words bytes h.1)

behind_words : (words bytes : List ℕ) → HasNoNewline words → behind_block (words ++ bytes) ≡ behind_block bytes
behind_words [] bytes h = refl
behind_words (b ∷ words) bytes h =
    ap (λ (x : Bool). if x && begins_next (words ++ bytes) then words ++ bytes else behind_block (words ++ bytes)) (ne_eqb b 10 h.0)
    ∙ behind_words words bytes h.1

block_goes_on : (bytes : List ℕ) → begins_next bytes ≡ false → (block_of (10 ∷ bytes) ≡ 10 ∷ block_of bytes) × (behind_block (10 ∷ bytes) ≡ behind_block bytes)
block_goes_on bytes e = (ap (λ (x : Bool). if x then 10 ∷ [] else 10 ∷ block_of bytes) e, ap (λ (x : Bool). if x then bytes else behind_block bytes) e)

block_ends : (bytes : List ℕ) → IsNext bytes → (block_of (10 ∷ bytes) ≡ 10 ∷ []) × (behind_block (10 ∷ bytes) ≡ bytes)
block_ends bytes (inl none) = (ap (λ (x : List ℕ). block_of (10 ∷ x)) none, ap (λ (x : List ℕ). behind_block (10 ∷ x)) none ∙ sym none)
block_ends bytes (inr next) = (ap (λ (x : Bool). if x then 10 ∷ [] else 10 ∷ block_of bytes) next, ap (λ (x : Bool). if x then bytes else behind_block bytes) next)

-- a line and lines inside an entry are the block, where the next entry or the end begins behind them, or nothing stands there
pub block_lines : (line : Line) (ls : List Line) (behind : List ℕ) → AllByRecursion IsLine (line ∷ ls) → AllByRecursion IsInside ls → IsNext behind
    → (block_of (text_of (line ∷ ls) ++ behind) ≡ text_of (line ∷ ls)) × (behind_block (text_of (line ∷ ls) ++ behind) ≡ behind)
block_lines line [] behind forms inside next =
    let n = no_newline line forms.0 in
    let e = block_ends behind next in (
      ap block_of (line_front line [] behind) ∙ block_words (words_of line) (10 ∷ behind) n ∙ ap (λ (x : List ℕ). words_of line ++ x) e.0 ∙ sym (line_alone line []),
      ap behind_block (line_front line [] behind) ∙ behind_words (words_of line) (10 ∷ behind) n ∙ e.1,
    )
block_lines line (second ∷ ls) behind forms inside next =
    let n = no_newline line forms.0 in
    let others = block_lines second ls behind forms.1 inside.1 next in
    let bytes = text_of (second ∷ ls) ++ behind in
    let inner : begins_next bytes ≡ false = ap begins_next (line_front second ls behind) ∙ begins_next_cut (words_of second) (text_of ls ++ behind) ∙ inside_begins second inside.0 in
    let e = block_goes_on bytes inner in (
      ap block_of (line_front line (second ∷ ls) behind) ∙ block_words (words_of line) (10 ∷ bytes) n ∙ ap (λ (x : List ℕ). words_of line ++ x) e.0
          ∙ ap (λ (x : List ℕ). words_of line ++ 10 ∷ x) others.0 ∙ sym (line_alone line (second ∷ ls)),
      ap behind_block (line_front line (second ∷ ls) behind) ∙ behind_words (words_of line) (10 ∷ bytes) n ∙ e.1 ∙ others.1,
    )

-- bytes are their block and those behind it
pub block_split : (bytes : List ℕ) → bytes ≡ block_of bytes ++ behind_block bytes
block_split [] = refl
block_split (b ∷ bytes) = by_test (b == 10 && begins_next bytes) (block_split bytes)
  where
    by_test : (t : Bool) → bytes ≡ block_of bytes ++ behind_block bytes → b ∷ bytes ≡ (if t then b ∷ [] else b ∷ block_of bytes) ++ (if t then bytes else behind_block bytes)
    by_test true h = refl
    by_test false h = ap (λ (x : List ℕ). b ∷ x) h

both : (a b : Bool) → a && b ≡ true → b ≡ true
both true b e = e
both false b e = absurd cc

pub block_next : (bytes : List ℕ) → IsNext (behind_block bytes)
block_next [] = inl refl
block_next (b ∷ bytes) = by_test (b == 10 && begins_next bytes) refl (block_next bytes)
  where
    by_test : (t : Bool) → (b == 10 && begins_next bytes) ≡ t → IsNext (behind_block bytes) → IsNext (if t then bytes else behind_block bytes)
    by_test true e h = inr (both (b == 10) (begins_next bytes) e)
    by_test false e h = h
