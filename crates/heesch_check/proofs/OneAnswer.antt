-- An input has one answer.
use Rattle.std.proofs.Common.{◌≡◌, ◌⊎◌, inl, inr, ℕ, ◌+◌, ◌≤◌, ◌==◌, true, false, List, [], ◌∷◌, ◌++◌, length, codes, refl, sym, ap, subst, ◌∙◌, append_assoc, arith}
use Rattle.std.specs.Prelude.{count_by}
use Rattle.std.proofs.lemmas.Bool.{false≢true}
use Rattle.std.proofs.lemmas.List.{append-nil, length-append}
use Rattle.heesch_grid.specs.Names.{geometry_of}
use Rattle.heesch_cert.specs.declared.entry.Entry.{Entry}
use Rattle.heesch_cert.specs.declared.header.Header.{Header}
use Rattle.heesch_text.specs.declared.line.Line.TheVariants as lines
use Rattle.heesch_text.specs.Lines.{words_of}
use Rattle.heesch_text.specs.Catalogue.{header_text, entry_lines, entry_text}
use Rattle.heesch_line.proofs.LinesAgain.{words_tell}
use Rattle.heesch_line.proofs.Newlines.{no_newline}
use Rattle.heesch_grammar.proofs.Again.{same_entry}
use Rattle.heesch_grammar.proofs.Truth.{may_stand}
use Rattle.heesch_reader.specs.Faults.{begins}
use Rattle.heesch_check.specs.declared.answers.Checked.{Checked}
use Rattle.heesch_check.specs.declared.answers.Checked.TheVariants as answers
use Rattle.heesch_check.specs.Answers.{IsValid, HasNoHeader, IsInvalidEntry, IsInvalidEnd, IsTooLong, IsDecided, IsChecked}
use Rattle.heesch_check.specs.Catalogues.{block_of, behind_block, IsGoodEntry, AreBlocks, IsHeaded, AreChecked, IsEnd}
use Rattle.heesch_check.proofs.Blocks.{block_split}
use Rattle.heesch_reader.proofs.SameLines.{same_lines, one_first_line, same_front}
use Rattle.heesch_check.proofs.Headers.{header_front}

-- ---- one header

pub same_header : (input body other : List ℕ) (h k : Header) → IsHeaded input h body → IsHeaded input k other → (h ≡ k) × (body ≡ other)
same_header input body other h k a b =
    let bytes : words_of (lines.Header h) ++ 10 ∷ body ≡ words_of (lines.Header k) ++ 10 ∷ other = sym (header_front h body) ∙ sym a.text ∙ b.text ∙ header_front k other in
    let s = one_first_line (words_of (lines.Header h)) (words_of (lines.Header k)) body other (no_newline (lines.Header h) a.form) (no_newline (lines.Header k) b.form) bytes in
    let same : lines.Header h ≡ lines.Header k = words_tell (lines.Header h) (lines.Header k) a.form b.form s.0 in
    let one : h ≡ k = cc in
    (one, s.1)

-- ---- one list of entries, as far as both go

-- the second entries go on from the first
pub record Further (header : Header) (before : ℕ) (es fs : List Entry) (rest last : List ℕ) : Type 0 where
  pub more : List Entry
  pub are : fs ≡ es ++ more
  pub blocks : AreBlocks header (before + length es) rest more last

same_good : (header : Header) (before : ℕ) (e f : Entry) → IsGoodEntry header before e → IsGoodEntry header before f → entry_text e ≡ entry_text f → e ≡ f
same_good header before e f a b same =
    let holds = (may_stand (geometry_of header.grid) header.limits e a.is_true).holds in
    let holds_too = (may_stand (geometry_of header.grid) header.limits f b.is_true).holds in
    same_entry e f holds holds_too (same_lines (entry_lines e) (entry_lines f) a.forms b.forms same)

from_here : (header : Header) (before : ℕ) (bytes rest last : List ℕ) (fs : List Entry) → bytes ≡ rest → AreBlocks header before bytes fs last → Further header before [] fs rest last
from_here header before bytes rest last fs e b = record {
  more = fs;
  are = refl;
  blocks = subst (λ (n : ℕ). AreBlocks header n rest fs last) (omega arith) (subst (λ (x : List ℕ). AreBlocks header before x fs last) e b);
}

one_further : (header : Header) (before : ℕ) (e f : Entry) (es fs : List Entry) (rest last : List ℕ) → e ≡ f → Further header (before + 1) es fs rest last → Further header before (e ∷ es) (f ∷ fs) rest last
one_further header before e f es fs rest last same r = record {
  more = r.more;
  are = ap (λ (x : List Entry). f ∷ x) r.are ∙ ap (λ (x : Entry). x ∷ (es ++ r.more)) (sym same);
  blocks = subst (λ (n : ℕ). AreBlocks header n rest r.more last) (omega arith) r.blocks;
}

pub along_blocks : (header : Header) (before : ℕ) (bytes : List ℕ) (es fs : List Entry) (rest last : List ℕ) → AreBlocks header before bytes es rest → AreBlocks header before bytes fs last
    → Further header before es fs rest last ⊎ Further header before fs es last rest
along_blocks header before bytes [] fs rest last a b = inl (from_here header before bytes rest last fs a b)
along_blocks header before bytes (e ∷ es) [] rest last a b = inr (from_here header before bytes last rest (e ∷ es) b a)
along_blocks header before bytes (e ∷ es) (f ∷ fs) rest last a b =
    let same = same_good header before e f a.0 b.0 (sym a.1 ∙ b.1) in
    elim (along_blocks header (before + 1) (behind_block bytes) es fs rest last a.2 b.2) [
      | inl r ↦ inl (one_further header before e f es fs rest last same r)
      | inr r ↦ inr (one_further header before f e fs es last rest (sym same) r)
    ]

-- ---- what ends the entries

-- behind so many good entries, the rest has this answer
abbrev Ends : Header → ℕ → List ℕ → Checked → Type 0
Ends header n rest (answers.Valid count) = IsEnd header n rest × (count ≡ n)
Ends header n rest (answers.InvalidEntry number) = (begins rest (codes "shape ") ≡ true) × ((e : Entry) → IsGoodEntry header n e → block_of rest ≡ entry_text e → ⊥) × (number ≡ n + 1)
Ends header n rest answers.InvalidEnd = (begins rest (codes "shape ") ≡ false) × (IsEnd header n rest → ⊥)
Ends header n rest answers.InvalidHeader = ⊥
Ends header n rest (answers.TooLong line) = ⊥

record EndsIn (input : List ℕ) (c : Checked) : Type 0 where
  header : Header
  es : List Entry
  rest : List ℕ
  checked : AreChecked input header es rest
  ends : Ends header (length es) rest c

-- the last line begins no entry
pub end_begins : (header : Header) (n : ℕ) (rest : List ℕ) → IsEnd header n rest → begins rest (codes "shape ") ≡ true → ⊥
end_begins header n rest end b = let c = subst (λ (x : List ℕ). begins x (codes "shape ") ≡ true) end.text b in absurd cc

pub begins_entry : (rest : List ℕ) (e : Entry) → block_of rest ≡ entry_text e → begins rest (codes "shape ") ≡ true
begins_entry rest e same = subst (λ (x : List ℕ). begins x (codes "shape ") ≡ true) (sym (block_split rest ∙ ap (λ (x : List ℕ). x ++ behind_block rest) same)) refl

-- no good entry stands there
no_further : (header : Header) (n : ℕ) (rest : List ℕ) (c : Checked) → Ends header n rest c → (e : Entry) → IsGoodEntry header n e → block_of rest ≡ entry_text e → ⊥
no_further header n rest (answers.Valid count) ends e good same = end_begins header n rest ends.0 (begins_entry rest e same)
no_further header n rest answers.InvalidHeader ends e good same = ends
no_further header n rest (answers.InvalidEntry number) ends e good same = ends.1 e good same
no_further header n rest answers.InvalidEnd ends e good same = false≢true (sym ends.0 ∙ begins_entry rest e same)
no_further header n rest (answers.TooLong line) ends e good same = ends

-- one rest has one answer
same_end : (header : Header) (n : ℕ) (rest : List ℕ) (c d : Checked) → Ends header n rest c → Ends header n rest d → c ≡ d
same_end header n rest (answers.Valid count) (answers.Valid other) a b = ap answers.Valid (a.1 ∙ sym b.1)
same_end header n rest (answers.Valid count) answers.InvalidHeader a b = absurd b
same_end header n rest (answers.Valid count) (answers.InvalidEntry number) a b = absurd (end_begins header n rest a.0 b.0)
same_end header n rest (answers.Valid count) answers.InvalidEnd a b = absurd (b.1 a.0)
same_end header n rest (answers.Valid count) (answers.TooLong line) a b = absurd b
same_end header n rest answers.InvalidHeader d a b = absurd a
same_end header n rest (answers.InvalidEntry number) (answers.Valid count) a b = absurd (end_begins header n rest b.0 a.0)
same_end header n rest (answers.InvalidEntry number) answers.InvalidHeader a b = absurd b
same_end header n rest (answers.InvalidEntry number) (answers.InvalidEntry other) a b = ap answers.InvalidEntry (a.2 ∙ sym b.2)
same_end header n rest (answers.InvalidEntry number) answers.InvalidEnd a b = absurd (false≢true (sym b.0 ∙ a.0))
same_end header n rest (answers.InvalidEntry number) (answers.TooLong line) a b = absurd b
same_end header n rest answers.InvalidEnd (answers.Valid count) a b = absurd (a.1 b.0)
same_end header n rest answers.InvalidEnd answers.InvalidHeader a b = absurd b
same_end header n rest answers.InvalidEnd (answers.InvalidEntry number) a b = absurd (false≢true (sym a.0 ∙ b.0))
same_end header n rest answers.InvalidEnd answers.InvalidEnd a b = refl
same_end header n rest answers.InvalidEnd (answers.TooLong line) a b = absurd b
same_end header n rest (answers.TooLong line) d a b = absurd a

-- where the second entries go on from the first, they are the first
further_same : (header : Header) (es fs : List Entry) (rest last : List ℕ) (c d : Checked) → Further header 0 es fs rest last → Ends header (length es) rest c → Ends header (length fs) last d → c ≡ d
further_same header es fs rest last c d r a b = by_more r.more r.are r.blocks
  where
    by_more : (more : List Entry) → fs ≡ es ++ more → AreBlocks header (0 + length es) rest more last → c ≡ d
    by_more [] are blocks =
        let same : fs ≡ es = are ∙ append-nil es in
        same_end header (length es) rest c d a (subst (λ (x : List ℕ). Ends header (length es) x d) (sym blocks) (subst (λ (x : List Entry). Ends header (length x) last d) same b))
    by_more (e ∷ more) are blocks = absurd (no_further header (length es) rest c a e (subst (λ (n : ℕ). IsGoodEntry header n e) (omega arith) blocks.0) blocks.1)

one_end : (input : List ℕ) (c d : Checked) → EndsIn input c → EndsIn input d → c ≡ d
one_end input c d a b =
    let s = same_header input a.checked.body b.checked.body a.header b.header a.checked.headed b.checked.headed in
    let over : AreBlocks a.header 0 a.checked.body b.es b.rest = subst (λ (h : Header). AreBlocks h 0 a.checked.body b.es b.rest) (sym s.0) (subst (λ (x : List ℕ). AreBlocks b.header 0 x b.es b.rest) (sym s.1) b.checked.blocks) in
    let ends : Ends a.header (length b.es) b.rest d = subst (λ (h : Header). Ends h (length b.es) b.rest d) (sym s.0) b.ends in
    elim (along_blocks a.header 0 a.checked.body a.es b.es a.rest b.rest a.checked.blocks over) [
      | inl r ↦ further_same a.header a.es b.es a.rest b.rest c d r a.ends ends
      | inr r ↦ sym (further_same a.header b.es a.es b.rest a.rest d c r ends a.ends)
    ]

-- ---- the answer

not_long : (input : List ℕ) (line : ℕ) → length input ≤ 1099511627776 → IsTooLong input line → ⊥
not_long input line few t =
    let whole : length input ≡ length t.front + (1 + length t.behind) = ap length t.text ∙ length-append t.front (t.byte ∷ t.behind) ∙ omega arith in
    let most = t.length_is in
    omega (arith, few, whole, most)

valid_ends : (input : List ℕ) (count : ℕ) → IsValid input count → EndsIn input (answers.Valid count)
valid_ends input count v = record { header = v.header; es = v.es; rest = v.rest; checked = v.checked; ends = (v.ends, v.count_is) }

entry_ends : (input : List ℕ) (number : ℕ) → IsInvalidEntry input number → EndsIn input (answers.InvalidEntry number)
entry_ends input number v = record { header = v.header; es = v.es; rest = v.rest; checked = v.checked; ends = (v.begins_entry, v.no_entry, v.number_is) }

end_ends : (input : List ℕ) → IsInvalidEnd input → EndsIn input answers.InvalidEnd
end_ends input v = record { header = v.header; es = v.es; rest = v.rest; checked = v.checked; ends = (v.begins_none, v.no_end) }

-- an input that isn't longer than is read is decided
pub short_decided : (input : List ℕ) → length input ≤ 1099511627776 → IsDecided input
short_decided input few line t = not_long input line few t

-- an input that has no header isn't open
pub no_header_decided : (input : List ℕ) → HasNoHeader input → IsDecided input
no_header_decided input none line t =
    let h = t.goes_on.checked.headed in
    none t.goes_on.header (t.goes_on.checked.body ++ t.byte ∷ t.behind) (record {
      text = t.text ∙ ap (λ (x : List ℕ). x ++ t.byte ∷ t.behind) h.text ∙ append_assoc (header_text t.goes_on.header) t.goes_on.checked.body (t.byte ∷ t.behind);
      form = h.form;
      full = h.full;
    })

-- an answer is of the header, or of what stands behind it, or says that the input is too long
kinds : (input : List ℕ) (c : Checked) → IsChecked input c → ((c ≡ answers.InvalidHeader) × HasNoHeader input) ⊎ ((EndsIn input c × IsDecided input) ⊎ ((line : ℕ) × (c ≡ answers.TooLong line) × IsTooLong input line))
kinds input (answers.Valid count) v = inr (inl (valid_ends input count v.0, v.1))
kinds input answers.InvalidHeader v = inl (refl, v.0)
kinds input (answers.InvalidEntry number) v = inr (inl (entry_ends input number v.0, v.1))
kinds input answers.InvalidEnd v = inr (inl (end_ends input v.0, v.1))
kinds input (answers.TooLong line) v = inr (inr (line, refl, v.0))

one_line : (input : List ℕ) (line other : ℕ) → IsTooLong input line → IsTooLong input other → line ≡ other
one_line input line other a b =
    let same = same_front a.front b.front (a.byte ∷ a.behind) (b.byte ∷ b.behind) (sym a.text ∙ b.text) (a.length_is ∙ sym b.length_is) in
    a.line_is ∙ ap (λ (x : List ℕ). count_by (λ (n : ℕ). n == 10) x + 1) same ∙ sym b.line_is

pub one_answer : (input : List ℕ) (c d : Checked) → IsChecked input c → IsChecked input d → c ≡ d
one_answer input c d a b = elim (kinds input c a) [
  | inl none ↦ elim (kinds input d b) [
    | inl too ↦ none.0 ∙ sym too.0
    | inr others ↦ elim others [
      | inl end ↦ absurd (none.1 end.0.header end.0.checked.body end.0.checked.headed)
      | inr long ↦ absurd (no_header_decided input none.1 long.0 long.2)
    ]
  ]
  | inr one ↦ elim one [
    | inl end ↦ elim (kinds input d b) [
      | inl none ↦ absurd (none.1 end.0.header end.0.checked.body end.0.checked.headed)
      | inr others ↦ elim others [
        | inl other ↦ one_end input c d end.0 other.0
        | inr long ↦ absurd (end.1 long.0 long.2)
      ]
    ]
    | inr long ↦ elim (kinds input d b) [
      | inl none ↦ absurd (no_header_decided input none.1 long.0 long.2)
      | inr others ↦ elim others [
        | inl end ↦ absurd (end.1 long.0 long.2)
        | inr too ↦ long.1 ∙ ap answers.TooLong (one_line input long.0 too.0 long.2 too.2) ∙ sym too.1
      ]
    ]
  ]
]
