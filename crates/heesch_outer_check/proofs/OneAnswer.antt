-- An input has one answer.
use Rattle.std.proofs.Common.{◌≡◌, ◌↔◌, ◌⊎◌, inl, inr, ℕ, suc, ◌+◌, ◌≤◌, ◌==◌, true, List, [], ◌∷◌, ◌++◌, length, codes, refl, sym, ap, subst, ◌∙◌, arith}
use Rattle.std.specs.Prelude.{count_by}
use Rattle.std.proofs.lemmas.Bool.{false≢true}
use Rattle.std.proofs.lemmas.List.{length-append}
use Rattle.heesch_grid.specs.Geometry.{Geometry}
use Rattle.heesch_grid.specs.Names.{geometry_of}
use Rattle.heesch_cert.specs.TrueEntry.{IsTrueEntry}
use Rattle.heesch_cert.specs.declared.header.Header.{Header}
use Rattle.heesch_reader.specs.Faults.{begins}
use Rattle.heesch_reader.proofs.SameLines.{same_front}
use Rattle.heesch_check.specs.declared.answers.Checked.{Checked}
use Rattle.heesch_check.specs.declared.answers.Checked.TheVariants as answers
use Rattle.heesch_check.specs.Catalogues.{block_of, behind_block, IsEnd, IsInPlace}
use Rattle.heesch_check.proofs.Blocks.{block_split}
use Rattle.heesch_outer.specs.declared.answers.OuterEntry.{OuterEntry}
use Rattle.heesch_outer.specs.Answer.{IsOuterAnswer}
use Rattle.heesch_outer.specs.Outers.{record_text}
use Rattle.heesch_outer_check.specs.ReadableRecords.{IsReadableRecord}
use Rattle.heesch_outer_check.specs.RecordStatements.{TextsDetermineRecords, TrueRecordsAreReadable}
use Rattle.heesch_outer_check.specs.Records.{AreRecords, IsGoodBlock, IsGoodRecord}
use Rattle.heesch_outer_check.specs.Answers.{IsOutersChecked, IsTooLong, Tells}
use Rattle.heesch_outer_check.specs.Rounds.{IsAnswerBehind}

-- a good record can be read
pub good_readable : TrueRecordsAreReadable → (header : Header) (before : ℕ) (e : OuterEntry) → IsGoodRecord header before e → IsReadableRecord e
good_readable readable header before e good = readable (geometry_of header.grid) header.limits e good.is_true good.entry_forms good.answer_forms

-- the last line begins no record, and a record does
end_begins : (header : Header) (n : ℕ) (rest : List ℕ) → IsEnd header n rest → begins rest (codes "shape ") ≡ true → ⊥
end_begins header n rest end b = let c = subst (λ (x : List ℕ). begins x (codes "shape ") ≡ true) end.text b in absurd cc

record_begins : (rest : List ℕ) (e : OuterEntry) → block_of rest ≡ record_text e → begins rest (codes "shape ") ≡ true
record_begins rest e same = subst (λ (x : List ℕ). begins x (codes "shape ") ≡ true) (sym (block_split rest ∙ ap (λ (x : List ℕ). x ++ behind_block rest) same)) refl

-- no good record stands where the answer is decided
no_further : (header : Header) (n : ℕ) (rest : List ℕ) (c : Checked) → IsAnswerBehind header n rest c → (e : OuterEntry) → IsGoodRecord header n e → block_of rest ≡ record_text e → ⊥
no_further header n rest (answers.Valid count) is e good same = end_begins header n rest is.0 (record_begins rest e same)
no_further header n rest answers.InvalidHeader is e good same = is
no_further header n rest (answers.InvalidEntry number) is e good same = is.1 (record { record_is = e; good = good; text = same })
no_further header n rest answers.InvalidEnd is e good same = false≢true (sym is.0 ∙ record_begins rest e same)
no_further header n rest (answers.TooLong line) is e good same = is

-- one rest has one answer
same_end : (header : Header) (n : ℕ) (rest : List ℕ) (c d : Checked) → IsAnswerBehind header n rest c → IsAnswerBehind header n rest d → c ≡ d
same_end header n rest (answers.Valid count) (answers.Valid other) a b = ap answers.Valid (a.1 ∙ sym b.1)
same_end header n rest (answers.Valid count) answers.InvalidHeader a b = absurd b
same_end header n rest (answers.Valid count) (answers.InvalidEntry number) a b = absurd (end_begins header n rest a.0 b.0)
same_end header n rest (answers.Valid count) answers.InvalidEnd a b = absurd (b.1 a.0)
same_end header n rest (answers.Valid count) (answers.TooLong line) a b = absurd b
same_end header n rest answers.InvalidHeader d a b = absurd a
same_end header n rest (answers.InvalidEntry number) (answers.Valid count) a b = absurd (end_begins header n rest b.0 a.0)
same_end header n rest (answers.InvalidEntry number) answers.InvalidHeader a b = absurd b
same_end header n rest (answers.InvalidEntry number) (answers.InvalidEntry other) a b = ap answers.InvalidEntry (a.2 ∙ sym b.2)
same_end header n rest (answers.InvalidEntry number) answers.InvalidEnd a b = absurd (false≢true (sym b.0 ∙ a.0))
same_end header n rest (answers.InvalidEntry number) (answers.TooLong line) a b = absurd b
same_end header n rest answers.InvalidEnd (answers.Valid count) a b = absurd (a.1 b.0)
same_end header n rest answers.InvalidEnd answers.InvalidHeader a b = absurd b
same_end header n rest answers.InvalidEnd (answers.InvalidEntry number) a b = absurd (false≢true (sym a.0 ∙ b.0))
same_end header n rest answers.InvalidEnd answers.InvalidEnd a b = refl
same_end header n rest answers.InvalidEnd (answers.TooLong line) a b = absurd b
same_end header n rest (answers.TooLong line) d a b = absurd a

-- good records stand in the input, and the answer is decided behind them
record EndsIn (header : Header) (input : List ℕ) (c : Checked) : Type 0 where
  es : List OuterEntry
  rest : List ℕ
  records : AreRecords header 0 input es rest
  ends : IsAnswerBehind header (length es) rest c

ends_in : (header : Header) (input : List ℕ) (c : Checked) → Tells header input c → EndsIn header input c
ends_in header input (answers.Valid count) t = record { es = t.es; rest = t.rest; records = t.records; ends = (t.ends, t.count_is) }
ends_in header input answers.InvalidHeader t = absurd t
ends_in header input (answers.InvalidEntry number) t = record { es = t.es; rest = t.rest; records = t.records; ends = (t.begins_shape, t.no_record, t.number_is) }
ends_in header input answers.InvalidEnd t = record { es = t.es; rest = t.rest; records = t.records; ends = (t.begins_none, t.no_end) }
ends_in header input (answers.TooLong line) t = absurd t

module _ (one : TextsDetermineRecords) (readable : TrueRecordsAreReadable) where
  same_good : (header : Header) (before : ℕ) (e f : OuterEntry) → IsGoodRecord header before e → IsGoodRecord header before f → record_text e ≡ record_text f → e ≡ f
  same_good header before e f a b same = one e f (good_readable readable header before e a) (good_readable readable header before f b) same

  -- of two beginnings by records, whose answers are decided behind them, neither goes on from the other
  along : (header : Header) (before : ℕ) (bytes : List ℕ) (es fs : List OuterEntry) (rest last : List ℕ) (c d : Checked) → AreRecords header before bytes es rest → AreRecords header before bytes fs last
      → IsAnswerBehind header (before + length es) rest c → IsAnswerBehind header (before + length fs) last d → c ≡ d
  along header before bytes [] [] rest last c d a b ends other =
      same_end header (before + 0) rest c d ends (subst (λ (x : List ℕ). IsAnswerBehind header (before + 0) x d) (sym b ∙ a) other)
  along header before bytes [] (f ∷ fs) rest last c d a b ends other =
      let here : before + 0 ≡ before = omega arith in
      absurd (no_further header before bytes c (subst (λ (n : ℕ). IsAnswerBehind header n bytes c) here (subst (λ (x : List ℕ). IsAnswerBehind header (before + 0) x c) (sym a) ends)) f b.0 b.1)
  along header before bytes (e ∷ es) [] rest last c d a b ends other =
      let here : before + 0 ≡ before = omega arith in
      absurd (no_further header before bytes d (subst (λ (n : ℕ). IsAnswerBehind header n bytes d) here (subst (λ (x : List ℕ). IsAnswerBehind header (before + 0) x d) (sym b) other)) e a.0 a.1)
  along header before bytes (e ∷ es) (f ∷ fs) rest last c d a b ends other =
      let more : before + suc (length es) ≡ (before + 1) + length es = omega arith in
      let further : before + suc (length fs) ≡ (before + 1) + length fs = omega arith in
      along header (before + 1) (behind_block bytes) es fs rest last c d a.2 b.2 (subst (λ (n : ℕ). IsAnswerBehind header n rest c) more ends) (subst (λ (n : ℕ). IsAnswerBehind header n last d) further other)

  one_end : (header : Header) (input : List ℕ) (c d : Checked) → Tells header input c → Tells header input d → c ≡ d
  one_end header input c d t u =
      let a = ends_in header input c t in
      let b = ends_in header input d u in
      let from_none : (n : ℕ) → n ≡ 0 + n = λ n. omega arith in
      along header 0 input a.es b.es a.rest b.rest c d a.records b.records (subst (λ (n : ℕ). IsAnswerBehind header n a.rest c) (from_none (length a.es)) a.ends) (subst (λ (n : ℕ). IsAnswerBehind header n b.rest d) (from_none (length b.es)) b.ends)

not_long : (input : List ℕ) (line : ℕ) → length input ≤ 1099511627776 → IsTooLong input line → ⊥
not_long input line few t =
    let whole : length input ≡ length t.front + suc (length t.behind) = ap length t.text ∙ length-append t.front (t.byte ∷ t.behind) in
    let most = t.length_is in
    omega (arith, few, whole, most)

one_line : (input : List ℕ) (line other : ℕ) → IsTooLong input line → IsTooLong input other → line ≡ other
one_line input line other a b =
    let same = same_front a.front b.front (a.byte ∷ a.behind) (b.byte ∷ b.behind) (sym a.text ∙ b.text) (a.length_is ∙ sym b.length_is) in
    a.line_is ∙ ap (λ (x : List ℕ). count_by (λ (n : ℕ). n == 10) x + 1) same ∙ sym b.line_is

-- the input is too long, or is told of
kinds : (header : Header) (input : List ℕ) (c : Checked) → IsOutersChecked header input c → ((length input ≤ 1099511627776) × Tells header input c) ⊎ ((line : ℕ) × (c ≡ answers.TooLong line) × IsTooLong input line)
kinds header input (answers.Valid count) is = inl is
kinds header input answers.InvalidHeader is = inl is
kinds header input (answers.InvalidEntry number) is = inl is
kinds header input answers.InvalidEnd is = inl is
kinds header input (answers.TooLong line) is = inr (line, refl, is)

pub one_answer : TextsDetermineRecords → TrueRecordsAreReadable → (header : Header) (input : List ℕ) (c d : Checked) → IsOutersChecked header input c → IsOutersChecked header input d → c ≡ d
one_answer one readable header input c d a b = elim (kinds header input c a) [
  | inl told ↦ elim (kinds header input d b) [
    | inl other ↦ one_end one readable header input c d told.1 other.1
    | inr long ↦ absurd (not_long input long.0 told.0 long.2)
  ]
  | inr long ↦ elim (kinds header input d b) [
    | inl other ↦ absurd (not_long input long.0 other.0 long.2)
    | inr too ↦ long.1 ∙ ap answers.TooLong (one_line input long.0 too.0 long.2 too.2) ∙ sym too.1
  ]
]

-- ---- blocks

-- what can't be read is no good record
pub unread_not_good : TrueRecordsAreReadable → (header : Header) (before : ℕ) (block : List ℕ) → ((e : OuterEntry) → IsReadableRecord e → block ≡ record_text e → ⊥) → IsGoodBlock header before block → ⊥
unread_not_good readable header before block none good = none good.record_is (good_readable readable header before good.record_is good.good) good.text

-- the good record of a block is the one that was read
pub read_is_good : TextsDetermineRecords → TrueRecordsAreReadable → (header : Header) (before : ℕ) (block : List ℕ) (e : OuterEntry) → block ≡ record_text e → IsReadableRecord e → (good : IsGoodBlock header before block) → IsGoodRecord header before e
read_is_good one readable header before block e text can good =
    let same : good.record_is ≡ e = one good.record_is e (good_readable readable header before good.record_is good.good) can (sym good.text ∙ text) in
    subst (IsGoodRecord header before) same good.good

-- so it tells whether the block is that of a good one
pub read_tells : TextsDetermineRecords → TrueRecordsAreReadable → (header : Header) (before : ℕ) (block : List ℕ) (e : OuterEntry) → block ≡ record_text e → IsReadableRecord e → IsGoodRecord header before e ↔ IsGoodBlock header before block
read_tells one readable header before block e text can = (λ good. record { record_is = e; good = good; text = text }, λ good. read_is_good one readable header before block e text can good)

-- a record that can be read is good where its shape is in its place, it is true, and its answer is allowed
pub parts_tell : (g : Geometry) (header : Header) → geometry_of header.grid ≡ g → (before : ℕ) (e : OuterEntry) → IsReadableRecord e → IsInPlace g header.subject before e.entry.cells
    → (IsTrueEntry g header.limits e.entry × IsOuterAnswer g header.limits e.entry e.answer) ↔ IsGoodRecord header before e
parts_tell g header same before e can place = (
  λ h. record {
    is_true = subst (λ (x : Geometry). IsTrueEntry x header.limits e.entry) (sym same) h.0;
    in_place = subst (λ (x : Geometry). IsInPlace x header.subject before e.entry.cells) (sym same) place;
    is_answer = subst (λ (x : Geometry). IsOuterAnswer x header.limits e.entry e.answer) (sym same) h.1;
    entry_forms = can.entry_forms;
    answer_forms = can.answer_forms;
  },
  λ good. (subst (λ (x : Geometry). IsTrueEntry x header.limits e.entry) same good.is_true, subst (λ (x : Geometry). IsOuterAnswer x header.limits e.entry e.answer) same good.is_answer),
)
