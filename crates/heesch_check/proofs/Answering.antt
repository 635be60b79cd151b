-- The answer of an input where an item is at fault, or reading stops behind items that were judged.
use Rattle.std.proofs.Common.{◌≡◌, inl, inr, ℕ, ◌+◌, true, false, List, [], ◌∷◌, ◌++◌, length, Option, Some, None, refl, sym, ap, subst, ◌∙◌, append_assoc, arith}
use Rattle.std.specs.List.{AllByRecursion, flat_map}
use Rattle.std.proofs.lemmas.List.{append-nil, length-append}
use Rattle.std.proofs.lemmas.List.Concat.{flat_map-append}
use Rattle.heesch_grid.specs.declared.Cell.{Cell}
use Rattle.heesch_grid.specs.Names.{geometry_of}
use Rattle.heesch_cert.specs.declared.entry.Entry.{Entry}
use Rattle.heesch_cert.specs.declared.header.Header.{Header}
use Rattle.heesch_cert.specs.declared.verdict.Verdict.{Verdict}
use Rattle.heesch_text.specs.declared.line.Line.{Line}
use Rattle.heesch_text.specs.declared.line.Line.TheVariants as lines
use Rattle.heesch_text.specs.Lines.{line_text, text_of}
use Rattle.heesch_text.specs.Catalogue.{header_text, entry_lines, entry_text, evidence_lines}
use Rattle.heesch_line.specs.Forms.{IsLine}
use Rattle.heesch_grammar.specs.declared.spot.Spot.{Spot}
use Rattle.heesch_grammar.specs.Grammar.{steps, is_whole}
use Rattle.heesch_grammar.specs.Entries.{HoldsItsLines}
use Rattle.heesch_grammar.proofs.Again.{same_entry}
use Rattle.heesch_grammar.proofs.Truth.{may_stand}
use Rattle.heesch_reader.specs.declared.item.Item.{Item}
use Rattle.heesch_reader.specs.declared.item.Item.TheVariants as items
use Rattle.heesch_reader.specs.declared.progress.Progress.{Progress}
use Rattle.heesch_reader.specs.declared.progress.Progress.TheVariants as stages
use Rattle.heesch_reader.specs.declared.scan.Appended.{Appended}
use Rattle.heesch_reader.specs.Items.{item_lines, lines_of, AreItemsAt, with_item, with_items, none_appended}
use Rattle.heesch_reader.specs.Feeding.{IsInside}
use Rattle.heesch_check.specs.declared.answers.Checked.{Checked}
use Rattle.heesch_check.specs.Answers.{IsInvalidEntry, IsInvalidEnd, Tells}
use Rattle.heesch_check.specs.Catalogues.{block_of, IsGoodEntry, AreAll, AreChecked}
use Rattle.heesch_check.specs.Judging.{AreItemsOf, AreGood, AreJudged, Judges, HoldsLines, IsFit}
use Rattle.heesch_check.proofs.Blocks.{IsNext, block_lines}
use Rattle.heesch_reader.proofs.SameLines.{same_lines}
use Rattle.heesch_reader.proofs.EntryLines.{body_lines, body_inside, not_brief}
use Rattle.heesch_check.proofs.Leading.{IsBoundedTo, end_counts, no_second_header}
use Rattle.heesch_check.proofs.Seen.{IsRead, Stand, placed, checked, counted}

-- ---- the next item

item_some : (item : Item) (ls : List Line) → item_lines item ++ ls ≡ [] → ⊥
item_some (items.Header header) ls e = absurd cc
item_some (items.Entry line entry) ls e = absurd cc
item_some (items.Brief line cells verdict) ls e = absurd cc
item_some (items.End count) ls e = absurd cc

-- where an item follows, no end stands among the judged items
pub none_ended : (input : List ℕ) (header : Header) (front back : List Item) (item : Item) (n : ℕ) (held : List Line) (tail : List ℕ) (reached : Progress) (j : AreJudged header front n)
    → Stand input header j.es (lines_of j.ends ++ (lines_of (item ∷ back) ++ held)) tail reached → j.ends ≡ []
none_ended input header front back item n held tail reached j s = elim j.ends_all [
  | inl none ↦ none
  | inr end ↦
      let goes : steps false s.spot (lines.End end.0 ∷ (lines_of (item ∷ back) ++ held)) ≡ Some s.last = subst (λ (x : List Item). steps false s.spot (lines_of x ++ (lines_of (item ∷ back) ++ held)) ≡ Some s.last) end.1 s.goes_on in
      let stops = (end_counts s.spot s.last end.0 (lines_of (item ∷ back) ++ held) goes).1 in
      absurd (item_some item (lines_of back ++ held) (sym (append_assoc (item_lines item) (lines_of back) held) ∙ stops))
]

-- behind judged items, an item and others, the lines held and the tail stand
pub record Next (input : List ℕ) (header : Header) (es : List Entry) (item : Item) (back : List Item) (held : List Line) (tail : List ℕ) (reached : Progress) : Type 0 where
  pub text : input ≡ header_text header ++ (text_of (flat_map entry_lines es) ++ (text_of (item_lines item) ++ (text_of (lines_of back ++ held) ++ tail)))
  pub form : IsLine (lines.Header header)
  pub forms : AllByRecursion IsLine (item_lines item)
  pub spot : Spot
  pub whole : is_whole spot.place ≡ true
  pub shapes : spot.shapes ≡ length es
  pub last : Spot
  pub goes_on : steps false spot (item_lines item ++ (lines_of back ++ held)) ≡ Some last
  pub reached_is : stages.Behind false last ≡ reached

all_left : (xs ys : List Line) → AllByRecursion IsLine (xs ++ ys) → AllByRecursion IsLine xs
all_left [] ys h = tt
all_left (x ∷ xs) ys h = (h.0, all_left xs ys h.1)

pub next_item : (input : List ℕ) (header : Header) (front back : List Item) (item : Item) (n : ℕ) (held : List Line) (tail : List ℕ) (reached : Progress) → IsBoundedTo header n → header.brief ≡ false
    → (j : AreJudged header front n) → IsRead input (front ++ item ∷ back) held tail reached → (j.ends ≡ []) × Next input header j.es item back held tail reached
next_item input header front back item n held tail reached bound full j read =
    let s = placed input header front (item ∷ back) n held tail reached bound full j read in
    let none = none_ended input header front back item n held tail reached j s in
    let more : lines_of j.ends ++ (lines_of (item ∷ back) ++ held) ≡ item_lines item ++ (lines_of back ++ held) =
    ap (λ (x : List Item). lines_of x ++ (lines_of (item ∷ back) ++ held)) none ∙ append_assoc (item_lines item) (lines_of back) held in
    let bytes : text_of (lines_of j.ends ++ (lines_of (item ∷ back) ++ held)) ++ tail ≡ text_of (item_lines item) ++ (text_of (lines_of back ++ held) ++ tail) =
    ap (λ (x : List Line). text_of x ++ tail) more ∙ ap (λ (x : List ℕ). x ++ tail) (flat_map-append line_text (item_lines item) (lines_of back ++ held))
    ∙ append_assoc (text_of (item_lines item)) (text_of (lines_of back ++ held)) tail in (
      none,
      record {
        text = s.text ∙ ap (λ (x : List ℕ). header_text header ++ (text_of (flat_map entry_lines j.es) ++ x)) bytes;
        form = s.form;
        forms = all_left (item_lines item) (lines_of back ++ held) (subst (AllByRecursion IsLine) more s.forms);
        spot = s.spot;
        whole = s.whole;
        shapes = s.shapes;
        last = s.last;
        goes_on = subst (λ (x : List Line). steps false s.spot x ≡ Some s.last) more s.goes_on;
        reached_is = s.reached_is;
      },
    )

-- what stands behind the next item begins an entry or the end, where that is known of what stands behind the last item
next_behind : (back : List Item) (front held : List Line) (tail : List ℕ) (s last : Spot) → steps false s (front ++ (lines_of back ++ held)) ≡ Some last → (back ≡ [] → IsNext (text_of held ++ tail)) → IsNext (text_of (lines_of back ++ held) ++ tail)
next_behind [] front held tail s last goes h = h refl
next_behind (items.Header header ∷ back) front held tail s last goes h = absurd (no_second_header s last front (lines_of back ++ held) header goes)
next_behind (items.Entry line entry ∷ back) front held tail s last goes h = inr refl
next_behind (items.Brief line cells verdict ∷ back) front held tail s last goes h = inr refl
next_behind (items.End count ∷ back) front held tail s last goes h = inr refl

-- behind the last item nothing stands, or the next entry or the end, where it is an entry
abbrev CountsOne : Item → Type 0
CountsOne item = (a : Appended) → ((with_item a item).entries ≡ a.entries + 1) × ((with_item a item).ended ≡ a.ended)

shown_last : (input : List ℕ) (header : Header) (front : List Item) (item : Item) (n : ℕ) (held : List Line) (tail : List ℕ) (reached : Progress) (j : AreJudged header front n)
    → j.ends ≡ [] → CountsOne item → IsRead input (front ++ item ∷ []) held tail reached → IsNext (text_of held ++ tail)
shown_last input header front item n held tail reached j none one read =
    let c = counted (with_item none_appended (items.Header header)) j.body j.es (item ∷ []) j.are refl in
    let alone : front ≡ items.Header header ∷ j.body = j.split ∙ ap (λ (x : List Item). items.Header header ∷ (j.body ++ x)) none ∙ ap (λ (x : List Item). items.Header header ∷ x) (append-nil j.body) in
    let all : with_items none_appended (front ++ item ∷ []) ≡ with_item c.behind item = ap (λ (x : List Item). with_items none_appended (x ++ item ∷ [])) alone ∙ c.with_is in
    let o = one c.behind in
    let entries : (with_items none_appended (front ++ item ∷ [])).entries ≡ c.behind.entries + 1 = ap (λ (x : Appended). x.entries) all ∙ o.0 in
    read.shown (omega (arith, entries)) (ap (λ (x : Appended). x.ended) all ∙ o.1 ∙ c.ended)

-- ---- an item at fault

-- behind a header and good entries stand a `shape` line and lines inside an entry, and then the next entry or the end, or nothing; they are the text of no good entry
pub record BadBlock (input : List ℕ) (header : Header) (es : List Entry) (cells : List Cell) (inner : List Line) (behind : List ℕ) : Type 0 where
  pub text : input ≡ header_text header ++ (text_of (flat_map entry_lines es) ++ (text_of (lines.Shape cells ∷ inner) ++ behind))
  pub form : IsLine (lines.Header header)
  pub full : header.brief ≡ false
  pub good : AreGood header 0 es
  pub forms : AllByRecursion IsLine (lines.Shape cells ∷ inner)
  pub inside : AllByRecursion IsInside inner
  pub next : IsNext behind
  pub none : (e : Entry) → IsGoodEntry header (length es) e → text_of (lines.Shape cells ∷ inner) ≡ entry_text e → ⊥

pub bad_checked : (input : List ℕ) (header : Header) (es : List Entry) (cells : List Cell) (inner : List Line) (behind : List ℕ) → BadBlock input header es cells inner behind → AreChecked input header es (text_of (lines.Shape cells ∷ inner) ++ behind)
bad_checked input header es cells inner behind b = checked input header es (text_of (lines.Shape cells ∷ inner) ++ behind) b.text b.form b.full b.good (λ some. inr refl)

pub bad_none : (input : List ℕ) (header : Header) (es : List Entry) (cells : List Cell) (inner : List Line) (behind : List ℕ) → BadBlock input header es cells inner behind
    → (e : Entry) → IsGoodEntry header (length es) e → block_of (text_of (lines.Shape cells ∷ inner) ++ behind) ≡ entry_text e → ⊥
bad_none input header es cells inner behind b e g same = b.none e g (sym (block_lines (lines.Shape cells) inner behind b.forms b.inside b.next).0 ∙ same)

pub invalid_block : (input : List ℕ) (header : Header) (es : List Entry) (cells : List Cell) (inner : List Line) (behind : List ℕ) (number : ℕ) → BadBlock input header es cells inner behind → number ≡ length es + 1 → IsInvalidEntry input number
invalid_block input header es cells inner behind number b is = record {
  header = header;
  es = es;
  rest = text_of (lines.Shape cells ∷ inner) ++ behind;
  checked = bad_checked input header es cells inner behind b;
  begins_entry = refl;
  no_entry = bad_none input header es cells inner behind b;
  number_is = is;
}

-- what stands behind an item
abbrev pub behind_item : List Item → List Line → List ℕ → List ℕ
behind_item back held tail = text_of (lines_of back ++ held) ++ tail

-- an item is such a block by its lines, where they are those of no good entry
item_bad : (input : List ℕ) (header : Header) (front back : List Item) (item : Item) (cells : List Cell) (inner : List Line) (n : ℕ) (held : List Line) (tail : List ℕ) (reached : Progress) → IsBoundedTo header n → header.brief ≡ false
    → (j : AreJudged header front n) → IsRead input (front ++ item ∷ back) held tail reached → item_lines item ≡ lines.Shape cells ∷ inner → AllByRecursion IsInside inner → CountsOne item
    → (AllByRecursion IsLine (lines.Shape cells ∷ inner) → (e : Entry) → IsGoodEntry header (length j.es) e → text_of (lines.Shape cells ∷ inner) ≡ entry_text e → ⊥) → BadBlock input header j.es cells inner (behind_item back held tail)
item_bad input header front back item cells inner n held tail reached bound full j read is inside one none =
    let i = next_item input header front back item n held tail reached bound full j read in
    let forms : AllByRecursion IsLine (lines.Shape cells ∷ inner) = subst (AllByRecursion IsLine) is i.1.forms in
    record {
      text = subst (λ (x : List Line). input ≡ header_text header ++ (text_of (flat_map entry_lines j.es) ++ (text_of x ++ behind_item back held tail))) is i.1.text;
      form = i.1.form;
      full = full;
      good = j.good;
      forms = forms;
      inside = inside;
      next = next_behind back (item_lines item) held tail i.1.spot i.1.last i.1.goes_on
          (λ alone. shown_last input header front item n held tail reached j i.0 one (subst (λ (x : List Item). IsRead input (front ++ item ∷ x) held tail reached) alone read));
      none = none forms;
    }

pub entry_bad : (input : List ℕ) (header : Header) (front back : List Item) (line : ℕ) (e : Entry) (n : ℕ) (held : List Line) (tail : List ℕ) (reached : Progress) → IsBoundedTo header n → header.brief ≡ false
    → (j : AreJudged header front n) → IsRead input (front ++ items.Entry line e ∷ back) held tail reached → HoldsItsLines e → (IsGoodEntry header n e → ⊥) → BadBlock input header j.es e.cells (body_lines e) (behind_item back held tail)
entry_bad input header front back line e n held tail reached bound full j read holds bad =
    item_bad input header front back (items.Entry line e) e.cells (body_lines e) n held tail reached bound full j read refl (body_inside e) (λ a. (refl, refl))
    (λ forms other good same.
    let one : e ≡ other = same_entry e other holds (may_stand (geometry_of header.grid) header.limits other good.is_true).holds (same_lines (entry_lines e) (entry_lines other) forms good.forms same) in
    bad (subst (λ (x : ℕ). IsGoodEntry header x e) (sym j.count) (subst (λ (x : Entry). IsGoodEntry header (length j.es) x) (sym one) good)))

entry_fault : (input : List ℕ) (header : Header) (front back : List Item) (line : ℕ) (e : Entry) (n : ℕ) (held : List Line) (tail : List ℕ) (reached : Progress) → IsBoundedTo header n → header.brief ≡ false
    → AreJudged header front n → IsRead input (front ++ items.Entry line e ∷ back) held tail reached → HoldsItsLines e → (IsGoodEntry header n e → ⊥) → IsInvalidEntry input (n + 1)
entry_fault input header front back line e n held tail reached bound full j read holds bad =
    invalid_block input header j.es e.cells (body_lines e) (behind_item back held tail) (n + 1) (entry_bad input header front back line e n held tail reached bound full j read holds bad) (ap (λ (x : ℕ). x + 1) j.count)

pub brief_bad : (input : List ℕ) (header : Header) (front back : List Item) (line : ℕ) (cells : List Cell) (verdict : Verdict) (n : ℕ) (held : List Line) (tail : List ℕ) (reached : Progress) → IsBoundedTo header n → header.brief ≡ false
    → (j : AreJudged header front n) → IsRead input (front ++ items.Brief line cells verdict ∷ back) held tail reached → BadBlock input header j.es cells (lines.Verdict verdict ∷ []) (behind_item back held tail)
brief_bad input header front back line cells verdict n held tail reached bound full j read =
    item_bad input header front back (items.Brief line cells verdict) cells (lines.Verdict verdict ∷ []) n held tail reached bound full j read refl (tt, tt) (λ a. (refl, refl))
    (λ forms other good same.
    let one : lines.Shape cells ∷ lines.Verdict verdict ∷ [] ≡ entry_lines other = same_lines (lines.Shape cells ∷ lines.Verdict verdict ∷ []) (entry_lines other) forms good.forms same in
    let none : evidence_lines other.verdict other.evidence ≡ [] = cc in
    not_brief other.verdict other.evidence none)

pub brief_fault : (input : List ℕ) (header : Header) (front back : List Item) (line : ℕ) (cells : List Cell) (verdict : Verdict) (n : ℕ) (held : List Line) (tail : List ℕ) (reached : Progress) → IsBoundedTo header n → header.brief ≡ false
    → AreJudged header front n → IsRead input (front ++ items.Brief line cells verdict ∷ back) held tail reached → IsInvalidEntry input (n + 1)
brief_fault input header front back line cells verdict n held tail reached bound full j read =
    invalid_block input header j.es cells (lines.Verdict verdict ∷ []) (behind_item back held tail) (n + 1) (brief_bad input header front back line cells verdict n held tail reached bound full j read) (ap (λ (x : ℕ). x + 1) j.count)

end_fault : (input : List ℕ) (header : Header) (front back : List Item) (count n : ℕ) (held : List Line) (tail : List ℕ) (reached : Progress) → IsBoundedTo header n → header.brief ≡ false
    → AreJudged header front n → IsRead input (front ++ items.End count ∷ back) held tail reached → (AreAll header header.subject n → ⊥) → IsInvalidEnd input
end_fault input header front back count n held tail reached bound full j read bad =
    let i = next_item input header front back (items.End count) n held tail reached bound full j read in
    let rest = text_of (lines.End count ∷ []) ++ (text_of (lines_of back ++ held) ++ tail) in
    record {
      header = header;
      es = j.es;
      rest = rest;
      checked = checked input header j.es rest i.1.text i.1.form full j.good (λ some. inr refl);
      begins_none = refl;
      no_end = λ end. bad (subst (AreAll header header.subject) (sym j.count) end.all);
    }

-- ---- an item that isn't at fault

one_more_item : (body : List Item) (es : List Entry) (line : ℕ) (e : Entry) → AreItemsOf body es → AreItemsOf (body ++ items.Entry line e ∷ []) (es ++ e ∷ [])
one_more_item [] [] line e are = (refl, tt)
one_more_item [] (x ∷ es) line e are = absurd are
one_more_item (items.Entry at entry ∷ body) [] line e are = absurd are
one_more_item (items.Entry at entry ∷ body) (x ∷ es) line e are = (are.0, one_more_item body es line e are.1)
one_more_item (items.Header header ∷ body) es line e are = absurd are
one_more_item (items.Brief at cells verdict ∷ body) es line e are = absurd are
one_more_item (items.End count ∷ body) es line e are = absurd are

one_more_good : (header : Header) (before : ℕ) (es : List Entry) (e : Entry) → AreGood header before es → IsGoodEntry header (before + length es) e → AreGood header before (es ++ e ∷ [])
one_more_good header before [] e good more = (subst (λ (x : ℕ). IsGoodEntry header x e) (omega arith) more, tt)
one_more_good header before (x ∷ es) e good more = (good.0, one_more_good header (before + 1) es e good.1 (subst (λ (k : ℕ). IsGoodEntry header k e) (omega arith) more))

more_judged : (header : Header) (front : List Item) (line : ℕ) (e : Entry) (n : ℕ) → (j : AreJudged header front n) → j.ends ≡ [] → IsGoodEntry header n e → AreJudged header (front ++ items.Entry line e ∷ []) (n + 1)
more_judged header front line e n j none good =
    let alone : front ≡ items.Header header ∷ j.body = j.split ∙ ap (λ (x : List Item). items.Header header ∷ (j.body ++ x)) none ∙ ap (λ (x : List Item). items.Header header ∷ x) (append-nil j.body) in
    let body = j.body ++ items.Entry line e ∷ [] in
    let long : length (j.es ++ e ∷ []) ≡ length j.es + 1 = simp length-append (omega arith) in
    record {
      es = j.es ++ e ∷ [];
      body = body;
      ends = [];
      split = ap (λ (x : List Item). x ++ items.Entry line e ∷ []) alone ∙ ap (λ (x : List Item). items.Header header ∷ x) (sym (append-nil body));
      are = one_more_item j.body j.es line e j.are;
      good = one_more_good header 0 j.es e j.good (subst (λ (x : ℕ). IsGoodEntry header x e) (j.count ∙ omega arith) good);
      count = omega (arith, j.count, long);
      ends_all = inl refl;
    }

end_judged : (header : Header) (front : List Item) (count n : ℕ) → (j : AreJudged header front n) → j.ends ≡ [] → AreAll header header.subject n → AreJudged header (front ++ items.End count ∷ []) n
end_judged header front count n j none all =
    let alone : front ≡ items.Header header ∷ j.body = j.split ∙ ap (λ (x : List Item). items.Header header ∷ (j.body ++ x)) none ∙ ap (λ (x : List Item). items.Header header ∷ x) (append-nil j.body) in
    record {
      es = j.es;
      body = j.body;
      ends = items.End count ∷ [];
      split = ap (λ (x : List Item). x ++ items.End count ∷ []) alone;
      are = j.are;
      good = j.good;
      count = j.count;
      ends_all = inr (count, refl, subst (AreAll header header.subject) j.count all);
    }

-- ---- a judgement

-- the answer is that of the input, or the item belongs to those that were judged
abbrev pub Settled : List ℕ → Header → List Item → (after : ℕ) → Option Checked → Type 0
Settled input header judged after (Some answer) = Tells input answer
Settled input header judged after None = AreJudged header judged after

entry_settled : (input : List ℕ) (header : Header) (front back : List Item) (line : ℕ) (e : Entry) (before after : ℕ) (held : List Line) (tail : List ℕ) (reached : Progress) (result : Option Checked)
    → IsBoundedTo header before → header.brief ≡ false → (j : AreJudged header front before) → IsRead input (front ++ items.Entry line e ∷ back) held tail reached → HoldsItsLines e
    → Judges header before after (items.Entry line e) result → Settled input header (front ++ items.Entry line e ∷ []) after result
entry_settled input header front back line e before after held tail reached None bound full j read holds judges =
    let i = next_item input header front back (items.Entry line e) before held tail reached bound full j read in
    subst (AreJudged header (front ++ items.Entry line e ∷ [])) (sym judges.1) (more_judged header front line e before j i.0 judges.0)
entry_settled input header front back line e before after held tail reached (Some answer) bound full j read holds judges =
    subst (Tells input) (sym judges.0) (entry_fault input header front back line e before held tail reached bound full j read holds judges.1)

end_settled : (input : List ℕ) (header : Header) (front back : List Item) (count before after : ℕ) (held : List Line) (tail : List ℕ) (reached : Progress) (result : Option Checked)
    → IsBoundedTo header before → header.brief ≡ false → (j : AreJudged header front before) → IsRead input (front ++ items.End count ∷ back) held tail reached
    → Judges header before after (items.End count) result → Settled input header (front ++ items.End count ∷ []) after result
end_settled input header front back count before after held tail reached None bound full j read judges =
    let i = next_item input header front back (items.End count) before held tail reached bound full j read in
    subst (AreJudged header (front ++ items.End count ∷ [])) (sym judges.1) (end_judged header front count before j i.0 judges.0)
end_settled input header front back count before after held tail reached (Some answer) bound full j read judges =
    subst (Tells input) (sym judges.0) (end_fault input header front back count before held tail reached bound full j read judges.1)

-- what is judged of an item behind those that were judged
pub settled : (input : List ℕ) (header : Header) (front back : List Item) (item : Item) (before after : ℕ) (held : List Line) (tail : List ℕ) (reached : Progress) (result : Option Checked)
    → IsBoundedTo header before → header.brief ≡ false → (j : AreJudged header front before) → IsRead input (front ++ item ∷ back) held tail reached → HoldsLines item
    → Judges header before after item result → Settled input header (front ++ item ∷ []) after result
settled input header front back (items.Header other) before after held tail reached result bound full j read holds judges =
    let i = next_item input header front back (items.Header other) before held tail reached bound full j read in
    absurd (no_second_header i.1.spot i.1.last [] (lines_of back ++ held) other i.1.goes_on)
settled input header front back (items.Entry line e) before after held tail reached result bound full j read holds judges =
    entry_settled input header front back line e before after held tail reached result bound full j read holds judges
settled input header front back (items.Brief line cells verdict) before after held tail reached result bound full j read holds judges =
    subst (λ (x : Option Checked). Settled input header (front ++ items.Brief line cells verdict ∷ []) after x) (sym judges)
    (brief_fault input header front back line cells verdict before held tail reached bound full j read)
settled input header front back (items.End count) before after held tail reached result bound full j read holds judges =
    end_settled input header front back count before after held tail reached result bound full j read judges

pub holds_at : (before : ℕ) (front back : List Item) (item : Item) → AreItemsAt before (front ++ item ∷ back) → HoldsLines item
holds_at before [] back (items.Header header) h = tt
holds_at before [] back (items.Entry line e) h = h.0.1
holds_at before [] back (items.Brief line cells verdict) h = tt
holds_at before [] back (items.End count) h = tt
holds_at before (x ∷ front) back item h = holds_at (before + length (item_lines x)) front back item h.1

pub fit : (input : List ℕ) (header : Header) (front back : List Item) (item : Item) (n : ℕ) (held : List Line) (tail : List ℕ) (reached : Progress) → IsBoundedTo header n → header.brief ≡ false
    → AreJudged header front n → IsRead input (front ++ item ∷ back) held tail reached → IsFit item
fit input header front back item n held tail reached bound full j read = record {
  forms = (next_item input header front back item n held tail reached bound full j read).1.forms;
  holds = holds_at 0 front back item read.numbered;
}
