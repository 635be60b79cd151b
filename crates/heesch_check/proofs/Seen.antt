-- What was read of an input, where the items were judged to a place.
use Rattle.std.proofs.Common.{◌≡◌, ◌≢◌, inr, ℕ, ◌+◌, ◌<◌, Bool, true, false, List, [], ◌∷◌, ◌++◌, length, Some, refl, sym, ap, subst, ◌∙◌, append_assoc, arith}
use Rattle.std.specs.List.{AllByRecursion, flat_map}
use Rattle.std.proofs.lemmas.List.Concat.{flat_map-append}
use Rattle.heesch_cert.specs.declared.entry.Entry.{Entry}
use Rattle.heesch_cert.specs.declared.header.Header.{Header}
use Rattle.heesch_text.specs.declared.line.Line.{Line}
use Rattle.heesch_text.specs.declared.line.Line.TheVariants as lines
use Rattle.heesch_text.specs.Lines.{line_text, text_of}
use Rattle.heesch_text.specs.Catalogue.{header_text, entry_lines}
use Rattle.heesch_line.specs.Forms.{IsLine}
use Rattle.heesch_grammar.specs.declared.spot.Spot.{Spot}
use Rattle.heesch_grammar.specs.Grammar.{steps, is_whole}
use Rattle.heesch_grammar.specs.Statements.{start}
use Rattle.heesch_grammar.proofs.Running.{steps_through}
use Rattle.heesch_reader.specs.declared.item.Item.{Item}
use Rattle.heesch_reader.specs.declared.item.Item.TheVariants as items
use Rattle.heesch_reader.specs.declared.progress.Progress.{Progress}
use Rattle.heesch_reader.specs.declared.progress.Progress.TheVariants as stages
use Rattle.heesch_reader.specs.declared.scan.Appended.{Appended}
use Rattle.heesch_reader.specs.Progress.{walk, Lead}
use Rattle.heesch_reader.specs.Items.{item_lines, lines_of, AreItemsAt, with_item, with_items, none_appended}
use Rattle.heesch_reader.specs.Feeding.{BeginEntry}
use Rattle.heesch_reader.proofs.Walking.{walk_behind}
use Rattle.heesch_check.specs.Catalogues.{block_of, behind_block, AreBlocks, AreChecked}
use Rattle.heesch_check.specs.Judging.{AreItemsOf, AreGood, AreJudged}
use Rattle.heesch_check.proofs.Blocks.{IsNext, block_lines}
use Rattle.heesch_reader.proofs.EntryLines.{body_lines, body_inside}
use Rattle.heesch_check.proofs.Leading.{IsBoundedTo, over_entries}

-- ---- what was read

-- the input is the text of items, of lines of one more entry, and a tail; the lines may stand from the start on, and behind the last entry nothing stands, or the next entry or the end begins
pub record IsRead (input : List ℕ) (all : List Item) (held : List Line) (tail : List ℕ) (reached : Progress) : Type 0 where
  pub text : input ≡ text_of (lines_of all ++ held) ++ tail
  pub lead : Lead stages.Start (lines_of all ++ held) reached
  pub numbered : AreItemsAt 0 all
  pub one_entry : BeginEntry held
  pub shown : 0 < (with_items none_appended all).entries → (with_items none_appended all).ended ≡ false → IsNext (text_of held ++ tail)

-- ---- the lines of judged items

lines_append : (xs ys : List Item) → lines_of (xs ++ ys) ≡ lines_of xs ++ lines_of ys
lines_append xs ys = flat_map-append item_lines xs ys

body_lines_are : (body : List Item) (es : List Entry) → AreItemsOf body es → lines_of body ≡ flat_map entry_lines es
body_lines_are [] [] a = refl
body_lines_are [] (e ∷ es) a = absurd a
body_lines_are (items.Entry line entry ∷ body) [] a = absurd a
body_lines_are (items.Entry line entry ∷ body) (e ∷ es) a = ap (λ (x : Entry). entry_lines x ++ lines_of body) a.0 ∙ ap (λ (x : List Line). entry_lines e ++ x) (body_lines_are body es a.1)
body_lines_are (items.Header header ∷ body) es a = absurd a
body_lines_are (items.Brief line cells verdict ∷ body) es a = absurd a
body_lines_are (items.End count ∷ body) es a = absurd a

pub judged_lines : (header : Header) (front : List Item) (n : ℕ) (j : AreJudged header front n) (rest : List Item) (held : List Line)
    → lines_of (front ++ rest) ++ held ≡ lines.Header header ∷ (flat_map entry_lines j.es ++ (lines_of j.ends ++ (lines_of rest ++ held)))
judged_lines header front n j rest held =
    let whole : lines_of (front ++ rest) ++ held ≡ lines.Header header ∷ (lines_of ((j.body ++ j.ends) ++ rest) ++ held) = ap (λ (x : List Item). lines_of (x ++ rest) ++ held) j.split in
    let inner : lines_of ((j.body ++ j.ends) ++ rest) ++ held ≡ flat_map entry_lines j.es ++ (lines_of j.ends ++ (lines_of rest ++ held)) =
    ap (λ (x : List Line). x ++ held) (lines_append (j.body ++ j.ends) rest)
    ∙ ap (λ (x : List Line). (x ++ lines_of rest) ++ held) (lines_append j.body j.ends ∙ ap (λ (x : List Line). x ++ lines_of j.ends) (body_lines_are j.body j.es j.are))
    ∙ ap (λ (x : List Line). x ++ held) (append_assoc (flat_map entry_lines j.es) (lines_of j.ends) (lines_of rest))
    ∙ append_assoc (flat_map entry_lines j.es) (lines_of j.ends ++ lines_of rest) held
    ∙ ap (λ (x : List Line). flat_map entry_lines j.es ++ x) (append_assoc (lines_of j.ends) (lines_of rest) held) in
    whole ∙ ap (λ (x : List Line). lines.Header header ∷ x) inner

-- what the items behind a header say of entries and an end
pub record Counted (a : Appended) (body more : List Item) (n : ℕ) : Type 0 where
  pub behind : Appended
  pub with_is : with_items a (body ++ more) ≡ with_items behind more
  pub ended : behind.ended ≡ false
  pub entries : behind.entries ≡ a.entries + n

pub counted : (a : Appended) (body : List Item) (es : List Entry) (more : List Item) → AreItemsOf body es → a.ended ≡ false → Counted a body more (length es)
counted a [] [] more are e = record { behind = a; with_is = refl; ended = e; entries = omega arith }
counted a [] (x ∷ es) more are e = absurd are
counted a (items.Entry line entry ∷ body) [] more are e = absurd are
counted a (items.Entry line entry ∷ body) (x ∷ es) more are e =
    let c = counted (with_item a (items.Entry line entry)) body es more are.1 e in
    record { behind = c.behind; with_is = c.with_is; ended = c.ended; entries = c.entries ∙ omega arith }
counted a (items.Header header ∷ body) es more are e = absurd are
counted a (items.Brief line cells verdict ∷ body) es more are e = absurd are
counted a (items.End count ∷ body) es more are e = absurd are

-- ---- the place behind judged items

all_right : (xs ys : List Line) → AllByRecursion IsLine (xs ++ ys) → AllByRecursion IsLine ys
all_right [] ys h = h
all_right (x ∷ xs) ys h = all_right xs ys h.1

-- behind the header and these entries, these lines and the tail stand; an entry may end before them
pub record Stand (input : List ℕ) (header : Header) (es : List Entry) (more : List Line) (tail : List ℕ) (reached : Progress) : Type 0 where
  pub text : input ≡ header_text header ++ (text_of (flat_map entry_lines es) ++ (text_of more ++ tail))
  pub form : IsLine (lines.Header header)
  pub forms : AllByRecursion IsLine more
  pub spot : Spot
  pub whole : is_whole spot.place ≡ true
  pub shapes : spot.shapes ≡ length es
  pub last : Spot
  pub goes_on : steps false spot more ≡ Some last
  pub reached_is : stages.Behind false last ≡ reached

regroup : (header : Header) (xs ys : List Line) (tail : List ℕ) → text_of (lines.Header header ∷ (xs ++ ys)) ++ tail ≡ header_text header ++ (text_of xs ++ (text_of ys ++ tail))
regroup header xs ys tail =
    append_assoc (header_text header) (text_of (xs ++ ys)) tail
    ∙ ap (λ (x : List ℕ). header_text header ++ x) (ap (λ (x : List ℕ). x ++ tail) (flat_map-append line_text xs ys) ∙ append_assoc (text_of xs) (text_of ys) tail)

stand : (input : List ℕ) (header : Header) (es : List Entry) (more : List Line) (tail : List ℕ) (reached : Progress) → IsBoundedTo header (length es) → header.brief ≡ false → AreGood header 0 es
    → input ≡ text_of (lines.Header header ∷ (flat_map entry_lines es ++ more)) ++ tail → Lead stages.Start (lines.Header header ∷ (flat_map entry_lines es ++ more)) reached
    → Stand input header es more tail reached
stand input header es more tail reached bound full good text lead =
    let w = walk_behind false start (flat_map entry_lines es ++ more) reached (subst (λ (b : Bool). walk (stages.Behind b start) (flat_map entry_lines es ++ more) ≡ Some reached) full lead.reached) in
    let r = over_entries header 0 (length es) es start bound (omega arith) good refl refl in
    record {
      text = text ∙ regroup header (flat_map entry_lines es) more tail;
      form = lead.forms.0;
      forms = all_right (flat_map entry_lines es) more lead.forms.1;
      spot = r.spot;
      whole = r.whole;
      shapes = r.shapes ∙ omega arith;
      last = w.0;
      goes_on = sym (steps_through false start r.spot (flat_map entry_lines es) more r.reached) ∙ w.1;
      reached_is = w.2;
    }

-- the place behind judged items
pub placed : (input : List ℕ) (header : Header) (front rest : List Item) (n : ℕ) (held : List Line) (tail : List ℕ) (reached : Progress) → IsBoundedTo header n → header.brief ≡ false
    → (j : AreJudged header front n) → IsRead input (front ++ rest) held tail reached → Stand input header j.es (lines_of j.ends ++ (lines_of rest ++ held)) tail reached
placed input header front rest n held tail reached bound full j read =
    let e = judged_lines header front n j rest held in
    stand input header j.es (lines_of j.ends ++ (lines_of rest ++ held)) tail reached (subst (IsBoundedTo header) j.count bound) full j.good
    (read.text ∙ ap (λ (x : List Line). text_of x ++ tail) e)
    (subst (λ (x : List Line). Lead stages.Start x reached) e read.lead)

-- ---- the blocks of good entries

blocks : (header : Header) (before : ℕ) (es : List Entry) (rest : List ℕ) → AreGood header before es → (es ≢ [] → IsNext rest) → AreBlocks header before (text_of (flat_map entry_lines es) ++ rest) es rest
blocks header before [] rest good next = refl
blocks header before (e ∷ es) rest good next =
    let behind = text_of (flat_map entry_lines es) ++ rest in
    let here : IsNext behind = next_of es (next (λ none. absurd cc)) in
    let b = block_lines (lines.Shape e.cells) (body_lines e) behind good.0.forms (body_inside e) here in
    let bytes : text_of (flat_map entry_lines (e ∷ es)) ++ rest ≡ text_of (entry_lines e) ++ behind =
    ap (λ (x : List ℕ). x ++ rest) (flat_map-append line_text (entry_lines e) (flat_map entry_lines es)) ∙ append_assoc (text_of (entry_lines e)) (text_of (flat_map entry_lines es)) rest in
    let others = blocks header (before + 1) es rest good.1 (λ some. next (λ none. absurd cc)) in
    (good.0, ap block_of bytes ∙ b.0, subst (λ (x : List ℕ). AreBlocks header (before + 1) x es rest) (sym (ap behind_block bytes ∙ b.1)) others)
  where
    next_of : (es : List Entry) → IsNext rest → IsNext (text_of (flat_map entry_lines es) ++ rest)
    next_of [] h = h
    next_of (e ∷ es) h = inr refl

-- the input is a header, good entries, and the rest
pub checked : (input : List ℕ) (header : Header) (es : List Entry) (rest : List ℕ) → input ≡ header_text header ++ (text_of (flat_map entry_lines es) ++ rest) → IsLine (lines.Header header)
    → header.brief ≡ false → AreGood header 0 es → (es ≢ [] → IsNext rest) → AreChecked input header es rest
checked input header es rest text form full good next = record {
  body = text_of (flat_map entry_lines es) ++ rest;
  headed = record { text = text; form = form; full = full };
  blocks = blocks header 0 es rest good next;
}

-- behind judged items with no end, and no further items, the next entry or the end begins, where there is an entry
pub shown_behind : (input : List ℕ) (header : Header) (front : List Item) (n : ℕ) (held : List Line) (tail : List ℕ) (reached : Progress)
    → (j : AreJudged header front n) → j.ends ≡ [] → IsRead input front held tail reached → j.es ≢ [] → IsNext (text_of held ++ tail)
shown_behind input header front n held tail reached j none read some =
    let c = counted (with_item none_appended (items.Header header)) j.body j.es [] j.are refl in
    let all : with_items none_appended front ≡ c.behind = ap (with_items none_appended) (j.split ∙ ap (λ (x : List Item). items.Header header ∷ (j.body ++ x)) none) ∙ c.with_is in
    let entries : (with_items none_appended front).entries ≡ length j.es = ap (λ (x : Appended). x.entries) all ∙ c.entries ∙ omega arith in
    let many : 0 < length j.es = positive j.es some in
    read.shown (omega (arith, entries, many)) (ap (λ (x : Appended). x.ended) all ∙ c.ended)
  where
    positive : (es : List Entry) → es ≢ [] → 0 < length es
    positive [] h = absurd (h refl)
    positive (e ∷ es) h = omega arith
