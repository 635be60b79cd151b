-- An entry among items is whole where the next one or the end begins behind it.
use Rattle.std.proofs.Common.{◌≡◌, ◌⊎◌, inl, inr, ℕ, ◌+◌, ◌<◌, Bool, true, false, List, [], ◌∷◌, ◌++◌, length, Option, Some, None, refl, sym, ap, subst, ◌∙◌, append_assoc, arith}
use Rattle.std.specs.List.{AllByRecursion}
use Rattle.std.proofs.lemmas.Bool.{false≢true}
use Rattle.heesch_cert.specs.declared.header.Header.{Header}
use Rattle.heesch_text.specs.declared.line.Line.{Line}
use Rattle.heesch_text.specs.declared.line.Line.TheVariants as lines
use Rattle.heesch_text.specs.Lines.{text_of}
use Rattle.heesch_text.specs.Catalogue.{entry_lines}
use Rattle.heesch_line.specs.Forms.{IsLine}
use Rattle.heesch_grammar.specs.declared.place.Place.TheVariants as places
use Rattle.heesch_grammar.proofs.Heading.{bind_some}
use Rattle.heesch_reader.specs.declared.item.Item.{Item}
use Rattle.heesch_reader.specs.declared.item.Item.TheVariants as items
use Rattle.heesch_reader.specs.declared.progress.Progress.{Progress}
use Rattle.heesch_reader.specs.declared.progress.Progress.TheVariants as stages
use Rattle.heesch_reader.specs.declared.scan.Appended.{Appended}
use Rattle.heesch_reader.specs.Progress.{Lead, next, walk, may_end}
use Rattle.heesch_reader.specs.Items.{item_lines, lines_of, AreItemsAt, with_item, with_items, none_appended, progress_behind}
use Rattle.heesch_reader.specs.Faults.{begins_next}
use Rattle.heesch_reader.specs.Feeding.{ItemsLead, Stands}
use Rattle.heesch_reader.proofs.EntryLines.{body_lines}
use Rattle.heesch_reader.proofs.Walking.{walk_append, all_front}
use Rattle.heesch_reader.proofs.ItemLines.{lines_append, text_append, with_items_append}
use Rattle.heesch_reader.proofs.Ending.{at_start, end_next, header_first, shape_next}

-- ---- lines

item_some : (item : Item) (ls : List Line) → item_lines item ++ ls ≡ [] → ⊥
item_some (items.Header header) ls e = absurd cc
item_some (items.Entry line entry) ls e = absurd cc
item_some (items.Brief line cells verdict) ls e = absurd cc
item_some (items.End count) ls e = absurd cc

some_lines : (front : List Item) (item : Item) → lines_of (front ++ item ∷ []) ≡ [] → ⊥
some_lines [] item e = item_some item [] e
some_lines (x ∷ front) item e = item_some x (lines_of (front ++ item ∷ [])) e

-- ---- an end stands last

-- behind an end no item stands
none_behind_end : (brief : Bool) (shapes : ℕ) (item : Item) (ls : List Line) (q : Progress) → walk (stages.Behind brief (record { shapes = shapes; place = places.Ended })) (item_lines item ++ ls) ≡ Some q → ⊥
none_behind_end brief shapes (items.Header header) ls q e = absurd cc
none_behind_end brief shapes (items.Entry line entry) ls q e = absurd cc
none_behind_end brief shapes (items.Brief line cells verdict) ls q e = absurd cc
none_behind_end brief shapes (items.End count) ls q e = absurd cc

first_of_both : (front : List Item) (item : Item) → (x : Item) × (more : List Item) × (front ++ item ∷ [] ≡ x ∷ more)
first_of_both [] item = (item, [], refl)
first_of_both (x ∷ front) item = (x, front ++ item ∷ [], refl)

-- the items before another have no end
pub unended : (p q : Progress) (a : Appended) (front : List Item) (item : Item) → walk p (lines_of (front ++ item ∷ [])) ≡ Some q → (with_items a front).ended ≡ a.ended
unended p q a [] item e = refl
unended p q a (items.Header header ∷ front) item e =
    let b = bind_some (next p (lines.Header header)) (λ x. walk x (lines_of (front ++ item ∷ []))) q e in
    unended b.0 q (with_item a (items.Header header)) front item b.2
unended p q a (items.Entry line entry ∷ front) item e =
    let b = bind_some (walk p (entry_lines entry)) (λ x. walk x (lines_of (front ++ item ∷ []))) q (sym (walk_append p (entry_lines entry) (lines_of (front ++ item ∷ []))) ∙ e) in
    unended b.0 q (with_item a (items.Entry line entry)) front item b.2
unended p q a (items.Brief line cells verdict ∷ front) item e =
    let two = lines.Shape cells ∷ lines.Verdict verdict ∷ [] in
    let b = bind_some (walk p two) (λ x. walk x (lines_of (front ++ item ∷ []))) q (sym (walk_append p two (lines_of (front ++ item ∷ []))) ∙ e) in
    unended b.0 q (with_item a (items.Brief line cells verdict)) front item b.2
unended p q a (items.End count ∷ front) item e =
    let b = bind_some (next p (lines.End count)) (λ x. walk x (lines_of (front ++ item ∷ []))) q e in
    let n = end_next p b.0 count b.1 in
    let f = first_of_both front item in
    absurd (none_behind_end n.brief n.spot.shapes f.0 (lines_of f.1) q (subst (λ (x : List Item). walk (stages.Behind n.brief (record { shapes = n.spot.shapes; place = places.Ended })) (lines_of x) ≡ Some q) f.2
    (subst (λ (x : Progress). walk x (lines_of (front ++ item ∷ [])) ≡ Some q) (sym n.r_is) b.2)))

-- ---- where an entry may end

-- between two entries, or behind a header
open_behind : (header : Option Header) (entries : ℕ) (ended : Bool) → ended ≡ false → (progress_behind header entries ended ≡ stages.Start) ⊎ (may_end (progress_behind header entries ended) ≡ true)
open_behind None entries ended e = inl refl
open_behind (Some header) entries true e = absurd cc
open_behind (Some header) entries false e = inr refl

-- the entry that stands last may end
whole_last : (front : List Item) (item : Item) → (l : ItemsLead none_appended (front ++ item ∷ [])) → (with_items none_appended (front ++ item ∷ [])).ended ≡ false → may_end l.behind ≡ true
whole_last front item l going =
    let a = with_items none_appended (front ++ item ∷ []) in
    elim l.alike [
      | inl same ↦ elim (open_behind a.header a.entries a.ended going) [
        | inl start ↦
            let none = at_start stages.Start (lines_of (front ++ item ∷ [])) (l.walked ∙ ap (λ (x : Progress). Some x) (same ∙ start)) in
            absurd (some_lines front item none.0)
        | inr may ↦ ap may_end same ∙ may
      ]
      | inr behind ↦ behind.whole
    ]

-- one that stands before another item may end, and there the next entry or the end begins
record Before (p : Progress) (bytes : List ℕ) : Type 0 where
  whole : may_end p ≡ true
  begins : begins_next bytes ≡ true

before_item : (front : List Item) (item : Item) (p q : Progress) (x : Item) (ls : List Line) (left : List ℕ) → walk stages.Start (lines_of (front ++ item ∷ [])) ≡ Some p → walk p (item_lines x ++ ls) ≡ Some q
    → Before p (text_of (item_lines x ++ ls) ++ left)
before_item front item p q (items.Header header) ls left w e =
    let b = bind_some (next p (lines.Header header)) (λ y. walk y ls) q e in
    let f = header_first p b.0 header b.1 in
    let none = at_start stages.Start (lines_of (front ++ item ∷ [])) (w ∙ ap (λ (y : Progress). Some y) f.0) in
    absurd (some_lines front item none.0)
before_item front item p q (items.Entry line entry) ls left w e =
    let b = bind_some (next p (lines.Shape entry.cells)) (λ y. walk y (body_lines entry ++ ls)) q e in
    let f = shape_next p b.0 entry.cells b.1 in
    record { whole = rw f.p_is f.whole; begins = refl }
before_item front item p q (items.Brief line cells verdict) ls left w e =
    let b = bind_some (next p (lines.Shape cells)) (λ y. walk y (lines.Verdict verdict ∷ ls)) q e in
    let f = shape_next p b.0 cells b.1 in
    record { whole = rw f.p_is f.whole; begins = refl }
before_item front item p q (items.End count) ls left w e =
    let b = bind_some (next p (lines.End count)) (λ y. walk y ls) q e in
    let f = end_next p b.0 count b.1 in
    record { whole = rw f.p_is f.whole; begins = refl }

-- ---- an entry among items

numbered_front : (n : ℕ) (f g : List Item) → AreItemsAt n (f ++ g) → AreItemsAt n f
numbered_front n [] g h = tt
numbered_front n (item ∷ f) g h = (h.0, numbered_front (n + length (item_lines item)) f g h.1)

-- the items up to an entry are whole at the front of the bytes: behind it the next entry or the end begins, or what stands there is like that
pub record WholeAt (Q : List ℕ → Type 0) (bytes : List ℕ) (found : List Item) : Type 0 where
  pub next : List ℕ
  pub reached : Progress
  pub text : bytes ≡ text_of (lines_of found) ++ next
  pub lead : Lead stages.Start (lines_of found) reached
  pub numbered : AreItemsAt 0 found
  pub whole : may_end reached ≡ true
  pub shown : (begins_next next ≡ true) ⊎ Q next

-- the bytes are the text of these items, of lines behind them, and bytes left, and the lines may stand
pub record StandAt (bytes : List ℕ) (found : List Item) (held : List Line) (left : List ℕ) (reached : Progress) : Type 0 where
  pub text : bytes ≡ text_of (lines_of found ++ held) ++ left
  pub lead : Lead stages.Start (lines_of found ++ held) reached
  pub numbered : AreItemsAt 0 found

pub stand_at : (bytes : List ℕ) (found : List Item) (held : List Line) (left : List ℕ) (reached : Progress) → Stands none_appended bytes found held left reached → StandAt bytes found held left reached
stand_at bytes found held left reached s = record { text = s.text; lead = s.lead; numbered = s.numbered }

-- the item is an entry
abbrev pub IsEntryItem : Item → Type 0
IsEntryItem (items.Header header) = ⊥
IsEntryItem (items.Entry line entry) = Unit {0}
IsEntryItem (items.Brief line cells verdict) = Unit {0}
IsEntryItem (items.End count) = ⊥

-- an entry counts
pub counts_one : (item : Item) (a : Appended) → IsEntryItem item → ((with_item a item).entries ≡ a.entries + 1) × ((with_item a item).ended ≡ a.ended)
counts_one (items.Header header) a e = absurd e
counts_one (items.Entry first entry) a e = (refl, refl)
counts_one (items.Brief first given verdict) a e = (refl, refl)
counts_one (items.End count) a e = absurd e

-- behind an end no entry stands last
pub last_is_end : (front back : List Item) (item : Item) (q : Progress) → IsEntryItem item → walk stages.Start (lines_of (front ++ item ∷ back)) ≡ Some q → (with_items none_appended (front ++ item ∷ back)).ended ≡ true → back ≡ [] → ⊥
last_is_end front [] item q is w e none =
    let one = counts_one item (with_items none_appended front) is in
    false≢true (sym (ap (λ (x : Appended). x.ended) (with_items_append none_appended front (item ∷ [])) ∙ one.1 ∙ unended stages.Start q none_appended front item w) ∙ e)
last_is_end front (x ∷ back) item q is w e none = absurd cc

text_front : (bytes left : List ℕ) (f : List Item) (ls ms : List Line) → ls ≡ lines_of f ++ ms → bytes ≡ text_of ls ++ left → bytes ≡ text_of (lines_of f) ++ (text_of ms ++ left)
text_front bytes left f ls ms e t = t ∙ ap (λ (x : List Line). text_of x ++ left) e ∙ ap (λ (x : List ℕ). x ++ left) (text_append (lines_of f) ms) ∙ append_assoc (text_of (lines_of f)) (text_of ms) left

pub entry_whole : (Q : List ℕ → Type 0) (bytes : List ℕ) (front back : List Item) (item : Item) (held : List Line) (left : List ℕ) (reached : Progress) → IsEntryItem item
    → StandAt bytes (front ++ item ∷ back) held left reached → (back ≡ [] → ItemsLead none_appended (front ++ item ∷ back))
    → (0 < (with_items none_appended (front ++ item ∷ back)).entries → (with_items none_appended (front ++ item ∷ back)).ended ≡ false → (begins_next (text_of held ++ left) ≡ true) ⊎ Q (text_of held ++ left))
    → WholeAt Q bytes (front ++ item ∷ [])
entry_whole Q bytes front [] item held left reached is s leads shown =
    let found = front ++ item ∷ [] in
    let l = leads refl in
    let a = with_items none_appended front in
    let one = counts_one item a is in
    let all : with_items none_appended found ≡ with_item a item = with_items_append none_appended front (item ∷ []) in
    let entries : (with_items none_appended found).entries ≡ a.entries + 1 = ap (λ (x : Appended). x.entries) all ∙ one.0 in
    let going : (with_items none_appended found).ended ≡ false = ap (λ (x : Appended). x.ended) all ∙ one.1 ∙ unended stages.Start l.behind none_appended front item l.walked in
    record {
      next = text_of held ++ left;
      reached = l.behind;
      text = text_front bytes left found (lines_of found ++ held) held refl s.text;
      lead = record { forms = all_front IsLine (lines_of found) held s.lead.forms; reached = l.walked };
      numbered = s.numbered;
      whole = whole_last front item l going;
      shown = shown (omega (arith, entries)) going;
    }
entry_whole Q bytes front (x ∷ back) item held left reached is s leads shown =
    let found = front ++ item ∷ [] in
    let more = item_lines x ++ (lines_of back ++ held) in
    let all : front ++ item ∷ x ∷ back ≡ found ++ x ∷ back = sym (append_assoc front (item ∷ []) (x ∷ back)) in
    let parts : lines_of (front ++ item ∷ x ∷ back) ++ held ≡ lines_of found ++ more =
    ap (λ (y : List Item). lines_of y ++ held) all ∙ ap (λ (y : List Line). y ++ held) (lines_append found (x ∷ back)) ∙ append_assoc (lines_of found) (lines_of (x ∷ back)) held
    ∙ ap (λ (y : List Line). lines_of found ++ y) (append_assoc (item_lines x) (lines_of back) held) in
    let walked : walk stages.Start (lines_of found ++ more) ≡ Some reached = subst (λ (y : List Line). walk stages.Start y ≡ Some reached) parts s.lead.reached in
    let b = bind_some (walk stages.Start (lines_of found)) (λ y. walk y more) reached (sym (walk_append stages.Start (lines_of found) more) ∙ walked) in
    let n = before_item front item b.0 reached x (lines_of back ++ held) left b.1 b.2 in
    record {
      next = text_of more ++ left;
      reached = b.0;
      text = text_front bytes left found (lines_of (front ++ item ∷ x ∷ back) ++ held) more parts s.text;
      lead = record { forms = all_front IsLine (lines_of found) more (subst (λ (y : List Line). AllByRecursion IsLine y) parts s.lead.forms); reached = b.1 };
      numbered = numbered_front 0 found (x ∷ back) (subst (λ (y : List Item). AreItemsAt 0 y) all s.numbered);
      whole = n.whole;
      shown = inl n.begins;
    }
