-- What was read of two pieces, one behind the other.
use Rattle.std.proofs.Common.{◌≡◌, ◌⊎◌, inl, inr, ℕ, ◌+◌, true, List, [], ◌∷◌, ◌++◌, length, Option, Some, refl, sym, ap, subst, ◌∙◌, append_assoc}
use Rattle.std.specs.Prelude.{option_and_then}
use Rattle.std.specs.List.{AllByRecursion}
use Rattle.std.proofs.lemmas.List.{append-nil}
use Rattle.heesch_text.specs.declared.line.Line.{Line}
use Rattle.heesch_text.specs.declared.line.Line.TheVariants as lines
use Rattle.heesch_text.specs.Lines.{text_of}
use Rattle.heesch_line.specs.Forms.{IsLine}
use Rattle.heesch_grammar.proofs.Heading.{bind_some}
use Rattle.heesch_grammar.proofs.Running.{IsOuter}
use Rattle.heesch_reader.specs.declared.item.Item.{Item}
use Rattle.heesch_reader.specs.declared.item.Item.TheVariants as items
use Rattle.heesch_reader.specs.declared.progress.Progress.{Progress}
use Rattle.heesch_reader.specs.declared.progress.Progress.TheVariants as stages
use Rattle.heesch_reader.specs.declared.scan.Appended.{Appended}
use Rattle.heesch_reader.specs.Progress.{next, walk, may_end, between}
use Rattle.heesch_reader.specs.Items.{lines_of, AreItemsAt, with_items, progress_of}
use Rattle.heesch_reader.specs.Feeding.{IsBehindEntry, ItemsLead, Stands, BeginEntry}
use Rattle.heesch_reader.proofs.Ending.{header_first}
use Rattle.heesch_reader.proofs.ItemLines.{with_items_append, lines_counted, items_append, lines_append, text_append}
use Rattle.heesch_reader.proofs.Walking.{all_append, all_front, walk_append, same_next}

-- ---- what stands next

-- the lines begin with a header, a shape or the end, or there are none
abbrev pub BeginItem : List Line → Type 0
BeginItem [] = Unit {0}
BeginItem (lines.Header header ∷ ls) = Unit {0}
BeginItem (lines.Shape cells ∷ ls) = Unit {0}
BeginItem (lines.End count ∷ ls) = Unit {0}
BeginItem (line ∷ ls) = ⊥

pub items_begin : (found : List Item) (held : List Line) → BeginEntry held → BeginItem (lines_of found ++ held)
items_begin [] [] b = tt
items_begin [] (lines.Shape cells ∷ held) b = tt
items_begin [] (line ∷ held) b = absurd b.0
items_begin (items.Header header ∷ found) held b = tt
items_begin (items.Entry line entry ∷ found) held b = tt
items_begin (items.Brief line cells verdict ∷ found) held b = tt
items_begin (items.End count ∷ found) held b = tt

-- the lines lead from `p` to the same place as from the one that a reader goes on from, or there are none behind an entry
pub record LeadsOn (p r : Progress) (a : Appended) (ls : List Line) : Type 0 where
  pub reached : Progress
  pub walked : walk p ls ≡ Some reached
  pub alike : (reached ≡ r) ⊎ ((ls ≡ []) × IsBehindEntry reached a × (progress_of a ≡ r))

not_start : (p : Progress) → may_end p ≡ true → between p ≡ stages.Start → ⊥
not_start stages.Start w e = absurd cc
not_start (stages.Behind brief spot) w e = absurd cc

outer_on : (p r : Progress) (a : Appended) (line : Line) (ls : List Line) → IsBehindEntry p a → IsOuter line → walk (progress_of a) (line ∷ ls) ≡ Some r → LeadsOn p r a (line ∷ ls)
outer_on p r a line ls b o e = record {
  reached = r;
  walked = ap (λ (x : Option Progress). option_and_then (λ y. walk y ls) x) (same_next p line b.whole o ∙ ap (λ (x : Progress). next x line) b.between) ∙ e;
  alike = inl refl;
}

behind_on : (p r : Progress) (a : Appended) (ls : List Line) → IsBehindEntry p a → BeginItem ls → walk (progress_of a) ls ≡ Some r → LeadsOn p r a ls
behind_on p r a [] b i e = record { reached = p; walked = refl; alike = inr (refl, b, cc) }
behind_on p r a (lines.Header header ∷ ls) b i e =
    let n = bind_some (next (progress_of a) (lines.Header header)) (λ x. walk x ls) r e in
    absurd (not_start p b.whole (b.between ∙ (header_first (progress_of a) n.0 header n.1).0))
behind_on p r a (lines.Shape cells ∷ ls) b i e = outer_on p r a (lines.Shape cells) ls b tt e
behind_on p r a (lines.End count ∷ ls) b i e = outer_on p r a (lines.End count) ls b tt e
behind_on p r a (line ∷ ls) b i e = absurd i

pub leads_on : (p r : Progress) (a : Appended) (ls : List Line) → (p ≡ progress_of a) ⊎ IsBehindEntry p a → BeginItem ls → walk (progress_of a) ls ≡ Some r → LeadsOn p r a ls
leads_on p r a ls f i e = elim f [
  | inl s ↦ record { reached = r; walked = ap (λ (x : Progress). walk x ls) s ∙ e; alike = inl refl }
  | inr b ↦ behind_on p r a ls b i e
]

-- ---- items of two pieces

-- items without a line are none
pub no_items : (found : List Item) → lines_of found ≡ [] → found ≡ []
no_items [] e = refl
no_items (items.Header header ∷ found) e = absurd cc
no_items (items.Entry line entry ∷ found) e = absurd cc
no_items (items.Brief line cells verdict ∷ found) e = absurd cc
no_items (items.End count ∷ found) e = absurd cc

-- lines behind those of items
walk_behind_items : (old : Appended) (found : List Item) (ls : List Line) (r : Progress) → (l : ItemsLead old found) → walk l.behind ls ≡ Some r → walk (progress_of old) (lines_of found ++ ls) ≡ Some r
walk_behind_items old found ls r l e = walk_append (progress_of old) (lines_of found) ls ∙ ap (λ (o : Option Progress). option_and_then (λ x. walk x ls) o) l.walked ∙ e

alike_then : (a : Appended) (more : List Item) (m : ItemsLead a more) (reached : Progress) → (reached ≡ m.behind) ⊎ ((lines_of more ≡ []) × IsBehindEntry reached a × (progress_of a ≡ m.behind))
    → (reached ≡ progress_of (with_items a more)) ⊎ IsBehindEntry reached (with_items a more)
alike_then a more m reached (inl e) = subst (λ (x : Progress). (x ≡ progress_of (with_items a more)) ⊎ IsBehindEntry x (with_items a more)) (sym e) m.alike
alike_then a more m reached (inr n) = inr (subst (λ (x : List Item). IsBehindEntry reached (with_items a x)) (sym (no_items more n.0)) n.1)

pub items_join : (old : Appended) (found more : List Item) → ItemsLead old found → ItemsLead (with_items old found) more → ItemsLead old (found ++ more)
items_join old found more f m =
    let a = with_items old found in
    let told : with_items old (found ++ more) ≡ with_items a more = with_items_append old found more in
    let l = leads_on f.behind m.behind a (lines_of more) f.alike (subst BeginItem (append-nil (lines_of more)) (items_begin more [] tt)) m.walked in
    record {
      behind = l.reached;
      walked = ap (walk (progress_of old)) (lines_append found more) ∙ walk_behind_items old found (lines_of more) l.reached f l.walked;
      alike = subst (λ (x : Appended). (l.reached ≡ progress_of x) ⊎ IsBehindEntry l.reached x) (sym told) (alike_then a more m l.reached l.alike);
    }

-- ---- two pieces

text_joined : (bytes piece left later : List ℕ) (f h g k : List Line) → bytes ≡ text_of (f ++ h) ++ left → (text_of h ++ left) ++ piece ≡ text_of (g ++ k) ++ later → bytes ++ piece ≡ text_of ((f ++ g) ++ k) ++ later
text_joined bytes piece left later f h g k e t =
    ap (λ (x : List ℕ). x ++ piece) (e ∙ ap (λ (x : List ℕ). x ++ left) (text_append f h) ∙ append_assoc (text_of f) (text_of h) left) ∙ append_assoc (text_of f) (text_of h ++ left) piece ∙ ap (λ (x : List ℕ). text_of f ++ x) t
    ∙ sym (append_assoc (text_of f) (text_of (g ++ k)) later) ∙ ap (λ (x : List ℕ). x ++ later) (sym (text_append f (g ++ k)) ∙ ap text_of (sym (append_assoc f g k)))

-- the bytes of both pieces, and where they lead next to where a reader is that went on behind the items of the first
pub record Joined (old : Appended) (bytes : List ℕ) (found more : List Item) (held : List Line) (left : List ℕ) (r : Progress) : Type 0 where
  pub reached : Progress
  pub stands : Stands old bytes (found ++ more) held left reached
  pub alike : (reached ≡ r) ⊎ ((lines_of more ++ held ≡ []) × IsBehindEntry reached (with_items old found) × (progress_of (with_items old found) ≡ r))

-- a reader goes on behind the items of the first piece, with what the first piece left and the second
pub joins : (old : Appended) (bytes piece : List ℕ) (found more : List Item) (kept held : List Line) (rest left : List ℕ) (q r : Progress) → Stands old bytes found kept rest q
    → Stands (with_items old found) ((text_of kept ++ rest) ++ piece) more held left r → Joined old (bytes ++ piece) found more held left r
joins old bytes piece found more kept held rest left q r s t =
    let a = with_items old found in
    let l = leads_on s.items_lead.behind r a (lines_of more ++ held) s.items_lead.alike (items_begin more held t.one_entry) t.lead.reached in
    let lines_are : lines_of (found ++ more) ++ held ≡ lines_of found ++ (lines_of more ++ held) = ap (λ (x : List Line). x ++ held) (lines_append found more) ∙ append_assoc (lines_of found) (lines_of more) held in
    let counted : a.lines ≡ old.lines + length (lines_of found) = lines_counted old found in
    record {
      reached = l.reached;
      stands = record {
        text = text_joined bytes piece rest left (lines_of found) kept (lines_of more) held s.text t.text ∙ ap (λ (x : List Line). text_of (x ++ held) ++ left) (sym (lines_append found more));
        lead = record {
          forms = subst (λ (x : List Line). AllByRecursion IsLine x) (sym lines_are) (all_append IsLine (lines_of found) (lines_of more ++ held) (all_front IsLine (lines_of found) kept s.lead.forms) t.lead.forms);
          reached = ap (walk (progress_of old)) lines_are ∙ walk_behind_items old found (lines_of more ++ held) l.reached s.items_lead l.walked;
        };
        numbered = items_append old.lines found more s.numbered (subst (λ (n : ℕ). AreItemsAt n more) counted t.numbered);
        one_entry = t.one_entry;
        items_lead = items_join old found more s.items_lead t.items_lead;
      };
      alike = l.alike;
    }
