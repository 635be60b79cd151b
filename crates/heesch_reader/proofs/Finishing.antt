-- Bytes that are a whole catalogue don't fall short of one.
use Rattle.std.proofs.Common.{◌≡◌, ◌≢◌, ◌⊎◌, inl, inr, ℕ, Bool, true, false, ◌||◌, List, [], ◌∷◌, ◌++◌, refl, sym, ap, ◌∙◌}
use Rattle.std.specs.List.{AllByRecursion}
use Rattle.std.proofs.lemmas.Bool.{false≢true}
use Rattle.std.proofs.lemmas.List.{append-nil}
use Rattle.heesch_text.specs.declared.line.Line.{Line}
use Rattle.heesch_text.specs.declared.line.Line.TheVariants as lines
use Rattle.heesch_text.specs.Lines.{words_of, text_of}
use Rattle.heesch_line.specs.Forms.{IsLine, HasNoNewline}
use Rattle.heesch_reader.specs.declared.item.Item.{Item}
use Rattle.heesch_reader.specs.declared.item.Item.TheVariants as items
use Rattle.heesch_reader.specs.declared.item.Part.{Part}
use Rattle.heesch_reader.specs.declared.scan.Appended.{Appended}
use Rattle.heesch_reader.specs.Items.{Kept, item_lines, lines_of, with_item, with_items}
use Rattle.heesch_reader.specs.Feeding.{BeginEntry, IsInside, Finishes, FallsShort}
use Rattle.heesch_reader.proofs.EntryLines.{body_lines, body_inside}
use Rattle.heesch_reader.proofs.SameLines.{along, line_front, no_first_line}

-- ---- an end among lines

is_end : Line → Bool
is_end (lines.End count) = true
is_end line = false

-- an end is among them, or was before
abbrev ended_by : Bool → List Line → Bool
ended_by ended [] = ended
ended_by ended (line ∷ ls) = ended_by (ended || is_end line) ls

or_false : (a : Bool) → (a || false) ≡ a
or_false true = refl
or_false false = refl

or_true : (a : Bool) → (a || true) ≡ true
or_true true = refl
or_true false = refl

ended_append : (ended : Bool) (ls ms : List Line) → ended_by ended (ls ++ ms) ≡ ended_by (ended_by ended ls) ms
ended_append ended [] ms = refl
ended_append ended (line ∷ ls) ms = ended_append (ended || is_end line) ls ms

inside_is_no_end : (line : Line) → IsInside line → is_end line ≡ false
unfolding is_end
inside_is_no_end (lines.Header header) i = absurd i
inside_is_no_end (lines.Shape cells) i = absurd i
inside_is_no_end (lines.End count) i = absurd i
inside_is_no_end line i = refl

inside_ends_none : (ended : Bool) (ls : List Line) → AllByRecursion IsInside ls → ended_by ended ls ≡ ended
inside_ends_none ended [] h = refl
inside_ends_none ended (line ∷ ls) h = ap (λ (x : Bool). ended_by (ended || x) ls) (inside_is_no_end line h.0) ∙ ap (λ (x : Bool). ended_by x ls) (or_false ended) ∙ inside_ends_none ended ls h.1

entry_ends_none : (ended : Bool) (ls : List Line) → BeginEntry ls → ended_by ended ls ≡ ended
unfolding is_end
entry_ends_none ended [] b = refl
entry_ends_none ended (lines.Shape cells ∷ ls) b = ap (λ (x : Bool). ended_by x ls) (or_false ended) ∙ inside_ends_none ended ls b.1
entry_ends_none ended (line ∷ ls) b = absurd b.0

ended_with : (a : Appended) (item : Item) → ended_by a.ended (item_lines item) ≡ (with_item a item).ended
unfolding is_end
ended_with a (items.Header header) = or_false a.ended
ended_with a (items.Entry line entry) = entry_ends_none a.ended (lines.Shape entry.cells ∷ body_lines entry) (tt, body_inside entry)
ended_with a (items.Brief line cells verdict) = entry_ends_none a.ended (lines.Shape cells ∷ lines.Verdict verdict ∷ []) (tt, (tt, tt))
ended_with a (items.End count) = or_true a.ended

ended_of : (a : Appended) (found : List Item) → ended_by a.ended (lines_of found) ≡ (with_items a found).ended
ended_of a [] = refl
ended_of a (item ∷ found) = ended_append a.ended (item_lines item) (lines_of found) ∙ ap (λ (x : Bool). ended_by x (lines_of found)) (ended_with a item) ∙ ended_of (with_item a item) found

-- ---- the same lines

-- bytes without a newline are the text of no line
none_ended : (more : List Line) (left : List ℕ) → HasNoNewline left → left ≡ text_of more ++ [] → more ≡ []
none_ended [] left h e = refl
none_ended (line ∷ more) left h e = absurd (no_first_line (words_of line) (text_of more ++ []) left h (e ∙ line_front line more []))

record Same (ls ms : List Line) (left : List ℕ) : Type 0 where
  lines_are : ls ≡ ms
  none_left : left ≡ []

front_empty : (xs ys : List ℕ) → [] ≡ xs ++ ys → (xs ≡ []) × (ys ≡ [])
front_empty [] ys e = (refl, sym e)
front_empty (x ∷ xs) ys e = absurd cc

no_text : (more : List Line) → text_of more ≡ [] → more ≡ []
no_text [] e = refl
no_text (line ∷ more) e = absurd (no_first_line (words_of line) (text_of more ++ []) [] tt (sym (ap (λ (x : List ℕ). x ++ []) e) ∙ line_front line more []))

same_lines : (ls ms : List Line) (left : List ℕ) → AllByRecursion IsLine ls → AllByRecursion IsLine ms → HasNoNewline left → text_of ls ++ [] ≡ text_of ms ++ left → Same ls ms left
same_lines ls ms left f g h e = elim (along ls ms [] left f g e) [
  | inl r ↦
      let empty = front_empty (text_of r.more) left r.bytes in
      record { lines_are = sym (r.lines ∙ ap (λ (x : List Line). ls ++ x) (no_text r.more empty.0) ∙ append-nil ls); none_left = empty.1 }
  | inr r ↦
      let none = none_ended r.more left h r.bytes in
      record { lines_are = r.lines ∙ ap (λ (x : List Line). ms ++ x) none ∙ append-nil ms; none_left = r.bytes ∙ ap (λ (x : List Line). text_of x ++ []) none }
]

-- a text whose items have an end is no text of items without one, nor is there a line without its newline behind it
pub whole_is_not_short : (old : Appended) (f g : List Item) (held : List Line) (left : List ℕ) → AllByRecursion IsLine (lines_of f ++ []) → AllByRecursion IsLine (lines_of g ++ held) → BeginEntry held → HasNoNewline left
    → text_of (lines_of f ++ []) ++ [] ≡ text_of (lines_of g ++ held) ++ left → (with_items old f).ended ≡ true → (left ≢ []) ⊎ ((with_items old g).ended ≡ false) → ⊥
whole_is_not_short old f g held left forms too begin one_line e whole short =
    let s = same_lines (lines_of f ++ []) (lines_of g ++ held) left forms too one_line e in
    let same : (with_items old f).ended ≡ (with_items old g).ended =
    sym (ended_of old f) ∙ ap (ended_by old.ended) (sym (append-nil (lines_of f)) ∙ s.lines_are) ∙ ended_append old.ended (lines_of g) held
    ∙ entry_ends_none (ended_by old.ended (lines_of g)) held begin ∙ ended_of old g in
    elim short [
      | inl some ↦ some s.none_left
      | inr going ↦ false≢true (sym going ∙ sym same ∙ whole)
    ]

pub finished_or_short : (old new : Kept) (before after other : List Item) (bytes : List ℕ) (line : ℕ) (part : Part) → Finishes old new before after bytes → FallsShort old.appended before other bytes line part → ⊥
finished_or_short old new before after other bytes line part a b =
    whole_is_not_short old.appended a.found b.found b.held b.left a.stands.lead.forms b.stands.lead.forms b.stands.one_entry b.one_line (sym a.stands.text ∙ b.stands.text)
    (sym (ap (λ (k : Kept). k.appended.ended) a.new_is) ∙ a.ended) b.short
