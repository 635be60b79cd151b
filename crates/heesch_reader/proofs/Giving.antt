-- Appending the entry at hand.
use Rattle.std.proofs.Common.{◌≡◌, ◌≢◌, ℕ, ◌+◌, Bool, true, false, List, [], ◌∷◌, ◌++◌, length, Option, Some, None, refl, sym, ap, subst, ◌∙◌, arith, inl, inr}
use Rattle.std.proofs.lemmas.List.{append-nil}
use Rattle.heesch_cert.specs.declared.header.Header.{Header}
use Rattle.heesch_text.specs.declared.line.Line.{Line}
use Rattle.heesch_grammar.specs.declared.place.Place.TheVariants as places
use Rattle.heesch_grammar.specs.declared.spot.Spot.{Spot}
use Rattle.heesch_grammar.specs.Grammar.{steps}
use Rattle.heesch_grammar.specs.Entries.{AreEntryLines}
use Rattle.heesch_grammar.proofs.Running.{are_entry_lines}
use Rattle.heesch_reader.specs.declared.item.Item.{Item}
use Rattle.heesch_reader.specs.declared.item.Item.TheVariants as items
use Rattle.heesch_reader.specs.declared.progress.Progress.{Progress}
use Rattle.heesch_reader.specs.declared.progress.Progress.TheVariants as stages
use Rattle.heesch_reader.specs.declared.scan.Appended.{Appended}
use Rattle.heesch_reader.specs.declared.scan.Scan.{Scan}
use Rattle.heesch_reader.specs.Progress.{walk, may_end, between}
use Rattle.heesch_reader.specs.Items.{item_lines, lines_of, IsItemAt, with_item, progress_behind, progress_of}
use Rattle.heesch_reader.specs.Feeding.{BeginEntry}
use Rattle.heesch_reader.specs.Scanning.{IsScan, GivesEntry, shapes_of}
use Rattle.heesch_reader.proofs.Walking.{walk_behind, no_first_shape, no_shape_behind_end}

-- lines of an entry stand only behind a header and before the end
pub record IsOpen (header : Option Header) (entries : ℕ) (ended brief : Bool) (spot : Spot) (ls : List Line) : Type 0 where
  pub read : header ≡ None → ⊥
  pub behind : (shapes : ℕ) → progress_behind header shapes ended ≡ stages.Behind brief (record { shapes = shapes; place = places.Between })
  pub reached : steps brief (record { shapes = entries; place = places.Between }) ls ≡ Some spot

pub is_open : (header : Option Header) (entries : ℕ) (ended brief : Bool) (spot : Spot) (ls : List Line) → ls ≢ [] → BeginEntry ls
    → walk (progress_behind header entries ended) ls ≡ Some (stages.Behind brief spot) → IsOpen header entries ended brief spot ls
is_open header entries ended brief spot [] some b e = absurd (some refl)
is_open None entries ended brief spot (line ∷ ls) some b e = absurd (no_first_shape line ls _ b.0 e)
is_open (Some header) entries true brief spot (line ∷ ls) some b e = absurd (no_shape_behind_end header.brief entries line ls _ b.0 e)
is_open (Some header) entries false brief spot (line ∷ ls) some b e =
    let w = walk_behind header.brief (record { shapes = entries; place = places.Between }) (line ∷ ls) (stages.Behind brief spot) e in
    let same = w.2 in
    let same_brief : header.brief ≡ brief = cc in
    let same_spot : w.0 ≡ spot = cc in
    record {
      read = λ n. cc;
      behind = λ shapes. rw same_brief refl;
      reached = subst (λ (b : Bool). steps b (record { shapes = entries; place = places.Between }) (line ∷ ls) ≡ Some spot) same_brief (w.1 ∙ ap (λ (s : Spot). Some s) same_spot);
    }

-- the scan's entry at hand, where there is one
pub scan_open : (s : Scan) (brief : Bool) (spot : Spot) → IsScan s → s.lines.items ≢ [] → s.progress ≡ stages.Behind brief spot → IsOpen s.appended.header s.appended.entries s.appended.ended brief spot s.lines.items
scan_open s brief spot i some p = is_open s.appended.header s.appended.entries s.appended.ended brief spot s.lines.items some i.one_entry (i.lead.reached ∙ ap (λ (q : Progress). Some q) p)

one_more : (s : Scan) (brief : Bool) (spot : Spot) → IsScan s → s.lines.items ≢ [] → s.progress ≡ stages.Behind brief spot → spot.shapes ≡ s.appended.entries + 1
one_more s brief spot i some p =
    elim i.shapes [
      | inl none ↦ absurd (some none)
      | inr n ↦ ap shapes_of (sym p) ∙ n
    ]

pub entry_at_hand : (s : Scan) (brief : Bool) (spot : Spot) → IsScan s → s.lines.items ≢ [] → s.progress ≡ stages.Behind brief spot → may_end s.progress ≡ true → AreEntryLines brief s.lines.items
entry_at_hand s brief spot i some p w =
    are_entry_lines brief (record { shapes = s.appended.entries; place = places.Between }) spot s.lines.items refl (scan_open s brief spot i some p).reached (ap may_end (sym p) ∙ w) (one_more s brief spot i some p)

-- the entry's item counts its lines, and one entry more
counts_entry : (a : Appended) (item : Item) (n shapes : ℕ) → item_lines item ≢ [] → BeginEntry (item_lines item) → n ≡ length (item_lines item) → shapes ≡ a.entries + 1
    → record { header = a.header; entries = shapes; lines = a.lines + n; ended = a.ended } ≡ with_item a item
counts_entry a (items.Header header) n shapes some b e f = absurd b.0
counts_entry a (items.End count) n shapes some b e f = absurd b.0
counts_entry a (items.Entry line entry) n shapes some b e f = rw (e, f) refl
counts_entry a (items.Brief line cells verdict) n shapes some b e f = rw (e, f) refl

-- what `give_entry` makes of a scan
pub record Given (s t : Scan) (shapes n : ℕ) : Type 0 where
  pub appended : t.appended ≡ record { header = s.appended.header; entries = shapes; lines = s.appended.lines + n; ended = s.appended.ended }
  pub lines : t.lines.items ≡ []
  pub progress : t.progress ≡ between s.progress
  pub line : t.line.items ≡ s.line.items

given_is : (s t : Scan) (brief : Bool) (spot : Spot) → IsScan s → s.lines.items ≢ [] → s.progress ≡ stages.Behind brief spot → Given s t spot.shapes (length s.lines.items) → IsScan t
given_is s t brief spot i some p g =
    let o = scan_open s brief spot i some p in
    let there : progress_of t.appended ≡ t.progress = ap progress_of g.appended ∙ o.behind spot.shapes ∙ ap between (sym p) ∙ sym g.progress in
    record {
      lead = record { forms = rw g.lines tt; reached = rw (g.lines, there) refl };
      one_entry = rw g.lines tt;
      shapes = inl g.lines;
      one_line = rw g.line i.one_line;
      fresh = λ n. absurd (o.read (ap (λ (a : Appended). a.header) (sym g.appended) ∙ n));
      room = rw (g.appended, g.lines) (omega (arith, i.room));
    }

pub gives : (s t : Scan) (before after : List Item) (item : Item) (brief : Bool) (spot : Spot) → IsScan s → s.lines.items ≢ [] → s.progress ≡ stages.Behind brief spot
    → Given s t spot.shapes (length s.lines.items) → item_lines item ≡ s.lines.items → IsItemAt s.appended.lines item → after ≡ before ++ item ∷ [] → GivesEntry s t before after
gives s t before after item brief spot i some p g e n a =
    let counted = counts_entry s.appended item (length s.lines.items) spot.shapes (rw e some) (rw e i.one_entry) (ap length (sym e)) (one_more s brief spot i some p) in
    record {
      moves = record {
        found = item ∷ [];
        after_is = a;
        appended = g.appended ∙ counted;
        numbered = (n, tt);
        split = append-nil s.lines.items ∙ sym (rw g.lines (append-nil (lines_of (item ∷ [])) ∙ append-nil (item_lines item) ∙ e));
        apart = inr g.lines;
        is = given_is s t brief spot i some p g;
      };
      none_held = g.lines;
      one_more = ap (λ (a : Appended). a.entries) g.appended ∙ one_more s brief spot i some p;
      progress = g.progress;
      line = g.line;
    }
