-- What one more line makes of the lines and items so far.
use Rattle.std.proofs.Common.{◌≡◌, ◌⊎◌, inl, inr, ℕ, ◌+◌, ◌==◌, ◌&&◌, Bool, true, false, List, [], ◌∷◌, ◌++◌, length, Option, Some, None, Result, Ok, Err, if◌then◌else◌, refl, sym, ap, subst, ◌∙◌, append_assoc, arith}
use Rattle.std.specs.Bool.{MatchBool}
use Rattle.std.specs.List.{flat_map}
use Rattle.std.proofs.lemmas.Bool.{eqb-true}
use Rattle.std.proofs.lemmas.List.{append-nil}
use Rattle.heesch_cert.specs.declared.header.Header.{Header}
use Rattle.heesch_cert.specs.declared.entry.Entry.{Entry}
use Rattle.heesch_text.specs.declared.line.Line.{Line}
use Rattle.heesch_text.specs.declared.line.Line.TheVariants as lines
use Rattle.heesch_text.specs.Catalogue.{entry_lines}
use Rattle.heesch_line.specs.Forms.{IsLine}
use Rattle.heesch_grammar.specs.declared.place.Place.TheVariants as places
use Rattle.heesch_grammar.specs.Grammar.{steps}
use Rattle.heesch_grammar.specs.Statements.{start as first_spot}
use Rattle.heesch_reader.specs.declared.item.Item.{Item}
use Rattle.heesch_reader.specs.declared.item.Item.TheVariants as items
use Rattle.heesch_reader.specs.declared.progress.Progress.{Progress}
use Rattle.heesch_reader.specs.declared.progress.Progress.TheVariants as stages
use Rattle.heesch_parts.specs.declared.part_line.PartLine.{PartLine}
use Rattle.heesch_parts.specs.declared.part_line.PartLine.TheVariants as parts
use Rattle.heesch_parts.specs.declared.stage.Stage.{Stage}
use Rattle.heesch_parts.specs.PartLines.{IsShare}
use Rattle.heesch_parts.specs.Stages.{may_join, may_be, awaits_header, Agrees, with_header, HeaderStep, share_step}
use Rattle.heesch_parts.specs.Shares.{items_behind, share_items}
use Rattle.heesch_parts.specs.Joining.{AreBuilt, shares_of, whole_lines, begun_lines, lines_before, IsCountOf, IsHeaderOf, HasNone, IsBehind, new_header}
use Rattle.heesch_parts.proofs.WholeShares.{full_header}

-- a stage of these parts
abbrev pub stage_of : Option ℕ → ℕ → Option Header → ℕ → Option Progress → Stage
stage_of shares share header entries progress = record { shares = shares; share = share; header = header; entries = entries; progress = progress }

-- ---- a `share` line

if_ok : (b : Bool) (n : ℕ) (r next : Stage) → Ok r ≡ (if b then Ok next else Err n) → (b ≡ true) × (r ≡ next)
if_ok true n r next e = (refl, cc)
if_ok false n r next e = absurd cc

both : (a b : Bool) → (a && b) ≡ true → (a ≡ true) × (b ≡ true)
both true b e = (refl, e)
both false b e = absurd cc

nil_whole : (k m : ℕ) (header : Option Header) (whole : List (List Entry)) → whole ≡ [] → whole_lines 1 k header whole ≡ whole_lines 1 m header whole
nil_whole k m header whole none = ap (λ (x : List (List Entry)). whole_lines 1 k header x) none ∙ sym (ap (λ (x : List (List Entry)). whole_lines 1 m header x) none)

-- as many shares as before, or none before
same_whole : (shares : Option ℕ) (share k : ℕ) (header : Option Header) (whole : List (List Entry)) (p : Option Progress) → IsCountOf shares share whole p → may_be shares k ≡ true → whole_lines 1 (shares_of shares) header whole ≡ whole_lines 1 k header whole
same_whole None share k header whole p c e = nil_whole 0 k header whole c.0
same_whole (Some m) share k header whole p c e = ap (λ (x : ℕ). whole_lines 1 x header whole) (sym (eqb-true k m e))

headed : (header : Option Header) (whole : List (List Entry)) → IsHeaderOf header whole None → IsHeaderOf header whole (Some stages.Start)
headed None whole h = (h.0, tt)
headed (Some header) whole h = h

pub built_share : (shares : Option ℕ) (share : ℕ) (header : Option Header) (entries : ℕ) (p : Option Progress) (ls : List PartLine) (held : List Line) (given : List Item) (i k : ℕ) (r : Stage)
    → AreBuilt ls (stage_of shares share header entries p) held given → IsShare i k → Ok r ≡ share_step (stage_of shares share header entries p) i k → AreBuilt (ls ++ parts.Share i k ∷ []) r held given
built_share shares share header entries (Some progress) ls held given i k r b s e = absurd cc
built_share shares share header entries None ls held given i k r b s e =
    let next = stage_of (Some k) i header entries (Some stages.Start) in
    let f = if_ok ((i == share + 1) && may_be shares k) 9 r next e in
    let g = both (i == share + 1) (may_be shares k) f.0 in
    let number : i ≡ share + 1 = eqb-true i (share + 1) g.0 in
    let hand = b.at_hand in
    let whole_is : ls ≡ whole_lines 1 k header b.whole = b.lines ∙ append-nil (whole_lines 1 (shares_of shares) header b.whole) ∙ same_whole shares share k header b.whole None b.counted g.1 in
    subst (λ (x : Stage). AreBuilt (ls ++ parts.Share i k ∷ []) x held given) (sym f.1)
    (record {
      whole = b.whole;
      entries = b.entries;
      lines = ap (λ (x : List PartLine). x ++ parts.Share i k ∷ []) whole_is;
      given_are = b.given_are;
      counted = (s.first, s.last, s.most);
      header = headed header b.whole b.header;
      at_hand = (omega (arith, number, hand.0), hand.1);
      each = b.each;
      each_of_last = b.each_of_last;
      held_forms = b.held_forms;
      all = b.all;
      most = b.most;
    })

-- ---- a header

-- a header that may stand is awaited, may be joined, and agrees with the first
pub record HeaderStands (p : Option Progress) (s : Stage) (header : Header) (r : Stage) : Type 0 where
  pub joins : may_join header ≡ true
  pub awaited : awaits_header p ≡ true
  pub agrees : Agrees s.header header
  pub reached : r ≡ with_header s header

header_tests : (join awaited : Bool) (A : Type 0) (q : Result Stage ℕ) (r next : Stage) → q ≡ Ok r → MatchBool join (MatchBool awaited ((A × (q ≡ Ok next)) ⊎ ((A → ⊥) × (q ≡ Err 10))) (q ≡ Err 6)) (q ≡ Err 10)
    → (join ≡ true) × (awaited ≡ true) × A × (r ≡ next)
header_tests true true A q r next e (inl h) = let same = sym e ∙ h.1 in (refl, refl, h.0, cc)
header_tests true true A q r next e (inr h) = let bad = sym e ∙ h.1 in absurd cc
header_tests true false A q r next e h = let bad = sym e ∙ h in absurd cc
header_tests false awaited A q r next e h = let bad = sym e ∙ h in absurd cc

header_stands : (s : Stage) (header : Header) (r : Stage) → HeaderStep s header (Ok r) → HeaderStands s.progress s header r
header_stands s header r h = let t = header_tests (may_join header) (awaits_header s.progress) (Agrees s.header header) (Ok r) r (with_header s header) refl h in record { joins = t.0; awaited = t.1; agrees = t.2; reached = t.3 }

-- the number of shares stays known
pub counted_on : (shares : Option ℕ) (share : ℕ) (whole : List (List Entry)) (p q : Option Progress) → (p ≡ None → ⊥) → IsCountOf shares share whole p → IsCountOf shares share whole q
counted_on None share whole p q some c = absurd (some c.1)
counted_on (Some k) share whole p q some c = c

nothing_behind : (entries : List Entry) (held : List Line) (s : Stage) → HasNone entries held → IsBehind entries held s first_spot
nothing_behind entries held s n = record {
  reached = subst (λ (es : List Entry). steps false (record { shapes = length es; place = places.Between }) held ≡ Some first_spot) (sym n.no_entry) (subst (λ (x : List Line). steps false first_spot x ≡ Some first_spot) (sym n.no_line) refl);
  shapes = inl n.no_line;
}

pub built_header : (shares : Option ℕ) (share : ℕ) (first : Option Header) (entries : ℕ) (p : Option Progress) (ls : List PartLine) (held : List Line) (given : List Item) (header : Header) (r : Stage)
    → AreBuilt ls (stage_of shares share first entries p) held given → IsLine (lines.Header header) → HeaderStep (stage_of shares share first entries p) header (Ok r)
    → AreBuilt (ls ++ parts.Catalogue (lines.Header header) ∷ []) r held (given ++ new_header first header)
built_header shares share first entries None ls held given header r b form e = let t = (header_stands (stage_of shares share first entries None) header r e).awaited in absurd cc
built_header shares share first entries (Some (stages.Behind brief spot)) ls held given header r b form e =
    let t = (header_stands (stage_of shares share first entries (Some (stages.Behind brief spot))) header r e).awaited in absurd cc
built_header shares share None entries (Some stages.Start) ls held given header r b form e =
    let t = header_stands (stage_of shares share None entries (Some stages.Start)) header r e in
    let hand = b.at_hand in
    let k = shares_of shares in
    let none : b.whole ≡ [] = b.header.0 in
    let empty : flat_map entry_lines b.entries ++ held ≡ [] = ap (λ (x : List Entry). flat_map entry_lines x ++ held) hand.1.no_entry ∙ hand.1.no_line in
    let before : ls ≡ parts.Share share k ∷ [] = b.lines ∙ ap (λ (x : List (List Entry)). whole_lines 1 k None x ++ parts.Share share k ∷ []) none in
    let whole : whole_lines 1 k (Some header) b.whole ≡ [] = ap (whole_lines 1 k (Some header)) none in
    let behind : begun_lines (Some (stages.Behind header.brief first_spot)) share k (Some header) (flat_map entry_lines b.entries ++ held) ≡ parts.Share share k ∷ parts.Catalogue (lines.Header header) ∷ [] =
    ap (begun_lines (Some (stages.Behind header.brief first_spot)) share k (Some header)) empty in
    let no_items : share_items 0 b.whole ++ items_behind (lines_before b.whole + 2) b.entries ≡ [] =
    ap (λ (x : List (List Entry)). share_items 0 x ++ items_behind (lines_before x + 2) b.entries) none ∙ ap (items_behind 2) hand.1.no_entry in
    subst (λ (x : Stage). AreBuilt (ls ++ parts.Catalogue (lines.Header header) ∷ []) x held (given ++ items.Header header ∷ [])) (sym t.reached)
    (record {
      whole = b.whole;
      entries = b.entries;
      lines = ap (λ (x : List PartLine). x ++ parts.Catalogue (lines.Header header) ∷ []) before ∙ sym (ap (λ (x : List PartLine). x ++ begun_lines (Some (stages.Behind header.brief first_spot)) share k (Some header) (flat_map entry_lines b.entries ++ held)) whole ∙ behind);
      given_are = ap (λ (x : List Item). x ++ items.Header header ∷ []) (b.given_are ∙ no_items) ∙ ap (λ (x : List Item). items.Header header ∷ x) (sym no_items);
      counted = counted_on shares share b.whole (Some stages.Start) (Some (stages.Behind header.brief first_spot)) (λ f. absurd cc) b.counted;
      header = record { form = form; joins = t.joins };
      at_hand = (hand.0, full_header header t.joins, nothing_behind b.entries held (with_header (stage_of shares share None entries (Some stages.Start)) header) hand.1);
      each = b.each;
      each_of_last = b.each_of_last;
      held_forms = b.held_forms;
      all = b.all;
      most = b.most;
    })
built_header shares share (Some first) entries (Some stages.Start) ls held given header r b form e =
    let t = header_stands (stage_of shares share (Some first) entries (Some stages.Start)) header r e in
    let hand = b.at_hand in
    let k = shares_of shares in
    let same : header ≡ first = t.agrees in
    let empty : flat_map entry_lines b.entries ++ held ≡ [] = ap (λ (x : List Entry). flat_map entry_lines x ++ held) hand.1.no_entry ∙ hand.1.no_line in
    let behind : begun_lines (Some (stages.Behind header.brief first_spot)) share k (Some header) (flat_map entry_lines b.entries ++ held) ≡ parts.Share share k ∷ parts.Catalogue (lines.Header header) ∷ [] =
    ap (begun_lines (Some (stages.Behind header.brief first_spot)) share k (Some header)) empty in
    let before : ls ≡ whole_lines 1 k (Some header) b.whole ++ parts.Share share k ∷ [] = b.lines ∙ ap (λ (x : Header). whole_lines 1 k (Some x) b.whole ++ parts.Share share k ∷ []) (sym same) in
    subst (λ (x : Stage). AreBuilt (ls ++ parts.Catalogue (lines.Header header) ∷ []) x held (given ++ [])) (sym t.reached)
    (record {
      whole = b.whole;
      entries = b.entries;
      lines = ap (λ (x : List PartLine). x ++ parts.Catalogue (lines.Header header) ∷ []) before ∙ append_assoc (whole_lines 1 k (Some header) b.whole) (parts.Share share k ∷ []) (parts.Catalogue (lines.Header header) ∷ [])
          ∙ ap (λ (x : List PartLine). whole_lines 1 k (Some header) b.whole ++ x) (sym behind);
      given_are = append-nil given ∙ b.given_are ∙ ap (λ (x : Header). items.Header x ∷ (share_items 0 b.whole ++ items_behind (lines_before b.whole + 2) b.entries)) (sym same);
      counted = counted_on shares share b.whole (Some stages.Start) (Some (stages.Behind header.brief first_spot)) (λ f. absurd cc) b.counted;
      header = record { form = form; joins = t.joins };
      at_hand = (hand.0, full_header header t.joins, nothing_behind b.entries held (with_header (stage_of shares share (Some first) entries (Some stages.Start)) header) hand.1);
      each = b.each;
      each_of_last = b.each_of_last;
      held_forms = b.held_forms;
      all = b.all;
      most = b.most;
    })
