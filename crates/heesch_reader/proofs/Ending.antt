-- A line that may stand goes into the scan.
use Rattle.std.proofs.Common.{◌≡◌, ◌≢◌, ℕ, ◌+◌, ◌<◌, ◌^◌, Bool, true, false, ◌&&◌, ◌==◌, List, [], ◌∷◌, ◌++◌, length, Option, Some, None, Result, Ok, Err, refl, sym, ap, append_assoc, subst, ◌∙◌, arith, inl, inr}
use Rattle.std.specs.Prelude.{option_map, not}
use Rattle.std.proofs.lemmas.Bool.{eqb-true, false≢true}
use Rattle.std.proofs.lemmas.List.{append-nil, length-append, nil_from_length}
use Rattle.std.proofs.lemmas.List.Concat.{flat_map-append}
use Rattle.heesch_cert.specs.declared.header.Header.{Header}
use Rattle.heesch_text.specs.declared.line.Line.{Line}
use Rattle.heesch_text.specs.declared.line.Line.TheVariants as lines
use Rattle.heesch_text.specs.Lines.{words_of, line_text, text_of}
use Rattle.heesch_line.specs.Forms.{IsLine}
use Rattle.heesch_grid.specs.declared.Cell.{Cell}
use Rattle.heesch_grammar.specs.declared.place.Place.{Place}
use Rattle.heesch_grammar.specs.declared.place.Place.TheVariants as places
use Rattle.heesch_grammar.specs.declared.spot.Spot.{Spot}
use Rattle.heesch_grammar.specs.Grammar.{step, is_whole}
use Rattle.heesch_grammar.specs.Grammar.{next as place_next}
use Rattle.heesch_grammar.specs.Statements.{start}
use Rattle.heesch_grammar.proofs.Heading.{bind_some, shape_step, end_step, inner_place, IsInner}
use Rattle.heesch_reader.specs.declared.item.Item.{Item}
use Rattle.heesch_reader.specs.declared.item.Item.TheVariants as items
use Rattle.heesch_reader.specs.declared.item.Part.{Part}
use Rattle.heesch_line.specs.declared.stops.LineStop.{LineStop}
use Rattle.heesch_line.specs.declared.stops.LineStop.TheVariants as stops
use Rattle.heesch_reader.specs.declared.progress.Progress.{Progress}
use Rattle.heesch_reader.specs.declared.progress.Progress.TheVariants as stages
use Rattle.heesch_reader.specs.declared.scan.Appended.{Appended}
use Rattle.heesch_reader.specs.declared.scan.Scan.{Scan}
use Rattle.heesch_reader.specs.Progress.{next, walk, may_end}
use Rattle.heesch_reader.specs.Items.{with_items, progress_behind, progress_of, none_appended}
use Rattle.heesch_line.proofs.LinesAgain.{words_tell}
use Rattle.heesch_reader.specs.Faults.{begins_next, MayNotStand}
use Rattle.heesch_reader.specs.Feeding.{BeginEntry, IsInside, IsShown}
use Rattle.heesch_reader.specs.Scanning.{IsScan, Moves, Advances, Ends, held_by, given_by, shapes_of, shows_whole, rest_of, EndsOrFaults, IsFaultOf}
use Rattle.heesch_reader.proofs.Walking.{all_append, walk_push, walk_behind, has_words, shows_more}

-- ---- what stands before a line

-- a header may stand at the start alone
no_header : (brief : Bool) (p : Place) (header : Header) → place_next brief p (lines.Header header) ≡ None
no_header brief places.Between header = refl
no_header brief places.Shape header = refl
no_header brief places.Tiling header = refl
no_header brief places.Lattice header = refl
no_header brief places.Tile header = refl
no_header brief (places.Search last) header = refl
no_header brief (places.Layers more count last) header = refl
no_header brief (places.Coronas count last) header = refl
no_header brief (places.Proof refuted after) header = refl
no_header brief (places.Wall level last) header = refl
no_header brief places.MayOpen header = refl
no_header brief places.OpenNone header = refl
no_header brief (places.MustOpen count) header = refl
no_header brief (places.Wider more) header = refl
no_header brief places.Triples header = refl
no_header brief places.Ended header = refl

pub header_first : (p r : Progress) (header : Header) → next p (lines.Header header) ≡ Some r → (p ≡ stages.Start) × (stages.Behind header.brief start ≡ r)
header_first stages.Start r header e = (refl, cc)
header_first (stages.Behind brief spot) r header e =
    let none : next (stages.Behind brief spot) (lines.Header header) ≡ None = rw (no_header brief spot.place header) refl in
    let bad = sym none ∙ e in absurd cc

behind_map : (brief : Bool) (o : Option Spot) (r : Progress) → option_map (λ t. stages.Behind brief t) o ≡ Some r → (u : Spot) × (o ≡ Some u) × (stages.Behind brief u ≡ r)
behind_map brief None r e = absurd cc
behind_map brief (Some u) r e = (u, refl, cc)

leaves_start : (p r : Progress) (line : Line) → next p line ≡ Some r → (b : Bool) × (u : Spot) × (stages.Behind b u ≡ r)
leaves_start stages.Start r (lines.Header header) e = (header.brief, start, cc)
leaves_start stages.Start r line e = absurd cc
leaves_start (stages.Behind brief spot) r line e = let m = behind_map brief (step brief spot line) r e in (brief, m.0, m.2)

-- nothing was read where the start was reached
pub at_start : (p : Progress) (ls : List Line) → walk p ls ≡ Some stages.Start → (ls ≡ []) × (p ≡ stages.Start)
at_start p [] e = (refl, cc)
at_start p (line ∷ ls) e =
    let n = bind_some (next p line) (λ q. walk q ls) stages.Start e in
    let b = leaves_start p n.0 line n.1 in
    let w = walk_behind b.0 b.1 ls stages.Start (subst (λ (q : Progress). walk q ls ≡ Some stages.Start) (sym b.2) n.2) in
    let bad = w.2 in
    absurd cc

no_header_yet : (header : Option Header) (entries : ℕ) (ended : Bool) → progress_behind header entries ended ≡ stages.Start → header ≡ None
no_header_yet None entries ended e = refl
no_header_yet (Some header) entries ended e = absurd cc

pub no_lines : (p q : Progress) (ls : List Line) → ls ≡ [] → walk p ls ≡ Some q → p ≡ q
no_lines p q [] n e = cc
no_lines p q (line ∷ ls) n e = absurd cc

-- ---- a header

header_moves : (s t : Scan) (before after : List Item) (header : Header) (reached : Progress) → IsScan s → next s.progress (lines.Header header) ≡ Some reached
    → Advances s t before after (lines.Header header) reached → Moves s t before after (lines.Header header ∷ [])
header_moves s t before after header reached i may a =
    let f = header_first s.progress reached header may in
    let w = at_start (progress_of s.appended) s.lines.items (i.lead.reached ∙ ap (λ (q : Progress). Some q) f.0) in
    let blank : s.appended ≡ none_appended = i.fresh (no_header_yet s.appended.header s.appended.entries s.appended.ended w.1) in
    let held : t.lines.items ≡ [] = a.lines ∙ append-nil s.lines.items ∙ w.0 in
    let told : t.appended ≡ record { header = Some header; entries = 0; lines = 1; ended = false } = a.appended ∙ ap (λ (x : Appended). with_items x (items.Header header ∷ [])) blank in
    let count : t.appended.lines ≡ 1 = ap (λ (x : Appended). x.lines) told in
    let none : length t.lines.items ≡ 0 = ap length held in
    record {
      found = items.Header header ∷ [];
      after_is = a.after_is;
      appended = a.appended;
      numbered = (tt, tt);
      split = rw (w.0, held) refl;
      apart = inr held;
      is = record {
        lead = record { forms = rw held tt; reached = rw (told, held, a.progress) (ap (λ (q : Progress). Some q) f.1) };
        one_entry = rw held tt;
        shapes = inl held;
        one_line = rw a.emptied tt;
        fresh = λ n. let bad = sym (ap (λ (x : Appended). x.header) told) ∙ n in absurd cc;
        room = omega (arith, count, none);
      };
    }

-- ---- where `shape` and `end` may stand

keeps_false : (x : Bool) → ((x && true) && true) ≡ false → x ≡ false
keeps_false true e = absurd cc
keeps_false false e = refl

not_false : (x : Bool) → not x ≡ false → x ≡ true
not_false true e = refl
not_false false e = absurd cc

-- where the other tests pass, the first fails
pub is_none : (n : ℕ) (w b : Bool) → ((not (n == 0) && w) && b) ≡ false → w ≡ true → b ≡ true → n ≡ 0
is_none n w b e f g =
    let both : ((not (n == 0) && true) && true) ≡ false = rw (f, g) at e in
    eqb-true n 0 (not_false (n == 0) (keeps_false (not (n == 0)) both))

none_held : (s : Scan) (line : Line) → shows_whole s ≡ false → words_of line ≡ s.line.items → begins_next (words_of line) ≡ true → may_end s.progress ≡ true → s.lines.items ≡ []
none_held s line settled words begins w =
    nil_from_length s.lines.items (is_none (length s.lines.items) (may_end s.progress) (begins_next s.line.items) settled w (subst (λ (x : List ℕ). begins_next x ≡ true) words begins))

-- ---- an end

pub record EndsAt (p r : Progress) : Type 0 where
  pub brief : Bool
  pub spot : Spot
  pub p_is : p ≡ stages.Behind brief spot
  pub whole : is_whole spot.place ≡ true
  pub r_is : stages.Behind brief (record { shapes = spot.shapes; place = places.Ended }) ≡ r

ended_as : (brief : Bool) (spot u : Spot) (r : Progress) → u.shapes ≡ spot.shapes → u.place ≡ places.Ended → stages.Behind brief u ≡ r → stages.Behind brief (record { shapes = spot.shapes; place = places.Ended }) ≡ r
ended_as brief spot u r f g e = rw (← f, ← g) e

pub end_next : (p r : Progress) (count : ℕ) → next p (lines.End count) ≡ Some r → EndsAt p r
end_next stages.Start r count e = absurd cc
end_next (stages.Behind brief spot) r count e =
    let m = behind_map brief (step brief spot (lines.End count)) r e in
    let f = end_step brief spot m.0 count m.1 in
    record { brief = brief; spot = spot; p_is = refl; whole = f.0; r_is = ended_as brief spot m.0 r f.1 f.2 m.2 }

behind_end : (header : Option Header) (entries : ℕ) (ended brief : Bool) (spot : Spot) → progress_behind header entries ended ≡ stages.Behind brief spot → is_whole spot.place ≡ true
    → (header ≡ None → ⊥) × (progress_behind header entries true ≡ stages.Behind brief (record { shapes = spot.shapes; place = places.Ended }))
behind_end None entries ended brief spot e w = absurd cc
behind_end (Some header) entries true brief spot e w =
    let there : places.Ended ≡ spot.place = cc in
    let bad : is_whole places.Ended ≡ true = ap is_whole there ∙ w in absurd cc
behind_end (Some header) entries false brief spot e w =
    let same_brief : header.brief ≡ brief = cc in
    let same_count : entries ≡ spot.shapes = cc in
    (λ n. cc, rw (same_brief, same_count) refl)

end_moves : (s t : Scan) (before after : List Item) (count : ℕ) (reached : Progress) → IsScan s → shows_whole s ≡ false → words_of (lines.End count) ≡ s.line.items
    → s.appended.lines + length s.lines.items + 2 < 2 ^ 64 → next s.progress (lines.End count) ≡ Some reached
    → Advances s t before after (lines.End count) reached → Moves s t before after (lines.End count ∷ [])
end_moves s t before after count reached i settled words room may a =
    let f = end_next s.progress reached count may in
    let none = none_held s (lines.End count) settled words refl (rw f.p_is f.whole) in
    let here : progress_of s.appended ≡ s.progress = no_lines (progress_of s.appended) s.progress s.lines.items none i.lead.reached in
    let known = behind_end s.appended.header s.appended.entries s.appended.ended f.brief f.spot (here ∙ f.p_is) f.whole in
    let held : t.lines.items ≡ [] = a.lines ∙ append-nil s.lines.items ∙ none in
    let lines_now : t.appended.lines ≡ s.appended.lines + 1 = ap (λ (x : Appended). x.lines) a.appended in
    let empty : length t.lines.items ≡ 0 = ap length held in
    let there : progress_of t.appended ≡ reached = ap progress_of a.appended ∙ known.1 ∙ f.r_is in
    record {
      found = items.End count ∷ [];
      after_is = a.after_is;
      appended = a.appended;
      numbered = (tt, tt);
      split = rw (none, held) refl;
      apart = inr held;
      is = record {
        lead = record { forms = rw held tt; reached = rw (held, a.progress) (ap (λ (q : Progress). Some q) there) };
        one_entry = rw held tt;
        shapes = inl held;
        one_line = rw a.emptied tt;
        fresh = λ n. absurd (known.0 (sym (ap (λ (x : Appended). x.header) a.appended) ∙ n));
        room = omega (arith, lines_now, empty, room);
      };
    }

-- ---- a line of an entry

kept_moves : (s t : Scan) (before after : List Item) (line : Line) (reached : Progress) → IsScan s → IsLine line → next s.progress line ≡ Some reached → Advances s t before after line reached
    → given_by line ≡ [] → held_by line ≡ line ∷ [] → BeginEntry (s.lines.items ++ line ∷ []) → shapes_of reached ≡ s.appended.entries + 1
    → s.appended.lines + length s.lines.items + 2 < 2 ^ 64 → Moves s t before after (line ∷ [])
kept_moves s t before after line reached i form may a given held one shapes room =
    let lines_now : t.lines.items ≡ s.lines.items ++ line ∷ [] = a.lines ∙ ap (λ (x : List Line). s.lines.items ++ x) held in
    let told : t.appended ≡ s.appended = a.appended ∙ ap (with_items s.appended) given in
    let count : t.appended.lines ≡ s.appended.lines = ap (λ (x : Appended). x.lines) told in
    let lengths : length t.lines.items ≡ length s.lines.items + 1 = ap length lines_now ∙ length-append s.lines.items (line ∷ []) in
    record {
      found = [];
      after_is = a.after_is ∙ ap (λ (x : List Item). before ++ x) given;
      appended = told;
      numbered = tt;
      split = sym lines_now;
      apart = inl refl;
      is = record {
        lead = record {
          forms = rw lines_now (all_append IsLine s.lines.items (line ∷ []) i.lead.forms (form, tt));
          reached = rw (told, lines_now, a.progress) (walk_push (progress_of s.appended) s.progress reached s.lines.items line i.lead.reached may);
        };
        one_entry = rw lines_now one;
        shapes = inr (rw (a.progress, told) shapes);
        one_line = rw a.emptied tt;
        fresh = λ n. told ∙ i.fresh (sym (ap (λ (x : Appended). x.header) told) ∙ n);
        room = omega (arith, count, lengths, room);
      };
    }

pub record ShapeAt (p r : Progress) : Type 0 where
  pub brief : Bool
  pub spot : Spot
  pub p_is : p ≡ stages.Behind brief spot
  pub whole : is_whole spot.place ≡ true
  pub one_more : shapes_of r ≡ spot.shapes + 1

pub shape_next : (p r : Progress) (cells : List Cell) → next p (lines.Shape cells) ≡ Some r → ShapeAt p r
shape_next stages.Start r cells e = absurd cc
shape_next (stages.Behind brief spot) r cells e =
    let m = behind_map brief (step brief spot (lines.Shape cells)) r e in
    let f = shape_step brief spot m.0 cells m.1 in
    record { brief = brief; spot = spot; p_is = refl; whole = f.0; one_more = ap shapes_of (sym m.2) ∙ f.1 }

shapes_so_far : (header : Option Header) (entries : ℕ) (ended brief : Bool) (spot : Spot) → progress_behind header entries ended ≡ stages.Behind brief spot → spot.shapes ≡ entries
shapes_so_far None entries ended brief spot e = absurd cc
shapes_so_far (Some header) entries ended brief spot e = let same : entries ≡ spot.shapes = cc in sym same

shape_moves : (s t : Scan) (before after : List Item) (cells : List Cell) (reached : Progress) → IsScan s → shows_whole s ≡ false → IsLine (lines.Shape cells) → words_of (lines.Shape cells) ≡ s.line.items
    → s.appended.lines + length s.lines.items + 2 < 2 ^ 64 → next s.progress (lines.Shape cells) ≡ Some reached
    → Advances s t before after (lines.Shape cells) reached → Moves s t before after (lines.Shape cells ∷ [])
shape_moves s t before after cells reached i settled form words room may a =
    let f = shape_next s.progress reached cells may in
    let none = none_held s (lines.Shape cells) settled words refl (rw f.p_is f.whole) in
    let here : progress_of s.appended ≡ s.progress = no_lines (progress_of s.appended) s.progress s.lines.items none i.lead.reached in
    let count = shapes_so_far s.appended.header s.appended.entries s.appended.ended f.brief f.spot (here ∙ f.p_is) in
    kept_moves s t before after (lines.Shape cells) reached i form may a refl refl (rw none (tt, tt)) (f.one_more ∙ ap (λ (n : ℕ). n + 1) count) room

-- ---- a line inside an entry

no_inside_behind : (header : Option Header) (entries : ℕ) (ended : Bool) (line : Line) (r : Progress) → IsInside line → next (progress_behind header entries ended) line ≡ Some r → ⊥
no_inside_behind header entries ended (lines.Header h) r i e = i
no_inside_behind header entries ended (lines.Shape cells) r i e = i
no_inside_behind header entries ended (lines.End count) r i e = i
no_inside_behind None entries ended line r i e = absurd cc
no_inside_behind (Some header) entries true line r i e = absurd cc
no_inside_behind (Some header) entries false line r i e = absurd cc

is_inner : (line : Line) → IsInside line → IsInner line
is_inner (lines.Header header) i = tt
is_inner (lines.Shape cells) i = i
is_inner (lines.End count) i = i
is_inner line i = tt

push_inside : (ls : List Line) (line : Line) → ls ≢ [] → BeginEntry ls → IsInside line → BeginEntry (ls ++ line ∷ [])
push_inside [] line some b i = absurd (some refl)
push_inside (x ∷ ls) line some b i = (b.0, all_append IsInside ls (line ∷ []) b.1 (i, tt))

keeps_shapes : (p r : Progress) (line : Line) → IsInside line → next p line ≡ Some r → shapes_of r ≡ shapes_of p
keeps_shapes stages.Start r (lines.Header header) i e = absurd i
keeps_shapes stages.Start r line i e = absurd cc
keeps_shapes (stages.Behind brief spot) r line i e =
    let m = behind_map brief (step brief spot line) r e in
    ap shapes_of (sym m.2) ∙ (inner_place brief spot m.0 line (is_inner line i) m.1).1

inside_moves : (s t : Scan) (before after : List Item) (line : Line) (reached : Progress) → IsScan s → IsInside line → IsLine line → given_by line ≡ [] → held_by line ≡ line ∷ []
    → s.appended.lines + length s.lines.items + 2 < 2 ^ 64 → next s.progress line ≡ Some reached → Advances s t before after line reached → Moves s t before after (line ∷ [])
inside_moves s t before after line reached i inside form given held room may a =
    let some : s.lines.items ≢ [] = λ none.
    no_inside_behind s.appended.header s.appended.entries s.appended.ended line reached inside (ap (λ (q : Progress). next q line) (no_lines (progress_of s.appended) s.progress s.lines.items none i.lead.reached) ∙ may) in
    let shapes : shapes_of s.progress ≡ s.appended.entries + 1 = elim i.shapes [
      | inl none ↦ absurd (some none)
      | inr n ↦ n
    ] in
    kept_moves s t before after line reached i form may a given held (push_inside s.lines.items line some i.one_entry inside) (keeps_shapes s.progress reached line inside may ∙ shapes) room

-- ---- any line

moves : (s t : Scan) (before after : List Item) (line : Line) (reached : Progress) → IsScan s → shows_whole s ≡ false → IsLine line → words_of line ≡ s.line.items
    → s.appended.lines + length s.lines.items + 2 < 2 ^ 64 → next s.progress line ≡ Some reached → Advances s t before after line reached → Moves s t before after (line ∷ [])
moves s t before after (lines.Header header) reached i settled form words room may a = header_moves s t before after header reached i may a
moves s t before after (lines.Shape cells) reached i settled form words room may a = shape_moves s t before after cells reached i settled form words room may a
moves s t before after (lines.End count) reached i settled form words room may a = end_moves s t before after count reached i settled words room may a
moves s t before after line reached i settled form words room may a = inside_moves s t before after line reached i tt form refl refl room may a

-- the bytes left go on showing what follows an entry
shown_kept : (s t : Scan) (line : Line) → words_of line ≡ s.line.items → t.appended ≡ s.appended → t.lines.items ≡ s.lines.items ++ line ∷ [] → t.line.items ≡ [] → IsShown s.appended (rest_of s) → IsShown t.appended (rest_of t)
shown_kept s t line words told held emptied shown =
    let more : text_of (s.lines.items ++ line ∷ []) ++ [] ≡ (text_of s.lines.items ++ s.line.items) ++ 10 ∷ [] =
    append-nil (text_of (s.lines.items ++ line ∷ [])) ∙ flat_map-append line_text s.lines.items (line ∷ []) ∙ ap (λ (x : List ℕ). text_of s.lines.items ++ x) (append-nil (line_text line))
    ∙ ap (λ (x : List ℕ). text_of s.lines.items ++ (x ++ 10 ∷ [])) words ∙ sym (append_assoc (text_of s.lines.items) s.line.items (10 ∷ [])) in
    rw (told, held, emptied) (λ some unended. subst (λ (x : List ℕ). begins_next x ≡ true) (sym more) (shows_more (text_of s.lines.items ++ s.line.items) (10 ∷ []) (shown some unended)))

none_yet : (s : Scan) (header : Header) (reached : Progress) → IsScan s → next s.progress (lines.Header header) ≡ Some reached → s.appended ≡ none_appended
none_yet s header reached i may =
    let f = header_first s.progress reached header may in
    let w = at_start (progress_of s.appended) s.lines.items (i.lead.reached ∙ ap (λ (q : Progress). Some q) f.0) in
    i.fresh (no_header_yet s.appended.header s.appended.entries s.appended.ended w.1)

shown_on : (s t : Scan) (before after : List Item) (line : Line) (reached : Progress) → IsScan s → words_of line ≡ s.line.items → next s.progress line ≡ Some reached → Advances s t before after line reached
    → IsShown s.appended (rest_of s) → IsShown t.appended (rest_of t)
shown_on s t before after (lines.Header header) reached i words may a shown = λ some unended.
    let none : s.appended.entries ≡ 0 = ap (λ (x : Appended). x.entries) (none_yet s header reached i may) in
    let same : t.appended.entries ≡ s.appended.entries = ap (λ (x : Appended). x.entries) a.appended in
    absurd (omega (arith, some, none, same))
shown_on s t before after (lines.End count) reached i words may a shown = λ some unended. absurd (false≢true (sym unended ∙ ap (λ (x : Appended). x.ended) a.appended))
shown_on s t before after line reached i words may a shown = shown_kept s t line words a.appended a.lines a.emptied shown

pub ends : (s t : Scan) (before after : List Item) (line : Line) (reached : Progress) → IsScan s → shows_whole s ≡ false → IsLine line → words_of line ≡ s.line.items
    → s.appended.lines + length s.lines.items + length s.line.items + 1 < 2 ^ 64 → next s.progress line ≡ Some reached → Advances s t before after line reached → Ends s t before after
ends s t before after line reached i settled form words room may a =
    let some : 0 < length s.line.items = subst (λ (x : List ℕ). 0 < length x) words (has_words line) in
    record {
      read = line;
      form = form;
      words = words;
      may_stand = may ∙ ap (λ (q : Progress). Some q) (sym a.progress);
      moves = moves s t before after line reached i settled form words (omega (arith, some, room)) may a;
      shown = shown_on s t before after line reached i words may a;
      emptied = a.emptied;
    }

-- a line that may not stand, by its words
pub may_not : (p : Progress) (line : Line) (words : List ℕ) → IsLine line → words_of line ≡ words → next p line ≡ None → MayNotStand p words
may_not p line words form e none other form_too f = subst (λ (x : Line). next p x ≡ None) (words_tell line other form form_too (e ∙ sym f)) none

pub faulty : (s t : Scan) (items : List Item) (r : Result (Unit {0}) (LineStop Part)) → IsFaultOf s r → MayNotStand s.progress s.line.items → EndsOrFaults s t items items r
faulty s t items (Ok u) f n = absurd f
faulty s t items (Err (stops.Fault line part)) f n = (record { may_not = n; number = f.0; part_is = f.1 }, refl)
faulty s t items (Err stops.NoMemory) f n = refl
