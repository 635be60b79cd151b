-- The machine over lines in pieces, and over the lines of a whole catalogue.
use Rattle.std.proofs.Common.{◌≡◌, ℕ, ◌+◌, ◌<◌, ◌≤◌, ◌&&◌, ◌==◌, nat_lt, Bool, true, false, List, [], ◌∷◌, ◌++◌, length, Option, Some, None, refl, sym, ap, ◌∙◌, arith}
use Rattle.std.specs.Prelude.{option_and_then}
use Rattle.std.specs.Bool.{then_some}
use Rattle.std.specs.List.{flat_map, All}
use Rattle.std.proofs.lemmas.Bool.{eq-eqb}
use Rattle.std.proofs.lemmas.List.Elements.{All-head, All-tail}
use Rattle.heesch_grid.specs.Geometry.{Geometry}
use Rattle.heesch_cert.specs.declared.limits.Limits.{Limits}
use Rattle.heesch_cert.specs.declared.entry.Entry.{Entry}
use Rattle.heesch_cert.specs.TrueEntry.{IsTrueEntry}
use Rattle.heesch_text.specs.declared.line.Line.{Line}
use Rattle.heesch_text.specs.declared.line.Line.TheVariants as lines
use Rattle.heesch_text.specs.Catalogue.{entry_lines, brief_lines}
use Rattle.heesch_grammar.specs.declared.place.Place.TheVariants as places
use Rattle.heesch_grammar.specs.declared.spot.Spot.{Spot}
use Rattle.heesch_grammar.specs.Grammar.{is_whole, step, steps}
use Rattle.heesch_grammar.specs.Entries.{LeadOver, AreEntryLines}
use Rattle.heesch_grammar.specs.Statements.{between_entries, catalogue_lines, start, MayStandTogether}
use Rattle.heesch_grammar.proofs.Heading.{bind_some}
use Rattle.heesch_grammar.proofs.Standing.{given_true}
use Rattle.heesch_grammar.proofs.Truth.{may_stand}

-- ---- pieces

pub steps_append : (brief : Bool) (s : Spot) (ls ms : List Line) → steps brief s (ls ++ ms) ≡ option_and_then (λ t. steps brief t ms) (steps brief s ls)
steps_append brief s [] ms = refl
steps_append brief s (line ∷ ls) ms = by_step (step brief s line) (λ t. steps_append brief t ls ms)
  where
    by_step : (o : Option Spot) → ((t : Spot) → steps brief t (ls ++ ms) ≡ option_and_then (λ u. steps brief u ms) (steps brief t ls))
        → option_and_then (λ t. steps brief t (ls ++ ms)) o ≡ option_and_then (λ u. steps brief u ms) (option_and_then (λ t. steps brief t ls) o)
    by_step None h = refl
    by_step (Some t) h = h t

-- lines that lead on from where earlier ones led
pub steps_through : (brief : Bool) (s t : Spot) (ls ms : List Line) → steps brief s ls ≡ Some t → steps brief s (ls ++ ms) ≡ steps brief t ms
steps_through brief s t ls ms e = steps_append brief s ls ms ∙ ap (λ (o : Option Spot). option_and_then (λ u. steps brief u ms) o) e

-- one more line
pub steps_push : (brief : Bool) (s t u : Spot) (ls : List Line) (line : Line) → steps brief s ls ≡ Some t → step brief t line ≡ Some u → steps brief s (ls ++ line ∷ []) ≡ Some u
steps_push brief s t u ls line e f = steps_through brief s t ls (line ∷ []) e ∙ ap (λ (o : Option Spot). option_and_then (λ x. Some x) o) f

-- where lines lead in two pieces
pub steps_split : (brief : Bool) (s u : Spot) (ls ms : List Line) → steps brief s (ls ++ ms) ≡ Some u → (t : Spot) × (steps brief s ls ≡ Some t) × (steps brief t ms ≡ Some u)
steps_split brief s u ls ms e = bind_some (steps brief s ls) (λ t. steps brief t ms) u (sym (steps_append brief s ls ms) ∙ e)

-- a `shape` line or the `end` line
abbrev pub IsOuter : Line → Type 0
IsOuter (lines.Shape cells) = Unit {0}
IsOuter (lines.End count) = Unit {0}
IsOuter line = ⊥

-- where an entry may end, such a line is judged as between two entries, and so are those behind it
pub step_between : (brief : Bool) (s : Spot) (line : Line) → is_whole s.place ≡ true → IsOuter line → step brief s line ≡ step brief (between_entries s) line
step_between brief s (lines.Shape cells) w o = ap (λ (b : Bool). then_some (b && nat_lt s.shapes 4294967295) (record { shapes = s.shapes + 1; place = places.Shape })) w
step_between brief s (lines.End count) w o = ap (λ (b : Bool). then_some (b && count == s.shapes) (record { shapes = s.shapes; place = places.Ended })) w
step_between brief s line w o = absurd o

pub steps_between : (brief : Bool) (s : Spot) (line : Line) (ls : List Line) → is_whole s.place ≡ true → IsOuter line → steps brief s (line ∷ ls) ≡ steps brief (between_entries s) (line ∷ ls)
steps_between brief s line ls w o = ap (λ (x : Option Spot). option_and_then (λ t. steps brief t ls) x) (step_between brief s line w o)

-- lines that lead from between two entries over one shape to where an entry may end are those of an entry
pub are_entry_lines : (brief : Bool) (s t : Spot) (ls : List Line) → s.place ≡ places.Between → steps brief s ls ≡ Some t → is_whole t.place ≡ true → t.shapes ≡ s.shapes + 1 → AreEntryLines brief ls
are_entry_lines brief s t ls b e w n = record { before = s; between = b; over = record { behind = t; reached = e; whole = w; one_more = n } }

-- ---- a catalogue

record LeadThrough (brief : Bool) (s : Spot) (count : ℕ) (ls : List Line) : Type 0 where
  behind : Spot
  reached : steps brief s ls ≡ Some behind
  whole : is_whole behind.place ≡ true
  more : behind.shapes ≡ s.shapes + count

through : (brief : Bool) (lines_of : Entry → List Line) (P : Entry → Type 0) (es : List Entry)
    → ((e : Entry) → P e → (p : Spot) → is_whole p.place ≡ true → p.shapes < 4294967295 → LeadOver brief p (lines_of e))
    → All P es → (s : Spot) → is_whole s.place ≡ true → s.shapes + length es ≤ 4294967295 → LeadThrough brief s (length es) (flat_map lines_of es)
through brief lines_of P [] each all s w h = record { behind = s; reached = refl; whole = w; more = omega arith }
through brief lines_of P (e ∷ es) each all s w h =
    let o = each e (All-head P e es all) s w (omega arith) in
    let n = o.one_more in
    let r = through brief lines_of P es each (All-tail P e es all) o.behind o.whole (omega arith) in
    let m = r.more in
    record { behind = r.behind; reached = steps_through brief s o.behind (lines_of e) (flat_map lines_of es) o.reached ∙ r.reached; whole = r.whole; more = omega arith }

ended : (brief : Bool) (s : Spot) (count : ℕ) → is_whole s.place ≡ true → count ≡ s.shapes → step brief s (lines.End count) ≡ Some (record { shapes = s.shapes; place = places.Ended })
ended brief s count w e = given_true _ _ (ap (λ (x : Bool). x && count == s.shapes) w ∙ eq-eqb count s.shapes e)

catalogue : (brief : Bool) (lines_of : Entry → List Line) (P : Entry → Type 0) (es : List Entry)
    → ((e : Entry) → P e → (p : Spot) → is_whole p.place ≡ true → p.shapes < 4294967295 → LeadOver brief p (lines_of e))
    → All P es → length es ≤ 4294967295 → steps brief start (catalogue_lines lines_of es) ≡ Some (record { shapes = length es; place = places.Ended })
catalogue brief lines_of P es each all h =
    let t = through brief lines_of P es each all start refl (omega arith) in
    let m = t.more in
    let n : length es ≡ t.behind.shapes = omega arith in
    steps_push brief start t.behind (record { shapes = t.behind.shapes; place = places.Ended }) (flat_map lines_of es) (lines.End (length es)) t.reached (ended brief t.behind (length es) t.whole n)
    ∙ ap (λ (x : ℕ). Some (record { shapes = x; place = places.Ended })) (sym n)

pub may_stand_together : (g : Geometry) (limits : Limits) (es : List Entry) → All (IsTrueEntry g limits) es → length es ≤ 4294967295 → MayStandTogether es
may_stand_together g limits es all h = record {
  full = catalogue false entry_lines (IsTrueEntry g limits) es (λ e t. (may_stand g limits e t).full) all h;
  brief = catalogue true brief_lines (IsTrueEntry g limits) es (λ e t. (may_stand g limits e t).brief) all h;
}
