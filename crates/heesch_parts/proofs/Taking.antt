-- What one more line of a catalogue makes of the lines and items so far.
use Rattle.std.proofs.Common.{◌≡◌, ◌≢◌, inl, inr, ℕ, ◌+◌, Bool, true, false, List, [], ◌∷◌, ◌++◌, length, map, Option, Some, None, Ok, refl, sym, ap, subst, ◌∙◌, append_assoc, arith}
use Rattle.std.specs.Prelude.{option_map}
use Rattle.std.specs.List.{AllByRecursion, flat_map}
use Rattle.std.proofs.lemmas.List.{map-append, length-append}
use Rattle.heesch_cert.specs.declared.header.Header.{Header}
use Rattle.heesch_cert.specs.declared.entry.Entry.{Entry}
use Rattle.heesch_text.specs.declared.line.Line.{Line}
use Rattle.heesch_text.specs.declared.line.Line.TheVariants as lines
use Rattle.heesch_text.specs.Catalogue.{entry_lines}
use Rattle.heesch_line.specs.Forms.{IsLine}
use Rattle.heesch_grammar.specs.declared.place.Place.TheVariants as places
use Rattle.heesch_grammar.specs.declared.spot.Spot.{Spot}
use Rattle.heesch_grammar.specs.Grammar.{step, steps, is_whole}
use Rattle.heesch_grammar.specs.Entries.{AreEntryLines}
use Rattle.heesch_grammar.proofs.Heading.{IsInner, inner_place}
use Rattle.heesch_grammar.proofs.Running.{steps_push, are_entry_lines}
use Rattle.heesch_reader.specs.declared.item.Item.{Item}
use Rattle.heesch_reader.specs.declared.progress.Progress.{Progress}
use Rattle.heesch_reader.specs.declared.progress.Progress.TheVariants as stages
use Rattle.heesch_reader.specs.Progress.{next}
use Rattle.heesch_reader.proofs.Walking.{all_append}
use Rattle.heesch_parts.specs.declared.part_line.PartLine.{PartLine}
use Rattle.heesch_parts.specs.declared.part_line.PartLine.TheVariants as parts
use Rattle.heesch_parts.specs.declared.stage.Stage.{Stage}
use Rattle.heesch_parts.specs.Stages.{led, led_to, line_step}
use Rattle.heesch_parts.specs.Shares.{IsEntry, items_behind}
use Rattle.heesch_parts.specs.Joining.{AreBuilt, Gives, IsMade, shares_of, header_line, whole_lines, begun_lines, lines_before, IsBehind, IsHeaderOf}
use Rattle.heesch_parts.proofs.Growing.{items_append, mapped_long, whole_long}
use Rattle.heesch_parts.proofs.Building.{stage_of, counted_on}

-- ---- where a line stands

-- a line behind the header of a catalogue, as the grammar of a catalogue judges it
abbrev NoHeader : Line → Type 0
NoHeader (lines.Header header) = ⊥
NoHeader line = Unit {0}

pub record LineStands (p : Option Progress) (s : Stage) (line : Line) (r : Stage) : Type 0 where
  pub brief : Bool
  pub spot : Spot
  pub behind : Spot
  pub progress : p ≡ Some (stages.Behind brief spot)
  pub step : step brief spot line ≡ Some behind
  pub led : led s line (stages.Behind brief behind) ≡ Ok r

led_ok : (s : Stage) (line : Line) (o : Option Progress) (r : Stage) → Ok r ≡ led_to s line o → (t : Progress) × (o ≡ Some t) × (led s line t ≡ Ok r)
led_ok s line None r e = absurd cc
led_ok s line (Some t) r e = (t, refl, sym e)

behind_some : (brief : Bool) (o : Option Spot) (r : Progress) → option_map (λ t. stages.Behind brief t) o ≡ Some r → (u : Spot) × (o ≡ Some u) × (stages.Behind brief u ≡ r)
behind_some brief None r e = absurd cc
behind_some brief (Some u) r e = (u, refl, cc)

none_first : (line : Line) (r : Progress) → NoHeader line → next stages.Start line ≡ Some r → ⊥
none_first (lines.Header header) r h e = h
none_first line r h e = absurd cc

pub line_stands : (shares : Option ℕ) (share : ℕ) (header : Option Header) (entries : ℕ) (p : Option Progress) (line : Line) (r : Stage) → NoHeader line → Ok r ≡ line_step (stage_of shares share header entries p) line
    → LineStands p (stage_of shares share header entries p) line r
line_stands shares share header entries None line r h e = absurd cc
line_stands shares share header entries (Some stages.Start) line r h e =
    let t = led_ok (stage_of shares share header entries (Some stages.Start)) line (next stages.Start line) r e in
    absurd (none_first line t.0 h t.1)
line_stands shares share header entries (Some (stages.Behind brief spot)) line r h e =
    let s = stage_of shares share header entries (Some (stages.Behind brief spot)) in
    let t = led_ok s line (next (stages.Behind brief spot) line) r e in
    let u = behind_some brief (step brief spot line) t.0 t.1 in
    record { brief = brief; spot = spot; behind = u.0; progress = refl; step = u.1; led = ap (led s line) u.2 ∙ t.2 }

-- ---- the lines so far

-- one more line of the share at hand
pub push_line : (before : List PartLine) (first : PartLine) (title body held : List Line) (line : Line)
    → (before ++ first ∷ map parts.Catalogue (title ++ (body ++ held))) ++ parts.Catalogue line ∷ [] ≡ before ++ first ∷ map parts.Catalogue (title ++ (body ++ (held ++ line ∷ [])))
push_line before first title body held line =
    let inner : (title ++ (body ++ held)) ++ line ∷ [] ≡ title ++ (body ++ (held ++ line ∷ [])) = append_assoc title (body ++ held) (line ∷ []) ∙ ap (λ (x : List Line). title ++ x) (append_assoc body held (line ∷ [])) in
    append_assoc before (first ∷ map parts.Catalogue (title ++ (body ++ held))) (parts.Catalogue line ∷ [])
    ∙ ap (λ (x : List PartLine). before ++ first ∷ x) (sym (map-append parts.Catalogue (title ++ (body ++ held)) (line ∷ [])) ∙ ap (λ (x : List Line). map parts.Catalogue x) inner)

-- how many lines stand before the entry at hand
pub lines_so_far : (k share : ℕ) (header : Header) (whole : List (List Entry)) (spot : Spot) (brief : Bool) (entries : List Entry) (held : List Line) (ls : List PartLine) (before : ℕ)
    → ls ≡ whole_lines 1 k (Some header) whole ++ begun_lines (Some (stages.Behind brief spot)) share k (Some header) (flat_map entry_lines entries ++ held) → before + length held ≡ length ls
    → before ≡ lines_before whole + 2 + length (flat_map entry_lines entries)
lines_so_far k share header whole spot brief entries held ls before e b =
    let all = ap length e ∙ length-append (whole_lines 1 k (Some header) whole) (begun_lines (Some (stages.Behind brief spot)) share k (Some header) (flat_map entry_lines entries ++ held)) in
    let hand = mapped_long (lines.Header header ∷ (flat_map entry_lines entries ++ held)) in
    let both = length-append (flat_map entry_lines entries) held in
    omega (arith, all, hand, both, b, whole_long 1 k header whole)

-- ---- the entry at hand

pub empty_held : (n : ℕ) (spot : Spot) (held : List Line) → held ≡ [] → steps false (record { shapes = n; place = places.Between }) held ≡ Some spot → spot ≡ record { shapes = n; place = places.Between }
empty_held n spot held none e =
    let same : Some (record { shapes = n; place = places.Between }) ≡ Some spot = subst (λ (x : List Line). steps false (record { shapes = n; place = places.Between }) x ≡ Some spot) none e in
    cc

-- an entry is at hand that may end, so it is whole
pub whole_entry : (entries : List Entry) (held : List Line) (s : Stage) (spot : Spot) → IsBehind entries held s spot → is_whole spot.place ≡ true → held ≢ [] → AreEntryLines false held
whole_entry entries held s spot b whole some =
    elim b.shapes [
      | inl none ↦ absurd (some none)
      | inr one ↦ are_entry_lines false (record { shapes = length entries; place = places.Between }) spot held refl b.reached whole one
    ]

-- with the entry at hand, if there is one, as many entries as shapes
pub counts : (before : ℕ) (entries : List Entry) (held now : List Line) (s : Stage) (spot : Spot) (items after : List Item) → IsBehind entries held s spot → (g : Gives before held now items after) → spot.shapes ≡ length (entries ++ g.more)
counts before entries held now s spot items after b g =
    let all = length-append entries g.more in
    elim g.one [
      | inl none ↦
          let same = ap (λ (x : Spot). x.shapes) (empty_held (length entries) spot held none.0 b.reached) in
          let more = ap length none.1 in
          omega (arith, all, same, more)
      | inr one ↦ elim b.shapes [
        | inl none ↦ absurd (not_none g.more g.lines one none)
        | inr more ↦ omega (arith, all, more, one)
      ]
    ]
  where
    not_none : (more : List Entry) → flat_map entry_lines more ≡ held → length more ≡ 1 → held ≡ [] → ⊥
    not_none [] e one none = absurd (omega (arith, one))
    not_none (x ∷ more) e one none = let bad = e ∙ none in absurd cc

all_back : {X : Type 0} (P : X → Type 0) (xs ys : List X) → AllByRecursion P (xs ++ ys) → AllByRecursion P ys
all_back P [] ys h = h
all_back P (x ∷ xs) ys h = all_back P xs ys h.1

all_front : {X : Type 0} (P : X → Type 0) (xs ys : List X) → AllByRecursion P (xs ++ ys) → AllByRecursion P xs
all_front P [] ys h = tt
all_front P (x ∷ xs) ys h = (h.0, all_front P xs ys h.1)

pub made_entries : (more : List Entry) → AllByRecursion IsMade more → AllByRecursion IsLine (flat_map entry_lines more) → AllByRecursion IsEntry more
made_entries [] made forms = tt
made_entries (e ∷ more) made forms =
    (record { lines = made.0.0; forms = all_front IsLine (entry_lines e) (flat_map entry_lines more) forms; holds = made.0.1 }, made_entries more made.1 (all_back IsLine (entry_lines e) (flat_map entry_lines more) forms))

pub given_more : (before held_n : ℕ) (given title shared : List Item) (n : ℕ) (entries more : List Entry) → given ≡ title ++ (shared ++ items_behind n entries) → before ≡ n + length (flat_map entry_lines entries)
    → given ++ items_behind before more ≡ title ++ (shared ++ items_behind n (entries ++ more))
given_more before held_n given title shared n entries more e b =
    ap (λ (x : List Item). x ++ items_behind before more) e
    ∙ append_assoc title (shared ++ items_behind n entries) (items_behind before more)
    ∙ ap (λ (x : List Item). title ++ x) (append_assoc shared (items_behind n entries) (items_behind before more)
    ∙ ap (λ (x : List Item). shared ++ x) (ap (λ (x : ℕ). items_behind n entries ++ items_behind x more) b ∙ sym (items_append n entries more)))

-- behind a header it is known
pub header_on : (header : Option Header) (whole more : List (List Entry)) (brief : Bool) (spot : Spot) (q : Option Progress) → IsHeaderOf header whole (Some (stages.Behind brief spot)) → IsHeaderOf header more q
header_on None whole more brief spot q h = absurd h.1
header_on (Some header) whole more brief spot q h = h

-- ---- a line inside an entry

-- the line may not stand between two entries
abbrev pub NotBetween : Line → Type 0
NotBetween line = (n : ℕ) (t : Spot) → step false (record { shapes = n; place = places.Between }) line ≡ Some t → ⊥

pub built_inner : (shares : Option ℕ) (share : ℕ) (header : Option Header) (entries : ℕ) (brief : Bool) (spot t : Spot) (ls : List PartLine) (held : List Line) (given : List Item) (line : Line)
    → AreBuilt ls (stage_of shares share header entries (Some (stages.Behind brief spot))) held given → IsLine line → IsInner line → NotBetween line → step brief spot line ≡ Some t
    → AreBuilt (ls ++ parts.Catalogue line ∷ []) (stage_of shares share header entries (Some (stages.Behind brief t))) (held ++ line ∷ []) given
built_inner shares share header entries brief spot t ls held given line b form inner other e =
    let hand = b.at_hand in
    let full : step false spot line ≡ Some t = subst (λ (x : Bool). step x spot line ≡ Some t) hand.1 e in
    let place = inner_place false spot t line inner full in
    let k = shares_of shares in
    record {
      whole = b.whole;
      entries = b.entries;
      lines = ap (λ (x : List PartLine). x ++ parts.Catalogue line ∷ []) b.lines ∙ push_line (whole_lines 1 k header b.whole) (parts.Share share k) (header_line header) (flat_map entry_lines b.entries) held line;
      given_are = b.given_are;
      counted = counted_on shares share b.whole (Some (stages.Behind brief spot)) (Some (stages.Behind brief t)) (λ f. absurd cc) b.counted;
      header = header_on header b.whole b.whole brief spot (Some (stages.Behind brief t)) b.header;
      at_hand = (
        hand.0,
        hand.1,
        record { reached = steps_push false (record { shapes = length b.entries; place = places.Between }) spot t held line hand.2.reached full; shapes = inr (place.1 ∙ one hand.2) },
      );
      each = b.each;
      each_of_last = b.each_of_last;
      held_forms = all_append IsLine held (line ∷ []) b.held_forms (form, tt);
      all = omega (arith, b.all, place.1);
      most = b.most;
    }
  where
    one : IsBehind b.entries held (stage_of shares share header entries (Some (stages.Behind brief spot))) spot → spot.shapes ≡ length b.entries + 1
    one h = elim h.shapes [
      | inr more ↦ more
      | inl none ↦
          let same = empty_held (length b.entries) spot held none h.reached in
          absurd (other (length b.entries) t (subst (λ (x : Spot). step false x line ≡ Some t) same (subst (λ (x : Bool). step x spot line ≡ Some t) b.at_hand.1 e)))
    ]
