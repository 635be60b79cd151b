-- Where reading stops behind items that were judged, and an entry that is at fault there.
use Rattle.std.proofs.Common.{◌≡◌, ◌≢◌, ◌⊎◌, inl, inr, ℕ, ◌+◌, ◌||◌, ◌==◌, not, if◌then◌else◌, Bool, true, false, List, [], ◌∷◌, ◌++◌, length, Some, None, codes, refl, sym, ap, subst, ◌∙◌, append_assoc, arith}
use Rattle.std.specs.Prelude.{option_map}
use Rattle.std.specs.List.{AllByRecursion}
use Rattle.std.proofs.lemmas.Bool.{false≢true, or_cases, eq-eqb}
use Rattle.std.proofs.lemmas.List.{append-nil}
use Rattle.heesch_grid.specs.Names.{geometry_of}
use Rattle.heesch_cert.specs.declared.entry.Entry.{Entry}
use Rattle.heesch_cert.specs.declared.header.Header.{Header}
use Rattle.heesch_text.specs.declared.line.Line.{Line}
use Rattle.heesch_text.specs.declared.line.Line.TheVariants as lines
use Rattle.heesch_text.specs.Lines.{words_of, text_of}
use Rattle.heesch_text.specs.Catalogue.{entry_lines, entry_text}
use Rattle.heesch_line.specs.Forms.{IsLine, HasNoNewline}
use Rattle.heesch_line.proofs.Newlines.{no_newline}
use Rattle.heesch_grammar.specs.declared.place.Place.{Place}
use Rattle.heesch_grammar.specs.declared.place.Place.TheVariants as places
use Rattle.heesch_grammar.specs.declared.spot.Spot.{Spot}
use Rattle.heesch_grammar.specs.Grammar.{step, steps, is_whole}
use Rattle.heesch_grammar.proofs.Heading.{bind_some, shape_step, inner_place, IsInner}
use Rattle.heesch_grammar.proofs.Running.{steps_split}
use Rattle.heesch_grammar.proofs.Truth.{may_stand}
use Rattle.heesch_reader.specs.declared.item.Part.{Part}
use Rattle.heesch_reader.specs.declared.item.Part.TheVariants as parts
use Rattle.heesch_reader.specs.declared.progress.Progress.{Progress}
use Rattle.heesch_reader.specs.declared.progress.Progress.TheVariants as stages
use Rattle.heesch_reader.specs.Progress.{next, may_end}
use Rattle.heesch_reader.specs.Faults.{begins, begins_next, part_of, part_behind, part_after, FaultsAt}
use Rattle.heesch_reader.specs.Feeding.{BeginEntry, IsInside, IsPrompt, IsPromptAtEnd}
use Rattle.heesch_reader.proofs.Inner.{not_ended}
use Rattle.heesch_check.specs.Answers.{IsInvalidEntry}
use Rattle.heesch_check.specs.Catalogues.{block_of, behind_block, IsGoodEntry}
use Rattle.heesch_check.specs.Judging.{AreGood}
use Rattle.heesch_check.proofs.Blocks.{IsNext, block_split, block_next}
use Rattle.heesch_reader.proofs.FirstWords.{begins_shape_cut, begins_end_cut, begins_next_cut, inside_begins}
use Rattle.heesch_reader.proofs.SameLines.{line_front, along, one_first_line, no_first_line}
use Rattle.heesch_reader.proofs.EntryLines.{body_lines}
use Rattle.heesch_check.proofs.Leading.{IsBoundedTo}
use Rattle.heesch_check.proofs.Seen.{Stand, checked}

-- ---- where reading stops

-- behind the lines held no line stands; the part is that of these bytes, which begin as the tail does, and where an entry may end, the tail shows no next one
pub record StopsAt (held : List Line) (tail : List ℕ) (reached : Progress) (part : Part) : Type 0 where
  pub bytes : List ℕ
  pub part_is : part ≡ part_of reached bytes
  pub shape_alike : begins bytes (codes "shape ") ≡ begins tail (codes "shape ")
  pub end_alike : begins bytes (codes "end ") ≡ begins tail (codes "end ")
  pub none_alike : bytes ≡ [] → tail ≡ []
  pub none_too : tail ≡ [] → bytes ≡ []
  pub stops : (line : Line) (back : List ℕ) → IsLine line → tail ≡ words_of line ++ 10 ∷ back → next reached line ≡ None
  pub prompt : may_end reached ≡ true → IsNext tail → held ≡ []

some_bytes : (words more : List ℕ) → words ++ 10 ∷ more ≡ [] → ⊥
some_bytes [] more e = absurd cc
some_bytes (b ∷ words) more e = absurd cc

-- at a line that may not stand
pub refused : (held : List Line) (left unread : List ℕ) (reached : Progress) (part : Part) → (f : FaultsAt reached left part) → IsPrompt held f.words reached → StopsAt held (left ++ unread) reached part
refused held left unread reached part f prompt =
    let split : left ++ unread ≡ f.words ++ 10 ∷ (f.back ++ unread) = ap (λ (x : List ℕ). x ++ unread) f.split ∙ append_assoc f.words (10 ∷ f.back) unread in
    record {
      bytes = f.words ++ 10 ∷ [];
      part_is = f.part_is;
      shape_alike = begins_shape_cut f.words [] ∙ sym (ap (λ (x : List ℕ). begins x (codes "shape ")) split ∙ begins_shape_cut f.words (f.back ++ unread));
      end_alike = begins_end_cut f.words [] ∙ sym (ap (λ (x : List ℕ). begins x (codes "end ")) split ∙ begins_end_cut f.words (f.back ++ unread));
      none_alike = λ e. absurd (some_bytes f.words [] e);
      none_too = λ e. absurd (some_bytes f.words (f.back ++ unread) (sym split ∙ e));
      stops = λ line back form e.
          f.may_not line form (one_first_line (words_of line) f.words back (f.back ++ unread) (no_newline line form) f.one_line (sym e ∙ split)).0;
      prompt = λ whole next. elim next [
        | inl none ↦ absurd (some_bytes f.words (f.back ++ unread) (sym split ∙ none))
        | inr begun ↦ prompt whole (sym (ap begins_next split ∙ begins_next_cut f.words (f.back ++ unread)) ∙ begun)
      ];
    }

-- at the end of the bytes
pub fallen : (held : List Line) (left : List ℕ) (reached : Progress) (part : Part) → HasNoNewline left → IsPromptAtEnd held left reached → part ≡ part_of reached left → StopsAt held left reached part
fallen held left reached part one_line prompt is = record {
  bytes = left;
  part_is = is;
  shape_alike = refl;
  end_alike = refl;
  none_alike = λ e. e;
  none_too = λ e. e;
  stops = λ line back form e. absurd (no_first_line (words_of line) back left one_line e);
  prompt = λ whole next. elim next [
    | inl none ↦ prompt.1 whole none
    | inr begun ↦ prompt.0 whole begun
  ];
}

-- ---- the part

open_part : (place : Place) (shapes : ℕ) (bytes : List ℕ) → (place ≡ places.Ended)
    ⊎ (part_behind place shapes bytes ≡ (if begins bytes (codes "shape ") || not (is_whole place) then parts.Entry else part_after shapes bytes))
open_part places.Ended shapes bytes = inl refl
open_part place shapes bytes = inr refl

-- what the part of an entry says, by tests
pub record SaysEntry (shape whole none empty ends : Bool) : Type 0 where
  pub why : (shape ≡ true) ⊎ ((whole ≡ false) ⊎ ((none ≡ false) × (empty ≡ false) × (ends ≡ false)))

says_entry : (shape whole none empty ends : Bool) → (if shape || not whole then parts.Entry else (if (none || empty) || ends then parts.End else parts.Entry)) ≡ parts.Entry → SaysEntry shape whole none empty ends
says_entry true whole none empty ends e = record { why = inl refl }
says_entry false false none empty ends e = record { why = inr (inl refl) }
says_entry false true true empty ends e = absurd cc
says_entry false true false true ends e = absurd cc
says_entry false true false false true e = absurd cc
says_entry false true false false false e = record { why = inr (inr (refl, refl, refl)) }

-- what the part of the end says, by tests
pub record SaysEnd (shape whole none empty ends : Bool) : Type 0 where
  pub no_shape : shape ≡ false
  pub is_whole : whole ≡ true
  pub why : (none ≡ true) ⊎ ((empty ≡ true) ⊎ (ends ≡ true))

says_end : (shape whole none empty ends : Bool) → (if shape || not whole then parts.Entry else (if (none || empty) || ends then parts.End else parts.Entry)) ≡ parts.End → SaysEnd shape whole none empty ends
says_end true whole none empty ends e = absurd cc
says_end false false none empty ends e = absurd cc
says_end false true true empty ends e = record { no_shape = refl; is_whole = refl; why = inl refl }
says_end false true false true ends e = record { no_shape = refl; is_whole = refl; why = inr (inl refl) }
says_end false true false false true e = record { no_shape = refl; is_whole = refl; why = inr (inr refl) }
says_end false true false false false e = absurd cc

entry_part : (place : Place) (shapes : ℕ) (bytes : List ℕ) → part_behind place shapes bytes ≡ parts.Entry
    → SaysEntry (begins bytes (codes "shape ")) (is_whole place) (shapes == 0) (length bytes == 0) (begins bytes (codes "end "))
entry_part place shapes bytes e = elim (open_part place shapes bytes) [
  | inl ended ↦ let bad : parts.End ≡ parts.Entry = sym (ap (λ (x : Place). part_behind x shapes bytes) ended) ∙ e in absurd cc
  | inr is ↦ says_entry (begins bytes (codes "shape ")) (is_whole place) (shapes == 0) (length bytes == 0) (begins bytes (codes "end ")) (sym is ∙ e)
]

pub end_part : (place : Place) (shapes : ℕ) (bytes : List ℕ) → place ≢ places.Ended → part_behind place shapes bytes ≡ parts.End
    → SaysEnd (begins bytes (codes "shape ")) (is_whole place) (shapes == 0) (length bytes == 0) (begins bytes (codes "end "))
end_part place shapes bytes goes e = elim (open_part place shapes bytes) [
  | inl ended ↦ absurd (goes ended)
  | inr is ↦ says_end (begins bytes (codes "shape ")) (is_whole place) (shapes == 0) (length bytes == 0) (begins bytes (codes "end ")) (sym is ∙ e)
]

either_part : (t : Bool) (x : Part) → (x ≡ parts.Header → ⊥) → (if t then parts.Entry else x) ≡ parts.Header → ⊥
either_part true x h e = absurd cc
either_part false x h e = h e

after_part : (t : Bool) → (if t then parts.End else parts.Entry) ≡ parts.Header → ⊥
after_part true e = absurd cc
after_part false e = absurd cc

-- behind a header the part isn't that of a header
pub header_part : (place : Place) (shapes : ℕ) (bytes : List ℕ) → part_behind place shapes bytes ≡ parts.Header → ⊥
header_part place shapes bytes e = elim (open_part place shapes bytes) [
  | inl ended ↦ let bad : parts.End ≡ parts.Header = sym (ap (λ (x : Place). part_behind x shapes bytes) ended) ∙ e in absurd cc
  | inr is ↦ either_part (begins bytes (codes "shape ") || not (is_whole place)) (part_after shapes bytes) (after_part ((shapes == 0 || length bytes == 0) || begins bytes (codes "end "))) (sym is ∙ e)
]

-- ---- the lines held

is_inner : (line : Line) → IsInside line → IsInner line
is_inner (lines.Header header) i = tt
is_inner (lines.Shape cells) i = i
is_inner (lines.End count) i = i
is_inner line i = tt

held_on : (s t : Spot) (inner : List Line) → AllByRecursion IsInside inner → s.place ≢ places.Ended → steps false s inner ≡ Some t → (t.place ≢ places.Ended) × (t.shapes ≡ s.shapes)
held_on s t [] inside going e = let same : s ≡ t = cc in (λ x. going (ap (λ (y : Spot). y.place) same ∙ x), ap (λ (y : Spot). y.shapes) (sym same))
held_on s t (line ∷ inner) inside going e =
    let b = bind_some (step false s line) (λ u. steps false u inner) t e in
    let p = inner_place false s b.0 line (is_inner line inside.0) b.1 in
    let r = held_on b.0 t inner inside.1 (λ x. not_ended false s.place line (p.0 ∙ ap (λ (q : Place). Some q) x)) b.2 in
    (r.0, r.1 ∙ p.1)

-- lines of an entry at hand don't lead behind the end, and count as one more entry
pub held_one : (s t : Spot) (held : List Line) → BeginEntry held → held ≢ [] → steps false s held ≡ Some t → (t.place ≢ places.Ended) × (t.shapes ≡ s.shapes + 1)
held_one s t [] b some e = absurd (some refl)
held_one s t (lines.Shape cells ∷ held) b some e =
    let c = bind_some (step false s (lines.Shape cells)) (λ u. steps false u held) t e in
    let f = shape_step false s c.0 cells c.1 in
    let r = held_on c.0 t held b.1 (λ x. let bad : places.Shape ≡ places.Ended = sym f.2 ∙ x in absurd cc) c.2 in
    (r.0, r.1 ∙ f.1)
held_one s t (line ∷ held) b some e = absurd b.0

pub no_lines : (s t : Spot) (held : List Line) → held ≡ [] → steps false s held ≡ Some t → s ≡ t
no_lines s t [] n e = cc
no_lines s t (line ∷ held) n e = absurd cc

begins_held : (held : List Line) (tail : List ℕ) → BeginEntry held → (held ≡ [] → begins tail (codes "shape ") ≡ true) → begins (text_of held ++ tail) (codes "shape ") ≡ true
begins_held [] tail b h = h refl
begins_held (lines.Shape cells ∷ held) tail b h = refl
begins_held (line ∷ held) tail b h = absurd b.0

pub nothing_or : (held : List Line) → (held ≡ []) ⊎ (held ≢ [])
nothing_or [] = inl refl
nothing_or (line ∷ held) = inr (λ e. cc)

pub no_entries : (es : List Entry) → (es ≡ []) ⊎ (es ≢ [])
no_entries [] = inl refl
no_entries (e ∷ es) = inr (λ x. cc)

-- ---- an entry is at fault

-- the place behind judged items without an end, and the lines held
pub record Held (input : List ℕ) (header : Header) (es : List Entry) (held : List Line) (tail : List ℕ) (reached : Progress) : Type 0 where
  pub stand : Stand input header es held tail reached
  pub one_entry : BeginEntry held
  pub good : AreGood header 0 es
  pub shown : es ≢ [] → IsNext (text_of held ++ tail)

pub same_place : (s t u : Spot) (ls ms : List Line) → ls ≡ ms → steps false s ls ≡ Some t → steps false s ms ≡ Some u → t ≡ u
same_place s t u ls ms e f g = let both : Some t ≡ Some u = sym f ∙ ap (steps false s) e ∙ g in cc

inside_right : (xs ys : List Line) → AllByRecursion IsInside (xs ++ ys) → AllByRecursion IsInside ys
inside_right [] ys h = h
inside_right (x ∷ xs) ys h = inside_right xs ys h.1

-- no good entry has the block that begins with the lines held and the tail
pub no_good : (input : List ℕ) (header : Header) (es : List Entry) (held : List Line) (tail : List ℕ) (reached : Progress) (part : Part) → IsBoundedTo header (length es) → Held input header es held tail reached → StopsAt held tail reached part
    → (e : Entry) → IsGoodEntry header (length es) e → block_of (text_of held ++ tail) ≡ entry_text e → ⊥
no_good input header es held tail reached part bound h stop e good same =
    let rest = text_of held ++ tail in
    let behind = behind_block rest in
    let bytes : rest ≡ text_of (entry_lines e) ++ behind = block_split rest ∙ ap (λ (x : List ℕ). x ++ behind) same in
    let low = bound.below (length es) e.cells (omega arith) good.in_place in
    let shapes = h.stand.shapes in
    let m = (may_stand (geometry_of header.grid) header.limits e good.is_true).full h.stand.spot h.stand.whole (omega (arith, low, shapes)) in
    elim (along held (entry_lines e) tail behind h.stand.forms good.forms bytes) [
      | inl r ↦ short r.more m.behind m.whole m.reached r.lines r.bytes r.forms (block_next rest)
      | inr r ↦ long r.more m.behind m.whole m.reached r.lines r.bytes (block_next rest)
    ]
  where
    exact : (behind : Spot) → is_whole behind.place ≡ true → steps false h.stand.spot (entry_lines e) ≡ Some behind → held ≡ entry_lines e → IsNext tail → ⊥
    exact behind whole there is next =
        let at : h.stand.last ≡ behind = same_place h.stand.spot h.stand.last behind held (entry_lines e) is h.stand.goes_on there in
        let ends : may_end reached ≡ true = ap may_end (sym h.stand.reached_is) ∙ ap (λ (x : Spot). is_whole x.place) at ∙ whole in
        let none : entry_lines e ≡ [] = sym is ∙ stop.prompt ends next in
        absurd cc

    short : (more : List Line) (behind : Spot) → is_whole behind.place ≡ true → steps false h.stand.spot (entry_lines e) ≡ Some behind → entry_lines e ≡ held ++ more → tail ≡ text_of more ++ behind_block (text_of held ++ tail)
        → AllByRecursion IsLine more → IsNext (behind_block (text_of held ++ tail)) → ⊥
    short [] behind whole there is bytes forms after = exact behind whole there (sym (is ∙ append-nil held)) (subst IsNext (sym bytes) after)
    short (line ∷ more) behind whole there is bytes forms after =
        let a = steps_split false h.stand.spot behind held (line ∷ more) (subst (λ (x : List Line). steps false h.stand.spot x ≡ Some behind) is there) in
        let at : h.stand.last ≡ a.0 = same_place h.stand.spot h.stand.last a.0 held held refl h.stand.goes_on a.1 in
        let b = bind_some (step false a.0 line) (λ u. steps false u more) behind a.2 in
        let none : next reached line ≡ None = stop.stops line (text_of more ++ behind_block (text_of held ++ tail)) forms.0 (bytes ∙ line_front line more (behind_block (text_of held ++ tail))) in
        let here : option_map (λ t. stages.Behind false t) (step false a.0 line) ≡ None = ap (λ (x : Spot). next (stages.Behind false x) line) (sym at) ∙ ap (λ (x : Progress). next x line) h.stand.reached_is ∙ none in
        let some : option_map (λ t. stages.Behind false t) (step false a.0 line) ≡ Some (stages.Behind false b.0) = ap (option_map (λ t. stages.Behind false t)) b.1 in
        let bad : Some (stages.Behind false b.0) ≡ None = sym some ∙ here in
        absurd cc

    long : (more : List Line) (behind : Spot) → is_whole behind.place ≡ true → steps false h.stand.spot (entry_lines e) ≡ Some behind → held ≡ entry_lines e ++ more → behind_block (text_of held ++ tail) ≡ text_of more ++ tail
        → IsNext (behind_block (text_of held ++ tail)) → ⊥
    long [] behind whole there is bytes next = exact behind whole there (is ∙ append-nil (entry_lines e)) (subst IsNext bytes next)
    long (line ∷ more) behind whole there is bytes next =
        let begun : BeginEntry (entry_lines e ++ line ∷ more) = subst BeginEntry is h.one_entry in
        let inside = inside_right (body_lines e) (line ∷ more) begun.1 in
        let front : behind_block (text_of held ++ tail) ≡ words_of line ++ 10 ∷ (text_of more ++ tail) = bytes ∙ line_front line more tail in
        elim next [
          | inl none ↦ some_bytes (words_of line) (text_of more ++ tail) (sym front ∙ none)
          | inr begins ↦ false≢true (sym (ap begins_next front ∙ begins_next_cut (words_of line) (text_of more ++ tail) ∙ inside_begins line inside.0) ∙ begins)
        ]

-- where no line is held, an entry is begun by the tail
begun : (input : List ℕ) (header : Header) (es : List Entry) (held : List Line) (tail : List ℕ) (reached : Progress) → Held input header es held tail reached → StopsAt held tail reached parts.Entry
    → held ≡ [] → begins tail (codes "shape ") ≡ true
begun input header es held tail reached h stop none =
    let at : h.stand.spot ≡ h.stand.last = no_lines h.stand.spot h.stand.last held none h.stand.goes_on in
    let says = entry_part h.stand.last.place h.stand.last.shapes stop.bytes (ap (λ (x : Progress). part_of x stop.bytes) h.stand.reached_is ∙ sym stop.part_is) in
    elim says.why [
      | inl shape ↦ sym stop.shape_alike ∙ shape
      | inr (inl going) ↦ absurd (false≢true (sym going ∙ ap (λ (x : Spot). is_whole x.place) (sym at) ∙ h.stand.whole))
      | inr (inr k) ↦
          let some : es ≢ [] = λ e.
          let zero : h.stand.last.shapes ≡ 0 = ap (λ (x : Spot). x.shapes) (sym at) ∙ h.stand.shapes ∙ ap length e in
          false≢true (sym k.0 ∙ eq-eqb h.stand.last.shapes 0 zero) in
          let shown : IsNext tail = subst (λ (x : List Line). IsNext (text_of x ++ tail)) none (h.shown some) in
          elim shown [
            | inl nothing ↦ absurd (false≢true (sym k.1 ∙ eq-eqb (length stop.bytes) 0 (ap length (stop.none_too nothing))))
            | inr next ↦ elim (or_cases (begins tail (codes "shape ")) (begins tail (codes "end ")) next) [
              | inl shape ↦ shape
              | inr ends ↦ absurd (false≢true (sym k.2 ∙ stop.end_alike ∙ ends))
            ]
          ]
    ]

pub entry_invalid : (input : List ℕ) (header : Header) (es : List Entry) (held : List Line) (tail : List ℕ) (reached : Progress) → IsBoundedTo header (length es) → header.brief ≡ false → Held input header es held tail reached
    → StopsAt held tail reached parts.Entry → IsInvalidEntry input (length es + 1)
entry_invalid input header es held tail reached bound full h stop = record {
  header = header;
  es = es;
  rest = text_of held ++ tail;
  checked = checked input header es (text_of held ++ tail) h.stand.text h.stand.form full h.good h.shown;
  begins_entry = begins_held held tail h.one_entry (begun input header es held tail reached h stop);
  no_entry = no_good input header es held tail reached parts.Entry bound h stop;
  number_is = refl;
}
