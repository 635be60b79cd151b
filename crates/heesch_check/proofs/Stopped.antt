-- The answer of an input where reading stops behind items that were judged: an end at fault there, or no fault.
use Rattle.std.proofs.Common.{◌≡◌, ◌≢◌, inl, inr, ℕ, ◌+◌, ◌<◌, ◌≤◌, ◌^◌, ◌||◌, ◌&&◌, ◌==◌, Bool, true, false, List, [], ◌∷◌, ◌++◌, length, Some, None, codes, refl, sym, ap, subst, ◌∙◌, arith}
use Rattle.std.specs.Prelude.{option_map}
use Rattle.std.specs.Bool.{then_some}
use Rattle.std.specs.List.{AllByRecursion, flat_map}
use Rattle.std.proofs.lemmas.Bool.{false≢true, eqb-true, eq-eqb}
use Rattle.std.proofs.lemmas.List.{append-nil, nil_from_length}
use Rattle.heesch_cert.specs.declared.entry.Entry.{Entry}
use Rattle.heesch_cert.specs.declared.header.Header.{Header}
use Rattle.heesch_text.specs.declared.line.Line.{Line}
use Rattle.heesch_text.specs.declared.line.Line.TheVariants as lines
use Rattle.heesch_text.specs.Lines.{words_of, text_of}
use Rattle.heesch_text.specs.Catalogue.{header_text, entry_lines, end_text}
use Rattle.heesch_line.specs.Forms.{IsLine, HasNoNewline}
use Rattle.heesch_line.proofs.Newlines.{no_newline}
use Rattle.heesch_grammar.specs.declared.place.Place.{Place}
use Rattle.heesch_grammar.specs.declared.place.Place.TheVariants as places
use Rattle.heesch_grammar.specs.declared.spot.Spot.{Spot}
use Rattle.heesch_grammar.specs.Grammar.{steps, is_whole}
use Rattle.heesch_grammar.proofs.Running.{steps_between}
use Rattle.heesch_reader.specs.declared.item.Item.{Item}
use Rattle.heesch_reader.specs.declared.item.Item.TheVariants as items
use Rattle.heesch_reader.specs.declared.item.Part.TheVariants as parts
use Rattle.heesch_reader.specs.declared.progress.Progress.{Progress}
use Rattle.heesch_reader.specs.declared.progress.Progress.TheVariants as stages
use Rattle.heesch_reader.specs.declared.scan.Appended.{Appended}
use Rattle.heesch_reader.specs.Progress.{next, may_end}
use Rattle.heesch_reader.specs.Items.{lines_of, with_item, with_items, none_appended}
use Rattle.heesch_reader.specs.Faults.{begins, part_of, part_behind}
use Rattle.heesch_reader.specs.Feeding.{BeginEntry, IsPrompt}
use Rattle.heesch_check.specs.Answers.{IsValid, IsInvalidEntry, IsInvalidEnd, IsOpen, IsBegun}
use Rattle.heesch_check.specs.Catalogues.{AreAll}
use Rattle.heesch_check.specs.Judging.{AreGood, AreJudged}
use Rattle.heesch_check.proofs.Blocks.{IsNext}
use Rattle.heesch_reader.proofs.SameLines.{line_front, one_first_line}
use Rattle.heesch_check.proofs.Leading.{IsBoundedTo, end_counts}
use Rattle.heesch_check.proofs.Seen.{IsRead, Stand, placed, checked, counted, shown_behind}
use Rattle.heesch_check.proofs.Stopping.{StopsAt, end_part, header_part, held_one, no_lines, nothing_or, no_entries, Held, entry_invalid}

-- ---- the end is at fault

nothing_held : (input : List ℕ) (header : Header) (es : List Entry) (held : List Line) (tail : List ℕ) (reached : Progress) → Held input header es held tail reached → StopsAt held tail reached parts.End → held ≡ []
nothing_held input header es held tail reached h stop = elim (nothing_or held) [
  | inl none ↦ none
  | inr some ↦
      let one = held_one h.stand.spot h.stand.last held h.one_entry some h.stand.goes_on in
      let says = end_part h.stand.last.place h.stand.last.shapes stop.bytes one.0 (ap (λ (x : Progress). part_of x stop.bytes) h.stand.reached_is ∙ sym stop.part_is) in
      let ends : may_end reached ≡ true = ap may_end (sym h.stand.reached_is) ∙ says.is_whole in
      elim says.why [
        | inl zero ↦ let none : h.stand.last.shapes ≡ 0 = eqb-true h.stand.last.shapes 0 zero in let more = one.1 in absurd (omega (arith, none, more))
        | inr (inl empty) ↦ stop.prompt ends (inl (stop.none_alike (nil_from_length stop.bytes (eqb-true (length stop.bytes) 0 empty))))
        | inr (inr end) ↦ stop.prompt ends (inr (or_right (begins tail (codes "shape ")) (begins tail (codes "end ")) (sym stop.end_alike ∙ end)))
      ]
]
  where
    or_right : (a b : Bool) → b ≡ true → (a || b) ≡ true
    or_right true b e = refl
    or_right false b e = e

few : (header : Header) (before most : ℕ) (es : List Entry) → IsBoundedTo header most → before + length es ≤ most + 1 → AreGood header before es → es ≢ [] → before + length es ≤ 4294967295
few header before most [] bound within good some = absurd (some refl)
few header before most (e ∷ []) bound within good some = let low = bound.below before e.cells (omega (arith, within)) good.0.in_place in omega (arith, low)
few header before most (e ∷ second ∷ es) bound within good some = let h = few header (before + 1) most (second ∷ es) bound (omega (arith, within)) good.1 (λ x. cc) in omega (arith, h)

pub few_entries : (header : Header) (es : List Entry) → IsBoundedTo header (length es) → AreGood header 0 es → length es < 2 ^ 32
few_entries header es bound good = elim (no_entries es) [
  | inl none ↦ let zero : length es ≡ 0 = ap length none in omega (arith, zero)
  | inr some ↦ let h = few header 0 (length es) es bound (omega arith) good some in omega (arith, h)
]

pub end_stands : (s : Spot) (n : ℕ) → is_whole s.place ≡ true → s.shapes ≡ n → next (stages.Behind false s) (lines.End n) ≡ None → ⊥
end_stands s n whole shapes e =
    let test : (is_whole s.place && n == s.shapes) ≡ true = rw (whole, eq-eqb n s.shapes (sym shapes)) refl in
    let some : option_map (λ t. stages.Behind false t) (then_some (is_whole s.place && n == s.shapes) (record { shapes = s.shapes; place = places.Ended })) ≡ Some (stages.Behind false (record { shapes = s.shapes; place = places.Ended })) =
    ap (λ (b : Bool). option_map (λ t. stages.Behind false t) (then_some b (record { shapes = s.shapes; place = places.Ended }))) test in
    let bad : Some (stages.Behind false (record { shapes = s.shapes; place = places.Ended })) ≡ None = sym some ∙ e in
    absurd cc

end_invalid : (input : List ℕ) (header : Header) (es : List Entry) (held : List Line) (tail : List ℕ) (reached : Progress) → IsBoundedTo header (length es) → header.brief ≡ false → Held input header es held tail reached
    → StopsAt held tail reached parts.End → IsInvalidEnd input
end_invalid input header es held tail reached bound full h stop =
    let none = nothing_held input header es held tail reached h stop in
    let at : h.stand.spot ≡ h.stand.last = no_lines h.stand.spot h.stand.last held none h.stand.goes_on in
    let whole : is_whole h.stand.last.place ≡ true = ap (λ (x : Spot). is_whole x.place) (sym at) ∙ h.stand.whole in
    let going : h.stand.last.place ≢ places.Ended = λ e. false≢true (ap is_whole (sym e) ∙ whole) in
    let says = end_part h.stand.last.place h.stand.last.shapes stop.bytes going (ap (λ (x : Progress). part_of x stop.bytes) h.stand.reached_is ∙ sym stop.part_is) in
    let alone : text_of held ++ tail ≡ tail = ap (λ (x : List Line). text_of x ++ tail) none in
    record {
      header = header;
      es = es;
      rest = tail;
      checked = checked input header es tail (h.stand.text ∙ ap (λ (x : List ℕ). header_text header ++ (text_of (flat_map entry_lines es) ++ x)) alone) h.stand.form full h.good (λ some. subst IsNext alone (h.shown some));
      begins_none = sym stop.shape_alike ∙ says.no_shape;
      no_end = λ end.
          end_stands h.stand.last (length es) whole (ap (λ (x : Spot). x.shapes) (sym at) ∙ h.stand.shapes)
          (ap (λ (x : Progress). next x (lines.End (length es))) h.stand.reached_is ∙ stop.stops (lines.End (length es)) [] (few_entries header es bound h.good) end.text);
    }

-- ---- behind an end

-- the last line, and nothing held behind it
pub record Ended (input : List ℕ) (header : Header) (es : List Entry) (held : List Line) (tail : List ℕ) (reached : Progress) : Type 0 where
  pub text : input ≡ header_text header ++ (text_of (flat_map entry_lines es) ++ (text_of (lines.End (length es) ∷ []) ++ tail))
  pub form : IsLine (lines.Header header)
  pub end_form : IsLine (lines.End (length es))
  pub nothing : held ≡ []
  pub last : Spot
  pub place : last.place ≡ places.Ended
  pub reached_is : stages.Behind false last ≡ reached

pub ended_at : (input : List ℕ) (header : Header) (es : List Entry) (ends : List Item) (count : ℕ) (held : List Line) (tail : List ℕ) (reached : Progress) → ends ≡ items.End count ∷ []
    → Stand input header es (lines_of ends ++ held) tail reached → Ended input header es held tail reached
ended_at input header es ends count held tail reached is s =
    let goes : steps false s.spot (lines.End count ∷ held) ≡ Some s.last = subst (λ (x : List Item). steps false s.spot (lines_of x ++ held) ≡ Some s.last) is s.goes_on in
    let e = end_counts s.spot s.last count held goes in
    let number : count ≡ length es = e.0 ∙ s.shapes in
    let more : lines_of ends ++ held ≡ lines.End (length es) ∷ [] = ap (λ (x : List Item). lines_of x ++ held) is ∙ ap (λ (x : List Line). lines.End count ∷ x) e.1 ∙ ap (λ (x : ℕ). lines.End x ∷ []) number in
    let forms : AllByRecursion IsLine (lines.End (length es) ∷ []) = subst (AllByRecursion IsLine) more s.forms in
    record {
      text = s.text ∙ ap (λ (x : List Line). header_text header ++ (text_of (flat_map entry_lines es) ++ (text_of x ++ tail))) more;
      form = s.form;
      end_form = forms.0;
      nothing = e.1;
      last = s.last;
      place = e.2;
      reached_is = s.reached_is;
    }

ended_invalid : (input : List ℕ) (header : Header) (es : List Entry) (held : List Line) (tail : List ℕ) (reached : Progress) → header.brief ≡ false → AreGood header 0 es → Ended input header es held tail reached
    → tail ≢ [] → IsInvalidEnd input
ended_invalid input header es held tail reached full good e some = record {
  header = header;
  es = es;
  rest = text_of (lines.End (length es) ∷ []) ++ tail;
  checked = checked input header es (text_of (lines.End (length es) ∷ []) ++ tail) e.text e.form full good (λ x. inr refl);
  begins_none = refl;
  no_end = λ end.
      let n = no_newline (lines.End (length es)) e.end_form in
      some (one_first_line (words_of (lines.End (length es))) (words_of (lines.End (length es))) tail [] n n (sym (line_front (lines.End (length es)) [] tail) ∙ end.text)).1;
}

-- ---- the answers

all_read : (input : List ℕ) (all : List Item) (held : List Line) (tail : List ℕ) (reached : Progress) → IsRead input all held tail reached → IsRead input (all ++ []) held tail reached
all_read input all held tail reached read = subst (λ (x : List Item). IsRead input x held tail reached) (sym (append-nil all)) read

pub behind_all : (input : List ℕ) (header : Header) (all : List Item) (n : ℕ) (held : List Line) (tail : List ℕ) (reached : Progress) → IsBoundedTo header n → header.brief ≡ false
    → (j : AreJudged header all n) → IsRead input all held tail reached → Stand input header j.es (lines_of j.ends ++ held) tail reached
behind_all input header all n held tail reached bound full j read = placed input header all [] n held tail reached bound full j (all_read input all held tail reached read)

pub held_at : (input : List ℕ) (header : Header) (all : List Item) (n : ℕ) (held : List Line) (tail : List ℕ) (reached : Progress) → (j : AreJudged header all n) → j.ends ≡ [] → IsRead input all held tail reached
    → Stand input header j.es (lines_of j.ends ++ held) tail reached → Held input header j.es held tail reached
held_at input header all n held tail reached j none read s = record {
  stand = subst (λ (x : List Item). Stand input header j.es (lines_of x ++ held) tail reached) none s;
  one_entry = read.one_entry;
  good = j.good;
  shown = shown_behind input header all n held tail reached j none read;
}

-- an entry is at fault where reading stops
pub stops_in_entry : (input : List ℕ) (header : Header) (all : List Item) (n : ℕ) (held : List Line) (tail : List ℕ) (reached : Progress) → IsBoundedTo header n → header.brief ≡ false
    → AreJudged header all n → IsRead input all held tail reached → StopsAt held tail reached parts.Entry → IsInvalidEntry input (n + 1)
stops_in_entry input header all n held tail reached bound full j read stop =
    let s = behind_all input header all n held tail reached bound full j read in
    elim j.ends_all [
      | inl none ↦ subst (λ (x : ℕ). IsInvalidEntry input (x + 1)) (sym j.count) (entry_invalid input header j.es held tail reached (subst (IsBoundedTo header) j.count bound) full (held_at input header all n held tail reached j none read s) stop)
      | inr end ↦
          let e = ended_at input header j.es j.ends end.0 held tail reached end.1 s in
          let bad : parts.End ≡ parts.Entry = sym (ap (λ (x : Place). part_behind x e.last.shapes stop.bytes) e.place) ∙ ap (λ (x : Progress). part_of x stop.bytes) e.reached_is ∙ sym stop.part_is in
          absurd cc
    ]

-- the end is at fault where reading stops
pub stops_at_end : (input : List ℕ) (header : Header) (all : List Item) (n : ℕ) (held : List Line) (tail : List ℕ) (reached : Progress) → IsBoundedTo header n → header.brief ≡ false
    → AreJudged header all n → IsRead input all held tail reached → StopsAt held tail reached parts.End → ((with_items none_appended all).ended ≡ true → tail ≢ []) → IsInvalidEnd input
stops_at_end input header all n held tail reached bound full j read stop some =
    let s = behind_all input header all n held tail reached bound full j read in
    elim j.ends_all [
      | inl none ↦ end_invalid input header j.es held tail reached (subst (IsBoundedTo header) j.count bound) full (held_at input header all n held tail reached j none read s) stop
      | inr end ↦ ended_invalid input header j.es held tail reached full j.good (ended_at input header j.es j.ends end.0 held tail reached end.1 s) (some (is_ended header all n j end.0 end.1))
    ]
  where
    is_ended : (header : Header) (all : List Item) (n : ℕ) (j : AreJudged header all n) (count : ℕ) → j.ends ≡ items.End count ∷ [] → (with_items none_appended all).ended ≡ true
    is_ended header all n j count is =
        let c = counted (with_item none_appended (items.Header header)) j.body j.es (items.End count ∷ []) j.are refl in
        let whole : with_items none_appended all ≡ with_items c.behind (items.End count ∷ []) = ap (with_items none_appended) (j.split ∙ ap (λ (x : List Item). items.Header header ∷ (j.body ++ x)) is) ∙ c.with_is in
        ap (λ (x : Appended). x.ended) whole

-- the part isn't that of a header
pub stops_behind_header : (input : List ℕ) (header : Header) (all : List Item) (n : ℕ) (held : List Line) (tail : List ℕ) (reached : Progress) → IsBoundedTo header n → header.brief ≡ false
    → AreJudged header all n → IsRead input all held tail reached → StopsAt held tail reached parts.Header → ⊥
stops_behind_header input header all n held tail reached bound full j read stop =
    let s = behind_all input header all n held tail reached bound full j read in
    header_part s.last.place s.last.shapes stop.bytes (ap (λ (x : Progress). part_of x stop.bytes) s.reached_is ∙ sym stop.part_is)

-- a whole catalogue is valid
pub ends_valid : (input : List ℕ) (header : Header) (all : List Item) (n : ℕ) (reached : Progress) → IsBoundedTo header n → header.brief ≡ false
    → AreJudged header all n → IsRead input all [] [] reached → (with_items none_appended all).ended ≡ true → IsValid input n
ends_valid input header all n reached bound full j read ended =
    let s = behind_all input header all n [] [] reached bound full j read in
    elim j.ends_all [
      | inl none ↦
          let c = counted (with_item none_appended (items.Header header)) j.body j.es [] j.are refl in
          let whole : with_items none_appended all ≡ c.behind = ap (with_items none_appended) (j.split ∙ ap (λ (x : List Item). items.Header header ∷ (j.body ++ x)) none) ∙ c.with_is in
          absurd (false≢true (sym (ap (λ (x : Appended). x.ended) whole ∙ c.ended) ∙ ended))
      | inr end ↦
          let e = ended_at input header j.es j.ends end.0 [] [] reached end.1 s in
          let rest : text_of (lines.End (length j.es) ∷ []) ++ [] ≡ end_text (length j.es) = append-nil (text_of (lines.End (length j.es) ∷ [])) ∙ append-nil (end_text (length j.es)) in
          record {
            header = header;
            es = j.es;
            rest = end_text (length j.es);
            checked = checked input header j.es (end_text (length j.es)) (e.text ∙ ap (λ (x : List ℕ). header_text header ++ (text_of (flat_map entry_lines j.es) ++ x)) rest) e.form full j.good (λ x. inr refl);
            ends = record { text = refl; all = end.2 };
            count_is = j.count;
          }
    ]

-- what was read of an input that is too long
pub goes_on_open : (front : List ℕ) (header : Header) (all : List Item) (n : ℕ) (held : List Line) (left : List ℕ) (reached : Progress) → IsBoundedTo header n → header.brief ≡ false
    → AreJudged header all n → IsRead front all held left reached → HasNoNewline left → IsPrompt held left reached → (begins left (codes "end ") ≡ true → AreAll header header.subject n) → IsOpen front
goes_on_open front header all n held left reached bound full j read one_line prompt in_time =
    let s = behind_all front header all n held left reached bound full j read in
    elim j.ends_all [
      | inl none ↦
          let h = held_at front header all n held left reached j none read s in
          record {
            header = header;
            es = j.es;
            rest = text_of held ++ left;
            checked = checked front header j.es (text_of held ++ left) h.stand.text h.stand.form full j.good h.shown;
            goes_on = inl (begun_lines header h.stand.spot h.stand.last (length j.es) held left h.stand.forms read.one_entry h.stand.whole h.stand.shapes h.stand.goes_on one_line
                (subst (λ (x : Progress). IsPrompt held left x) (sym h.stand.reached_is) prompt) (λ ends. subst (AreAll header header.subject) j.count (in_time ends)));
          }
      | inr end ↦
          let e = ended_at front header j.es j.ends end.0 held left reached end.1 s in
          record {
            header = header;
            es = j.es;
            rest = text_of (lines.End (length j.es) ∷ []) ++ left;
            checked = checked front header j.es (text_of (lines.End (length j.es) ∷ []) ++ left) e.text e.form full j.good (λ x. inr refl);
            goes_on = inr (record { left = left; text = ap (λ (x : List ℕ). x ++ left) (append-nil (end_text (length j.es))); all = end.2; one_line = one_line });
          }
    ]
  where
    begun_lines : (header : Header) (s t : Spot) (n : ℕ) (held : List Line) (left : List ℕ) → AllByRecursion IsLine held → BeginEntry held → is_whole s.place ≡ true → s.shapes ≡ n → steps false s held ≡ Some t → HasNoNewline left → IsPrompt held left (stages.Behind false t)
        → (begins left (codes "end ") ≡ true → AreAll header header.subject n) → IsBegun header n (text_of held ++ left)
    begun_lines header s t n [] left forms begin whole shapes goes one_line prompt in_time = record { held = []; left = left; reached = record { shapes = n; place = places.Between }; text = refl; forms = tt; one_entry = tt; may_stand = refl; one_line = one_line; unfinished = λ w b. refl; in_time = in_time }
    begun_lines header s t n (lines.Shape cells ∷ held) left forms begin whole shapes goes one_line prompt in_time = record {
      held = lines.Shape cells ∷ held;
      left = left;
      reached = t;
      text = refl;
      forms = forms;
      one_entry = begin;
      may_stand = subst (λ (x : ℕ). steps false (record { shapes = x; place = places.Between }) (lines.Shape cells ∷ held) ≡ Some t) shapes (sym (steps_between false s (lines.Shape cells) held whole tt) ∙ goes);
      one_line = one_line;
      unfinished = prompt;
      in_time = in_time;
    }
    begun_lines header s t n (line ∷ held) left forms begin whole shapes goes one_line prompt in_time = absurd begin.0
