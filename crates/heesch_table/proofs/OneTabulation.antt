-- An input has one tabulation.
use Rattle.std.proofs.Common.{◌≡◌, ◌≢◌, ◌⊎◌, inl, inr, ℕ, ◌+◌, ◌<◌, true, false, List, [], ◌∷◌, ◌++◌, length, Some, refl, sym, ap, subst, ◌∙◌, append_assoc, arith}
use Rattle.std.proofs.lemmas.List.{append-nil, length-append}
use Rattle.heesch_grid.specs.declared.Cell.{Cell}
use Rattle.heesch_grid.specs.declared.GridName.{GridName}
use Rattle.heesch_grid.specs.Names.{geometry_of}
use Rattle.heesch_text.specs.declared.line.Line.{Line}
use Rattle.heesch_text.specs.Lines.{words_of, text_of}
use Rattle.heesch_line.specs.Forms.{HasNoNewline}
use Rattle.heesch_line.proofs.Newlines.{no_newline}
use Rattle.heesch_shape.specs.declared.faults.ShapeFault.{ShapeFault}
use Rattle.heesch_shape.specs.Faults.{IsFault}
use Rattle.heesch_reader.specs.declared.item.Item.{Item}
use Rattle.heesch_reader.specs.declared.item.Part.{Part}
use Rattle.heesch_reader.specs.declared.progress.Progress.{Progress}
use Rattle.heesch_reader.specs.declared.progress.Progress.TheVariants as stages
use Rattle.heesch_reader.specs.Progress.{Lead}
use Rattle.heesch_reader.specs.Items.{lines_of, with_items, none_appended}
use Rattle.heesch_reader.specs.Faults.{begins_next}
use Rattle.heesch_reader.specs.Feeding.{Refuses, FallsShort}
use Rattle.heesch_reader.proofs.Finishing.{whole_is_not_short}
use Rattle.heesch_reader.proofs.FirstWords.{begins_next_cut}
use Rattle.heesch_reader.proofs.NoFault.{no_fault}
use Rattle.heesch_reader.proofs.SameLines.{along, one_first_line, no_first_line, front_on, same_front}
use Rattle.heesch_reader.proofs.Walking.{shows_more}
use Rattle.heesch_reader.specs.Input.{newlines, IsWholeCatalogue}
use Rattle.heesch_reader.specs.Taking.{HasTooMany}
use Rattle.heesch_table.specs.Entries.{entries_of, IsOfGrid, AreShapes}
use Rattle.heesch_table.specs.Tabulating.{IsTallied, AreWholeAt, HasShapeFault, HasTextFault, HasLengthFault, IsFaulty}
use Rattle.heesch_table.proofs.Cuts.{Cut, same_cut, before_cut}
use Rattle.heesch_table.proofs.Shapes.{Told, told, told_append, last_told, AreFaultless, shapes_told, faultless_at, same_grid, last_or_front}
use Rattle.heesch_table.proofs.CellFaults.{one_number}

-- ---- the cut of each answer

-- a line at fault
refused_cut : (front : List ℕ) (all : List Item) (line : ℕ) (part : Part) (more : List ℕ) → (r : Refuses none_appended [] all front line part) → Cut (front ++ more) (lines_of all ++ r.held) (r.left ++ more) r.reached
refused_cut front all line part more r =
    let split : r.left ++ more ≡ r.fault.words ++ 10 ∷ (r.fault.back ++ more) = ap (λ (x : List ℕ). x ++ more) r.fault.split ∙ append_assoc r.fault.words (10 ∷ r.fault.back) more in
    record {
      text = ap (λ (x : List ℕ). x ++ more) r.stands.text ∙ append_assoc (text_of (lines_of r.found ++ r.held)) r.left more ∙ ap (λ (x : List Item). text_of (lines_of x ++ r.held) ++ (r.left ++ more)) (sym r.after_is);
      lead = subst (λ (x : List Item). Lead stages.Start (lines_of x ++ r.held) r.reached) (sym r.after_is) r.stands.lead;
      stops = λ m back form e.
          r.fault.may_not m form (one_first_line (words_of m) r.fault.words back (r.fault.back ++ more) (no_newline m form) r.fault.one_line (sym e ∙ split)).0;
    }

-- bytes without a newline
open_cut : (bytes left : List ℕ) (ls : List Line) (reached : Progress) → bytes ≡ text_of ls ++ left → Lead stages.Start ls reached → HasNoNewline left → Cut bytes ls left reached
open_cut bytes left ls reached e lead one_line = record {
  text = e;
  lead = lead;
  stops = λ m back form f. absurd (no_first_line (words_of m) back left one_line f);
}

short_cut : (front : List ℕ) (all : List Item) (line : ℕ) (part : Part) → (f : FallsShort none_appended [] all front line part) → Cut front (lines_of all ++ f.held) f.left f.reached
short_cut front all line part f =
    open_cut front f.left (lines_of all ++ f.held) f.reached (f.stands.text ∙ ap (λ (x : List Item). text_of (lines_of x ++ f.held) ++ f.left) (sym f.after_is))
    (subst (λ (x : List Item). Lead stages.Start (lines_of x ++ f.held) f.reached) (sym f.after_is) f.stands.lead) f.one_line

pub whole_cut : (input : List ℕ) (all : List Item) → (c : IsWholeCatalogue input all) → Cut input (lines_of all ++ []) [] c.reached
whole_cut input all c =
    let alone = append-nil (lines_of all) in
    open_cut input [] (lines_of all ++ []) c.reached (c.text ∙ ap text_of (sym alone) ∙ sym (append-nil (text_of (lines_of all ++ []))))
    (subst (λ (x : List Line). Lead stages.Start x c.reached) (sym alone) c.lead) tt

-- ---- a faulty shape and shapes

-- the faulty entry is told behind shapes, and is told nowhere among shapes
not_among : (front : List Item) (item : Item) (line : ℕ) (cells : List Cell) (all : List Item) (over : List Line) (grid other : GridName) (fault : ShapeFault) → (reached : Progress) → Lead stages.Start (lines_of (front ++ item ∷ [])) reached
    → IsOfGrid grid (front ++ item ∷ []) → told 0 (lines_of (front ++ item ∷ [])) ≡ told 0 (lines_of front) ++ (line, cells) ∷ [] → IsFault (geometry_of grid) cells fault
    → IsOfGrid other all → AreShapes (geometry_of other) (entries_of all) → lines_of all ≡ lines_of (front ++ item ∷ []) ++ over → ⊥
not_among front item line cells all over grid other fault reached lead of_grid is fault_is of_other shapes e =
    let same = same_grid front item all over grid other of_grid of_other e in
    let parts : told 0 (lines_of all) ≡ told 0 (lines_of front) ++ (line, cells) ∷ told (0 + length (lines_of (front ++ item ∷ []))) over =
    ap (told 0) e ∙ told_append 0 (lines_of (front ++ item ∷ [])) over ∙ ap (λ (x : List Told). x ++ told (0 + length (lines_of (front ++ item ∷ []))) over) is
    ∙ append_assoc (told 0 (lines_of front)) ((line, cells) ∷ []) (told (0 + length (lines_of (front ++ item ∷ []))) over) in
    let all_told = subst (AreFaultless (geometry_of other)) parts (shapes_told (geometry_of other) 0 all shapes) in
    faultless_at (geometry_of other) (told 0 (lines_of front)) (told (0 + length (lines_of (front ++ item ∷ []))) over) (line, cells) all_told fault (subst (λ (x : GridName). IsFault (geometry_of x) cells fault) same fault_is)

-- a faulty shape that stands before a cut
record FaultBefore (all : List Item) : Type 0 where
  front : List Item
  item : Item
  line : ℕ
  cells : List Cell
  grid : GridName
  of_grid : IsOfGrid grid (front ++ item ∷ [])
  fault : ShapeFault
  is_fault : IsFault (geometry_of grid) cells fault
  reached : Progress
  lead : Lead stages.Start (lines_of (front ++ item ∷ [])) reached
  is : told 0 (lines_of (front ++ item ∷ [])) ≡ told 0 (lines_of front) ++ (line, cells) ∷ []
  over : List Line
  stands : lines_of all ≡ lines_of (front ++ item ∷ []) ++ over

fault_before : (all : List Item) (other : GridName) → IsOfGrid other all → AreShapes (geometry_of other) (entries_of all) → FaultBefore all → ⊥
fault_before all other of_other shapes f = not_among f.front f.item f.line f.cells all f.over f.grid other f.fault f.reached f.lead f.of_grid f.is f.is_fault of_other shapes f.stands

-- a shape's fault comes before the last item that is whole
shape_before : (input : List ℕ) (line number : ℕ) (all : List Item) → (s : HasShapeFault (Some input) line number) → (over : List Line) × (lines_of all ≡ lines_of (s.before ++ s.item ∷ []) ++ over) → FaultBefore all
shape_before input line number all s o = record {
  front = s.before;
  item = s.item;
  line = line;
  cells = s.cells;
  grid = s.grid;
  of_grid = s.of_grid;
  fault = s.fault;
  is_fault = s.is_fault;
  reached = s.whole.reached;
  lead = s.whole.lead;
  is = last_told s.before s.item line s.cells s.whole.numbered s.entry;
  over = o.0;
  stands = o.1;
}

-- what stands behind a whole entry
whole_text : (input : List ℕ) (found : List Item) → (w : AreWholeAt input found) → input ≡ text_of (lines_of found) ++ (w.next ++ w.behind)
whole_text input found w = w.split ∙ append_assoc (text_of (lines_of found)) w.next w.behind

whole_shown : (input : List ℕ) (found : List Item) → (w : AreWholeAt input found) → (begins_next (w.next ++ w.behind) ≡ true) ⊎ (w.next ++ w.behind ≡ [])
whole_shown input found w = elim w.shown [
  | inl begins ↦ inl (shows_more w.next w.behind begins)
  | inr none ↦ inr (ap (λ (x : List ℕ). x ++ w.behind) none.0 ∙ none.1)
]

-- ---- the whole input

shape_or_tally : (input text : List ℕ) (line number : ℕ) → HasShapeFault (Some input) line number → IsTallied (Some input) text → ⊥
shape_or_tally input text line number s t =
    let cut : Cut input (lines_of t.all ++ []) [] t.read.catalogue.reached = subst (λ (x : List ℕ). Cut x (lines_of t.all ++ []) [] t.read.catalogue.reached) t.read.all_of (whole_cut t.read.input t.all t.read.catalogue) in
    let w = subst (λ (x : List ℕ). AreWholeAt x (s.before ++ s.item ∷ [])) s.all_of s.whole in
    let o = before_cut input (lines_of (s.before ++ s.item ∷ [])) (lines_of t.all) [] (w.next ++ w.behind) [] w.reached t.read.catalogue.reached cut tt (λ may seen. refl) w.lead w.whole
    (whole_text input (s.before ++ s.item ∷ []) w) (whole_shown input (s.before ++ s.item ∷ []) w) in
    fault_before t.all t.grid t.of_grid t.shapes (shape_before input line number t.all s o)

shape_or_text : (input : List ℕ) (line number at other : ℕ) → HasShapeFault (Some input) line number → HasTextFault (Some input) at other → ⊥
shape_or_text input line number at other s t =
    let w = subst (λ (x : List ℕ). AreWholeAt x (s.before ++ s.item ∷ [])) s.all_of s.whole in
    let h = t.fault in
    let a = w.next ++ w.behind in
    let text = whole_text input (s.before ++ s.item ∷ []) w in
    let shown = whole_shown input (s.before ++ s.item ∷ []) w in
    let all : input ≡ h.front ++ h.behind = sym h.all_of ∙ h.split in
    elim h.fault [
      | inl r ↦
          let cut : Cut input (lines_of t.all ++ r.held) (r.left ++ h.behind) r.reached = subst (λ (x : List ℕ). Cut x (lines_of t.all ++ r.held) (r.left ++ h.behind) r.reached) (sym all) (refused_cut h.front t.all at t.part h.behind r) in
          let split : r.left ++ h.behind ≡ r.fault.words ++ 10 ∷ (r.fault.back ++ h.behind) = ap (λ (x : List ℕ). x ++ h.behind) r.fault.split ∙ append_assoc r.fault.words (10 ∷ r.fault.back) h.behind in
          fault_before t.all t.grid t.of_grid t.shapes (shape_before input line number t.all s
          (before_cut input (lines_of (s.before ++ s.item ∷ [])) (lines_of t.all) r.held a (r.left ++ h.behind) w.reached r.reached cut r.stands.one_entry
          (λ may seen. elim seen [
            | inl begins ↦ r.prompt may (sym (ap begins_next split ∙ begins_next_cut r.fault.words (r.fault.back ++ h.behind)) ∙ begins)
            | inr none ↦ absurd (some_left r.fault.words (r.fault.back ++ h.behind) (sym split ∙ none.0))
          ]) w.lead w.whole text shown))
      | inr f ↦
          let cut : Cut input (lines_of t.all ++ f.0.held) f.0.left f.0.reached = subst (λ (x : List ℕ). Cut x (lines_of t.all ++ f.0.held) f.0.left f.0.reached) (sym (all ∙ ap (λ (x : List ℕ). h.front ++ x) f.1 ∙ append-nil h.front)) (short_cut h.front t.all at t.part f.0) in
          fault_before t.all t.grid t.of_grid t.shapes (shape_before input line number t.all s
          (before_cut input (lines_of (s.before ++ s.item ∷ [])) (lines_of t.all) f.0.held a f.0.left w.reached f.0.reached cut f.0.stands.one_entry
          (λ may seen. elim seen [
            | inl begins ↦ f.0.prompt.0 may begins
            | inr none ↦ f.0.prompt.1 may none.0
          ]) w.lead w.whole text shown))
    ]
  where
    some_left : (words more : List ℕ) → words ++ 10 ∷ more ≡ [] → ⊥
    some_left [] more e = absurd cc
    some_left (b ∷ words) more e = absurd cc

shape_or_length : (input : List ℕ) (line number at other : ℕ) → HasShapeFault (Some input) line number → HasLengthFault (Some input) at other → ⊥
shape_or_length input line number at other s t =
    let w = subst (λ (x : List ℕ). AreWholeAt x (s.before ++ s.item ∷ [])) s.all_of s.whole in
    let h = t.too_many in
    let found = s.before ++ s.item ∷ [] in
    let shown_text = text_of (lines_of found) ++ w.next in
    let all : input ≡ h.front ++ h.byte ∷ h.behind = sym h.all_of ∙ h.split in
    let more = front_on h.front shown_text (h.byte ∷ h.behind) w.behind (sym all ∙ w.split) (omega (arith, w.few, h.most)) in
    let text : h.front ≡ text_of (lines_of found) ++ (w.next ++ more.0) = more.1 ∙ append_assoc (text_of (lines_of found)) w.next more.0 in
    let cut = open_cut h.front h.begins.left (lines_of t.all ++ h.begins.held) h.begins.reached h.begins.stands.text h.begins.stands.lead h.begins.one_line in
    let begun : begins_next (w.next ++ more.0) ≡ true = elim w.shown [
      | inl begins ↦ shows_more w.next more.0 begins
      | inr none ↦
          let short : length input ≡ length shown_text + 0 = ap length (w.split ∙ ap (λ (x : List ℕ). shown_text ++ x) none.1) ∙ length-append shown_text [] in
          let long : length input ≡ length h.front + (1 + length h.behind) = ap length all ∙ length-append h.front (h.byte ∷ h.behind) ∙ omega arith in
          absurd (omega (arith, short, long, w.few, h.most))
    ] in
    fault_before t.all t.grid t.of_grid t.shapes (shape_before input line number t.all s
    (before_cut h.front (lines_of found) (lines_of t.all) h.begins.held (w.next ++ more.0) h.begins.left w.reached h.begins.reached cut h.begins.stands.one_entry
    (λ may seen. elim seen [
      | inl begins ↦ h.begins.prompt may begins
      | inr none ↦ let bad : begins_next [] ≡ true = subst (λ (x : List ℕ). begins_next x ≡ true) none.1 begun in absurd cc
    ]) w.lead w.whole text (inl begun)))

-- ---- two faults of shapes

-- of two faulty entries, the lines of the one list reach as far as those of the other; both are the first, so they are one
further : (input : List ℕ) (line number at other : ℕ) → (s : HasShapeFault (Some input) line number) → (t : HasShapeFault (Some input) at other) → (more : List Line) → lines_of (t.before ++ t.item ∷ []) ≡ lines_of (s.before ++ s.item ∷ []) ++ more
    → (line ≡ at) × (number ≡ other)
further input line number at other s t more e =
    let first = last_told s.before s.item line s.cells s.whole.numbered s.entry in
    let second = last_told t.before t.item at t.cells t.whole.numbered t.entry in
    let n = 0 + length (lines_of (s.before ++ s.item ∷ [])) in
    let parts : told 0 (lines_of t.before) ++ (at, t.cells) ∷ [] ≡ (told 0 (lines_of s.before) ++ (line, s.cells) ∷ []) ++ told n more =
    sym second ∙ ap (told 0) e ∙ told_append 0 (lines_of (s.before ++ s.item ∷ [])) more ∙ ap (λ (x : List Told). x ++ told n more) first in
    let grids = same_grid s.before s.item (t.before ++ t.item ∷ []) more s.grid t.grid s.of_grid t.of_grid e in
    elim (last_or_front (told 0 (lines_of t.before)) (told 0 (lines_of s.before)) (told n more) (at, t.cells) (line, s.cells) parts) [
      | inl same ↦ (
        ap (λ (x : Told). x.0) (sym same),
        s.number_is ∙ one_number (geometry_of t.grid) t.cells s.fault t.fault
            (subst (λ (x : List Cell). IsFault (geometry_of t.grid) x s.fault) (ap (λ (x : Told). x.1) (sym same)) (subst (λ (x : GridName). IsFault (geometry_of x) s.cells s.fault) grids s.is_fault)) t.is_fault ∙ sym t.number_is,
      )
      | inr f ↦
          let all_told = subst (AreFaultless (geometry_of t.grid)) f.1 (shapes_told (geometry_of t.grid) 0 t.before t.shapes) in
          absurd (faultless_at (geometry_of t.grid) (told 0 (lines_of s.before)) f.0 (line, s.cells) all_told s.fault (subst (λ (x : GridName). IsFault (geometry_of x) s.cells s.fault) grids s.is_fault))
    ]

two_shapes : (input : List ℕ) (line number at other : ℕ) → HasShapeFault (Some input) line number → HasShapeFault (Some input) at other → (line ≡ at) × (number ≡ other)
two_shapes input line number at other s t =
    let w = subst (λ (x : List ℕ). AreWholeAt x (s.before ++ s.item ∷ [])) s.all_of s.whole in
    let v = subst (λ (x : List ℕ). AreWholeAt x (t.before ++ t.item ∷ [])) t.all_of t.whole in
    let e = sym (whole_text input (s.before ++ s.item ∷ []) w) ∙ whole_text input (t.before ++ t.item ∷ []) v in
    elim (along (lines_of (s.before ++ s.item ∷ [])) (lines_of (t.before ++ t.item ∷ [])) (w.next ++ w.behind) (v.next ++ v.behind) w.lead.forms v.lead.forms e) [
      | inl r ↦ further input line number at other s t r.more r.lines
      | inr r ↦
          let f = further input at other line number t s r.more r.lines in
          (sym f.0, sym f.1)
    ]

-- ---- faults of lines

-- the line of a fault comes behind those of the cut
record TextCut (input : List ℕ) (line : ℕ) : Type 0 where
  ls : List Line
  left : List ℕ
  reached : Progress
  cut : Cut input ls left reached
  line_is : line ≡ 0 + length ls + 1

text_cut : (input : List ℕ) (line number : ℕ) → HasTextFault (Some input) line number → TextCut input line
text_cut input line number t =
    let h = t.fault in
    let all : input ≡ h.front ++ h.behind = sym h.all_of ∙ h.split in
    elim h.fault [
      | inl r ↦ record {
        ls = lines_of t.all ++ r.held;
        left = r.left ++ h.behind;
        reached = r.reached;
        cut = subst (λ (x : List ℕ). Cut x (lines_of t.all ++ r.held) (r.left ++ h.behind) r.reached) (sym all) (refused_cut h.front t.all line t.part h.behind r);
        line_is = r.line_is ∙ ap (λ (x : List Item). 0 + length (lines_of x ++ r.held) + 1) (sym r.after_is);
      }
      | inr f ↦ record {
        ls = lines_of t.all ++ f.0.held;
        left = f.0.left;
        reached = f.0.reached;
        cut = subst (λ (x : List ℕ). Cut x (lines_of t.all ++ f.0.held) f.0.left f.0.reached) (sym (all ∙ ap (λ (x : List ℕ). h.front ++ x) f.1 ∙ append-nil h.front)) (short_cut h.front t.all line t.part f.0);
        line_is = f.0.line_is ∙ ap (λ (x : List Item). 0 + length (lines_of x ++ f.0.held) + 1) (sym f.0.after_is);
      }
    ]

two_texts : (input : List ℕ) (line number at other : ℕ) → HasTextFault (Some input) line number → HasTextFault (Some input) at other → (line ≡ at) × (number ≡ other)
two_texts input line number at other s t =
    let a = text_cut input line number s in
    let b = text_cut input at other t in
    let same = same_cut input a.ls b.ls a.left b.left a.reached b.reached a.cut b.cut in
    (a.line_is ∙ ap (λ (x : List Line). 0 + length x + 1) same.0 ∙ sym b.line_is, s.number_is ∙ sym t.number_is)

text_or_tally : (input text : List ℕ) (line number : ℕ) → HasTextFault (Some input) line number → IsTallied (Some input) text → ⊥
text_or_tally input text line number s t =
    let h = s.fault in
    let all : input ≡ h.front ++ h.behind = sym h.all_of ∙ h.split in
    let c = subst (λ (x : List ℕ). Cut x (lines_of t.all ++ []) [] t.read.catalogue.reached) t.read.all_of (whole_cut t.read.input t.all t.read.catalogue) in
    elim h.fault [
      | inl r ↦
          let cut : Cut input (lines_of s.all ++ r.held) (r.left ++ h.behind) r.reached = subst (λ (x : List ℕ). Cut x (lines_of s.all ++ r.held) (r.left ++ h.behind) r.reached) (sym all) (refused_cut h.front s.all line s.part h.behind r) in
          let same = same_cut input (lines_of t.all ++ []) (lines_of s.all ++ r.held) [] (r.left ++ h.behind) t.read.catalogue.reached r.reached c cut in
          no_first_line r.fault.words (r.fault.back ++ h.behind) [] tt (same.1 ∙ ap (λ (x : List ℕ). x ++ h.behind) r.fault.split ∙ append_assoc r.fault.words (10 ∷ r.fault.back) h.behind)
      | inr f ↦
          let cut : Cut input (lines_of s.all ++ f.0.held) f.0.left f.0.reached = subst (λ (x : List ℕ). Cut x (lines_of s.all ++ f.0.held) f.0.left f.0.reached) (sym (all ∙ ap (λ (x : List ℕ). h.front ++ x) f.1 ∙ append-nil h.front)) (short_cut h.front s.all line s.part f.0) in
          whole_is_not_short none_appended t.all s.all f.0.held f.0.left c.lead.forms cut.lead.forms f.0.stands.one_entry f.0.one_line (sym c.text ∙ cut.text) t.read.catalogue.ended
          (subst (λ (x : List Item). (f.0.left ≢ []) ⊎ ((with_items none_appended x).ended ≡ false)) (sym f.0.after_is) f.0.short)
    ]

-- ---- the length

long_input : (input : List ℕ) (all : List Item) (line : ℕ) → HasTooMany (Some input) all line → 1099511627776 < length input
long_input input all line h =
    let long : length input ≡ length h.front + (1 + length h.behind) = ap length (sym h.all_of ∙ h.split) ∙ length-append h.front (h.byte ∷ h.behind) ∙ omega arith in
    omega (arith, long, h.most)

length_or_tally : (input text : List ℕ) (line number : ℕ) → HasLengthFault (Some input) line number → IsTallied (Some input) text → ⊥
length_or_tally input text line number s t =
    let long = long_input input s.all line s.too_many in
    let few = t.read.few in
    let same = ap length t.read.all_of in
    omega (arith, long, few, same)

two_lengths : (input : List ℕ) (line number at other : ℕ) → HasLengthFault (Some input) line number → HasLengthFault (Some input) at other → (line ≡ at) × (number ≡ other)
two_lengths input line number at other s t =
    let a = s.too_many in
    let b = t.too_many in
    let same = same_front a.front b.front (a.byte ∷ a.behind) (b.byte ∷ b.behind) (sym a.split ∙ a.all_of ∙ sym b.all_of ∙ b.split) (a.most ∙ sym b.most) in
    (a.line_is ∙ ap (λ (x : List ℕ). newlines x + 1) same ∙ sym b.line_is, s.number_is ∙ sym t.number_is)

text_or_length : (input : List ℕ) (line number at other : ℕ) → HasTextFault (Some input) line number → HasLengthFault (Some input) at other → ⊥
text_or_length input line number at other s t =
    let h = s.fault in
    let l = t.too_many in
    let all : l.front ++ l.byte ∷ l.behind ≡ h.front ++ h.behind = sym l.split ∙ l.all_of ∙ sym h.all_of ∙ h.split in
    let more = front_on l.front h.front (l.byte ∷ l.behind) h.behind all (omega (arith, h.few, l.most)) in
    elim h.fault [
      | inl r ↦
          let cut = refused_cut h.front s.all line s.part more.0 r in
          let split : r.left ++ more.0 ≡ r.fault.words ++ 10 ∷ (r.fault.back ++ more.0) = ap (λ (x : List ℕ). x ++ more.0) r.fault.split ∙ append_assoc r.fault.words (10 ∷ r.fault.back) more.0 in
          no_fault stages.Start l.begins.reached r.reached (lines_of t.all ++ l.begins.held) (lines_of s.all ++ r.held) l.begins.left (r.left ++ more.0) s.part l.begins.stands.lead l.begins.one_line cut.lead
          (record { words = r.fault.words; back = r.fault.back ++ more.0; split = split; one_line = r.fault.one_line; may_not = r.fault.may_not; part_is = r.fault.part_is })
          (sym l.begins.stands.text ∙ more.1 ∙ cut.text)
      | inr f ↦
          let long = long_input input t.all at l in
          let short : length input ≡ length h.front + 0 = ap length (sym h.all_of ∙ h.split ∙ ap (λ (x : List ℕ). h.front ++ x) f.1) ∙ length-append h.front [] in
          let few = h.few in
          omega (arith, long, short, few)
    ]

-- ---- the tabulation

pub apart : (input text : List ℕ) (line number : ℕ) → IsTallied (Some input) text → IsFaulty (Some input) line number → ⊥
apart input text line number t (inl s) = shape_or_tally input text line number s t
apart input text line number t (inr (inl s)) = text_or_tally input text line number s t
apart input text line number t (inr (inr s)) = length_or_tally input text line number s t

pub one_fault : (input : List ℕ) (line number at other : ℕ) → IsFaulty (Some input) line number → IsFaulty (Some input) at other → (line ≡ at) × (number ≡ other)
one_fault input line number at other (inl s) (inl t) = two_shapes input line number at other s t
one_fault input line number at other (inl s) (inr (inl t)) = absurd (shape_or_text input line number at other s t)
one_fault input line number at other (inl s) (inr (inr t)) = absurd (shape_or_length input line number at other s t)
one_fault input line number at other (inr (inl s)) (inl t) = absurd (shape_or_text input at other line number t s)
one_fault input line number at other (inr (inl s)) (inr (inl t)) = two_texts input line number at other s t
one_fault input line number at other (inr (inl s)) (inr (inr t)) = absurd (text_or_length input line number at other s t)
one_fault input line number at other (inr (inr s)) (inl t) = absurd (shape_or_length input at other line number t s)
one_fault input line number at other (inr (inr s)) (inr (inl t)) = absurd (text_or_length input at other line number t s)
one_fault input line number at other (inr (inr s)) (inr (inr t)) = two_lengths input line number at other s t
