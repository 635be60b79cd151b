-- The part at fault is the one that the format names.
use Rattle.std.proofs.Common.{◌≡◌, ◌≢◌, ◌⊎◌, inl, inr, ℕ, ◌+◌, ◌||◌, ◌==◌, not, if◌then◌else◌, Bool, true, false, List, [], ◌∷◌, ◌++◌, length, Option, Some, codes, refl, sym, ap, subst, ◌∙◌, append_assoc, arith}
use Rattle.std.specs.Prelude.{option_and_then}
use Rattle.std.specs.List.{AllByRecursion}
use Rattle.std.proofs.lemmas.Bool.{eqb-true, false≢true}
use Rattle.std.proofs.lemmas.List.{append-nil, nil_from_length}
use Rattle.heesch_grid.specs.declared.Cell.{Cell}
use Rattle.heesch_text.specs.declared.line.Line.{Line}
use Rattle.heesch_text.specs.declared.line.Line.TheVariants as lines
use Rattle.heesch_grammar.specs.declared.place.Place.{Place}
use Rattle.heesch_grammar.specs.declared.place.Place.TheVariants as places
use Rattle.heesch_grammar.specs.declared.spot.Spot.{Spot}
use Rattle.heesch_grammar.specs.Grammar.{next, step, steps, is_whole}
use Rattle.heesch_grammar.specs.Statements.{start, between_entries}
use Rattle.heesch_grammar.specs.Entries.{AreEntryLines, follow}
use Rattle.heesch_grammar.proofs.Heading.{bind_some, shape_step, end_step, inner_place, inside, IsInner}
use Rattle.heesch_grammar.proofs.Running.{steps_push, steps_between, are_entry_lines}
use Rattle.heesch_line.specs.Forms.{IsEnd, IsShape}
use Rattle.heesch_reader.specs.declared.item.Part.{Part}
use Rattle.heesch_reader.specs.declared.item.Part.TheVariants as parts
use Rattle.heesch_reader.specs.Faults.{begins, begins_next, part_behind, part_after}
use Rattle.heesch_reader.specs.Parts.{HaveNoEnd, EndWithEntry, NamesPart}
use Rattle.heesch_reader.proofs.Inner.{not_ended}
use Rattle.heesch_reader.proofs.Walking.{all_append}

-- ---- where lines stand

-- the lines end with those of an entry that began where one may
pub record InEntry (brief : Bool) (ls : List Line) (spot : Spot) : Type 0 where
  pub earlier : List Line
  pub cells : List Cell
  pub body : List Line
  pub split : ls ≡ earlier ++ lines.Shape cells ∷ body
  pub inner : AllByRecursion IsInner body
  pub before : Spot
  pub whole : is_whole before.place ≡ true
  pub reached : steps brief before (lines.Shape cells ∷ body) ≡ Some spot
  pub one_more : spot.shapes ≡ before.shapes + 1
  pub no_end : HaveNoEnd ls
  pub goes_on : spot.place ≢ places.Ended

-- the lines end with the last one of a catalogue
pub record AtEnd (ls : List Line) (spot : Spot) : Type 0 where
  pub ended : spot.place ≡ places.Ended
  pub has_end : HaveNoEnd ls → ⊥

abbrev Known : Bool → List Line → Spot → Type 0
Known brief ls spot = AtEnd ls spot ⊎ (((ls ≡ []) × (spot ≡ start)) ⊎ InEntry brief ls spot)

inner_no_end : (line : Line) → IsInner line → IsEnd line → ⊥
inner_no_end (lines.Shape cells) i e = i
inner_no_end (lines.End count) i e = i
inner_no_end line i e = e

end_in : (ls : List Line) (count : ℕ) → HaveNoEnd (ls ++ lines.End count ∷ []) → ⊥
end_in [] count h = h.0 tt
end_in (line ∷ ls) count h = end_in ls count h.1

-- before a line that may begin an entry there is no end
no_end_before : (brief : Bool) (ls : List Line) (s : Spot) → is_whole s.place ≡ true → Known brief ls s → HaveNoEnd ls
no_end_before brief ls s w k = elim k [
  | inl e ↦ let bad : is_whole places.Ended ≡ true = ap is_whole (sym e.ended) ∙ w in absurd cc
  | inr (inl none) ↦ rw none.0 tt
  | inr (inr n) ↦ n.no_end
]

inner_on : (brief : Bool) (ls : List Line) (s t : Spot) (line : Line) → IsInner line → step brief s line ≡ Some t → Known brief ls s → Known brief (ls ++ line ∷ []) t
inner_on brief ls s t line i e k =
    let p = inner_place brief s t line i e in
    elim k [
      | inl ended ↦ let bad : next brief places.Ended line ≡ Some t.place = ap (λ (x : Place). next brief x line) (sym ended.ended) ∙ p.0 in absurd cc
      | inr (inl none) ↦ let bad : next brief places.Between line ≡ Some t.place = ap (λ (x : Spot). next brief x.place line) (sym none.1) ∙ p.0 in absurd cc
      | inr (inr n) ↦ inr (inr (record {
        earlier = n.earlier;
        cells = n.cells;
        body = n.body ++ line ∷ [];
        split = ap (λ (x : List Line). x ++ line ∷ []) n.split ∙ append_assoc n.earlier (lines.Shape n.cells ∷ n.body) (line ∷ []);
        inner = all_append IsInner n.body (line ∷ []) n.inner (i, tt);
        before = n.before;
        whole = n.whole;
        reached = steps_push brief n.before s t (lines.Shape n.cells ∷ n.body) line n.reached e;
        one_more = p.1 ∙ n.one_more;
        no_end = all_append (λ (x : Line). IsEnd x → ⊥) ls (line ∷ []) n.no_end (inner_no_end line i, tt);
        goes_on = λ x. not_ended brief s.place line (p.0 ∙ ap (λ (q : Place). Some q) x);
      }))
    ]

push : (brief : Bool) (ls : List Line) (s t : Spot) (line : Line) → step brief s line ≡ Some t → Known brief ls s → Known brief (ls ++ line ∷ []) t
push brief ls s t (lines.Shape cells) e k =
    let f = shape_step brief s t cells e in
    inr (inr (record {
      earlier = ls;
      cells = cells;
      body = [];
      split = refl;
      inner = tt;
      before = s;
      whole = f.0;
      reached = ap (λ (o : Option Spot). option_and_then (λ x. Some x) o) e;
      one_more = f.1;
      no_end = all_append (λ (x : Line). IsEnd x → ⊥) ls (lines.Shape cells ∷ []) (no_end_before brief ls s f.0 k) (λ x. x, tt);
      goes_on = λ x. let bad : places.Shape ≡ places.Ended = sym f.2 ∙ x in absurd cc;
    }))
push brief ls s t (lines.End count) e k = inl (record { ended = (end_step brief s t count e).2; has_end = end_in ls count })
push brief ls s t line e k = inner_on brief ls s t line tt e k

known_on : (brief : Bool) (ls ms : List Line) (s t : Spot) → Known brief ls s → steps brief s ms ≡ Some t → Known brief (ls ++ ms) t
known_on brief ls [] s t k e =
    let f : s ≡ t = cc in
    subst (λ (x : Spot). Known brief (ls ++ []) x) f (subst (λ (x : List Line). Known brief x s) (sym (append-nil ls)) k)
known_on brief ls (line ∷ ms) s t k e =
    let b = bind_some (step brief s line) (λ u. steps brief u ms) t e in
    subst (λ (x : List Line). Known brief x t) (append_assoc ls (line ∷ []) ms) (known_on brief (ls ++ line ∷ []) ms b.0 t (push brief ls s b.0 line b.1 k) b.2)

-- ---- an entry is whole where it may end

follow_inner : (brief : Bool) (s t : Spot) (ls : List Line) → AllByRecursion IsInner ls → steps brief s ls ≡ Some t → follow brief s.place ls ≡ Some t.place
follow_inner brief s t [] i e = let f : s ≡ t = cc in ap (λ (x : Spot). Some x.place) f
follow_inner brief s t (line ∷ ls) i e =
    let b = bind_some (step brief s line) (λ u. steps brief u ls) t e in
    let p = inner_place brief s b.0 line i.0 b.1 in
    ap (λ (o : Option Place). option_and_then (λ q. follow brief q ls) o) p.0 ∙ follow_inner brief b.0 t ls i.1 b.2

whole_entry : (brief : Bool) (ls : List Line) (spot : Spot) → (n : InEntry brief ls spot) → is_whole spot.place ≡ true → AreEntryLines brief (lines.Shape n.cells ∷ n.body)
whole_entry brief ls spot n w =
    are_entry_lines brief (between_entries n.before) spot (lines.Shape n.cells ∷ n.body) refl (sym (steps_between brief n.before (lines.Shape n.cells) n.body n.whole tt) ∙ n.reached) w n.one_more

entry_whole : (brief : Bool) (ls : List Line) (spot : Spot) → (n : InEntry brief ls spot) → AreEntryLines brief (lines.Shape n.cells ∷ n.body) → is_whole spot.place ≡ true
entry_whole brief ls spot n a =
    let b = bind_some (step brief n.before (lines.Shape n.cells)) (λ u. steps brief u n.body) spot n.reached in
    let f = shape_step brief n.before b.0 n.cells b.1 in
    let here : follow brief places.Shape n.body ≡ Some spot.place = subst (λ (x : Place). follow brief x n.body ≡ Some spot.place) f.2 (follow_inner brief b.0 spot n.body n.inner b.2) in
    let c = bind_some (step brief a.before (lines.Shape n.cells)) (λ u. steps brief u n.body) a.over.behind a.over.reached in
    let g = shape_step brief a.before c.0 n.cells c.1 in
    let there : follow brief places.Shape n.body ≡ Some a.over.behind.place = subst (λ (x : Place). follow brief x n.body ≡ Some a.over.behind.place) g.2 (inside brief c.0 a.over.behind n.body (a.over.one_more ∙ sym g.1) a.over.whole c.2) in
    let both = sym there ∙ here in
    let same : a.over.behind.place ≡ spot.place = cc in
    ap is_whole (sym same) ∙ a.over.whole

-- ---- the last shape is one

no_shape_in : (front back : List Line) (cells : List Cell) → AllByRecursion (λ line. IsShape line → ⊥) (front ++ lines.Shape cells ∷ back) → ⊥
no_shape_in [] back cells h = h.0 tt
no_shape_in (line ∷ front) back cells h = no_shape_in front back cells h.1

inner_no_shape : (ls : List Line) → AllByRecursion IsInner ls → AllByRecursion (λ line. IsShape line → ⊥) ls
inner_no_shape [] h = tt
inner_no_shape (lines.Shape cells ∷ ls) h = absurd h.0
inner_no_shape (line ∷ ls) h = (λ s. s, inner_no_shape ls h.1)

one_last : (front other body rest : List Line) (cells more : List Cell) → AllByRecursion (λ line. IsShape line → ⊥) body → AllByRecursion (λ line. IsShape line → ⊥) rest
    → front ++ lines.Shape cells ∷ body ≡ other ++ lines.Shape more ∷ rest → lines.Shape cells ∷ body ≡ lines.Shape more ∷ rest
one_last [] [] body rest cells more h k e = e
one_last [] (x ∷ other) body rest cells more h k e = let t : body ≡ other ++ lines.Shape more ∷ rest = cc in absurd (no_shape_in other rest more (subst (λ (l : List Line). AllByRecursion (λ line. IsShape line → ⊥) l) t h))
one_last (x ∷ front) [] body rest cells more h k e = let t : front ++ lines.Shape cells ∷ body ≡ rest = cc in absurd (no_shape_in front body cells (subst (λ (l : List Line). AllByRecursion (λ line. IsShape line → ⊥) l) (sym t) k))
one_last (x ∷ front) (y ∷ other) body rest cells more h k e = let t : front ++ lines.Shape cells ∷ body ≡ other ++ lines.Shape more ∷ rest = cc in one_last front other body rest cells more h k t

-- ---- the part

part_open : (p : Place) (shapes : ℕ) (bytes : List ℕ) → p ≢ places.Ended → part_behind p shapes bytes ≡ (if begins bytes (codes "shape ") || not (is_whole p) then parts.Entry else part_after shapes bytes)
part_open places.Ended shapes bytes n = absurd (n refl)
part_open p shapes bytes n = refl

no_entry_in_none : (ls entry : List Line) → ls ≡ [] → EndWithEntry ls entry → ⊥
no_entry_in_none ls entry e w = none_is w.earlier w.cells w.body (sym e ∙ w.split ∙ ap (λ (x : List Line). w.earlier ++ x) w.entry_is)
  where
    none_is : (front : List Line) (cells : List Cell) (body : List Line) → [] ≡ front ++ lines.Shape cells ∷ body → ⊥
    none_is [] cells body e = absurd cc
    none_is (x ∷ front) cells body e = absurd cc

same_entry : (brief : Bool) (ls entry : List Line) (spot : Spot) → (n : InEntry brief ls spot) → (w : EndWithEntry ls entry) → lines.Shape n.cells ∷ n.body ≡ entry
same_entry brief ls entry spot n w =
    one_last n.earlier w.earlier n.body w.body n.cells w.cells (inner_no_shape n.body n.inner) w.last (sym n.split ∙ w.split ∙ ap (λ (x : List Line). w.earlier ++ x) w.entry_is) ∙ sym w.entry_is

the_entry : (brief : Bool) (ls : List Line) (spot : Spot) → (n : InEntry brief ls spot) → EndWithEntry ls (lines.Shape n.cells ∷ n.body)
the_entry brief ls spot n = record { earlier = n.earlier; cells = n.cells; body = n.body; split = n.split; entry_is = refl; last = inner_no_shape n.body n.inner }

-- an entry's line where the tests say so
entry_if : (a w : Bool) (p : Part) → (a ≡ true) ⊎ ((w ≡ false) ⊎ (p ≡ parts.Entry)) → (if a || not w then parts.Entry else p) ≡ parts.Entry
entry_if true w p h = refl
entry_if false false p h = refl
entry_if false true p (inl e) = absurd cc
entry_if false true p (inr (inl e)) = absurd cc
entry_if false true p (inr (inr e)) = e

end_if : (a w : Bool) (p : Part) → (a ≡ true → ⊥) → (w ≡ false → ⊥) → p ≡ parts.End → (if a || not w then parts.Entry else p) ≡ parts.End
end_if true w p f g e = absurd (f refl)
end_if false false p f g e = absurd (g refl)
end_if false true p f g e = e

whole_or_not : (b : Bool) → (b ≡ true) ⊎ (b ≡ false)
whole_or_not true = inl refl
whole_or_not false = inr refl

not_zero : (n : ℕ) → n ≢ 0 → (n == 0) ≡ false
not_zero n h = elim (whole_or_not (n == 0)) [
  | inl t ↦ absurd (h (eqb-true n 0 t))
  | inr f ↦ f
]

pick_entry : (x y z : Bool) → x ≡ false → y ≡ false → z ≡ false → (if (x || y) || z then parts.End else parts.Entry) ≡ parts.Entry
pick_entry x y z e f g = rw (e, f, g) refl

pick_end : (x y z : Bool) → (y ≡ false → z ≡ false → ⊥) → (if (x || y) || z then parts.End else parts.Entry) ≡ parts.End
pick_end true y z h = refl
pick_end false true z h = refl
pick_end false false true h = refl
pick_end false false false h = absurd (h refl refl)

neither_second : (s z : Bool) → (s || z) ≡ false → z ≡ false
neither_second true z e = absurd cc
neither_second false z e = e

neither_way : (s z : Bool) → s ≢ true → z ≡ false → (s || z) ≡ false
neither_way true z h e = absurd (h refl)
neither_way false z h e = e

after_entry : (shapes : ℕ) (bytes : List ℕ) → shapes ≢ 0 → bytes ≢ [] → begins_next bytes ≡ false → part_after shapes bytes ≡ parts.Entry
after_entry shapes bytes some b n =
    pick_entry (shapes == 0) (length bytes == 0) (begins bytes (codes "end ")) (not_zero shapes some) (not_zero (length bytes) (λ e. b (nil_from_length bytes e)))
    (neither_second (begins bytes (codes "shape ")) (begins bytes (codes "end ")) n)

some_byte : (bytes : List ℕ) → (length bytes == 0) ≡ false → bytes ≢ []
some_byte bytes f e = let z : (length bytes == 0) ≡ true = rw e refl in false≢true (sym f ∙ z)

after_end : (shapes : ℕ) (bytes : List ℕ) → (bytes ≢ [] → begins_next bytes ≡ false → ⊥) → begins bytes (codes "shape ") ≢ true → part_after shapes bytes ≡ parts.End
after_end shapes bytes n a =
    pick_end (shapes == 0) (length bytes == 0) (begins bytes (codes "end ")) (λ y z. n (some_byte bytes y) (neither_way (begins bytes (codes "shape ")) (begins bytes (codes "end ")) a z))

named_ended : (brief : Bool) (ls : List Line) (spot : Spot) (bytes : List ℕ) → AtEnd ls spot → NamesPart brief ls spot bytes
named_ended brief ls spot bytes e = record {
  entry = λ f. absurd (e.has_end f.no_end);
  end = λ f. ap (λ (p : Place). part_behind p spot.shapes bytes) e.ended;
}

named_none : (brief : Bool) (ls : List Line) (spot : Spot) (bytes : List ℕ) → ls ≡ [] → spot ≡ start → NamesPart brief ls spot bytes
named_none brief ls spot bytes none fresh =
    let there = ap (λ (s : Spot). part_behind s.place s.shapes bytes) fresh in
    let open_here : HaveNoEnd ls = rw none tt in
    record {
      entry = λ f. elim f.why [
        | inl a ↦ there ∙ entry_if (begins bytes (codes "shape ")) true (part_after 0 bytes) (inl a)
        | inr (inl b) ↦ absurd (no_entry_in_none ls b.entry none b.ends)
        | inr (inr c) ↦ absurd (no_entry_in_none ls c.entry none c.ends)
      ];
      end = λ g. there ∙ end_if (begins bytes (codes "shape ")) true (part_after 0 bytes) (λ a. g (record { no_end = open_here; why = inl a })) (λ w. absurd cc) refl;
    }

named_in : (brief : Bool) (ls : List Line) (spot : Spot) (bytes : List ℕ) → InEntry brief ls spot → NamesPart brief ls spot bytes
named_in brief ls spot bytes n =
    let there = part_open spot.place spot.shapes bytes n.goes_on in
    let some : spot.shapes ≢ 0 = λ e. absurd (omega (arith, n.one_more, e)) in
    record {
      entry = λ f. there ∙ entry_if (begins bytes (codes "shape ")) (is_whole spot.place) (part_after spot.shapes bytes) (elim f.why [
        | inl a ↦ inl a
        | inr (inl b) ↦ inr (inl (elim (whole_or_not (is_whole spot.place)) [
          | inl w ↦ absurd (b.no_entry (subst (λ (x : List Line). AreEntryLines brief x) (same_entry brief ls b.entry spot n b.ends) (whole_entry brief ls spot n w)))
          | inr g ↦ g
        ]))
        | inr (inr c) ↦ inr (inr (after_entry spot.shapes bytes some c.has_byte c.neither))
      ]);
      end = λ g. there ∙ end_if (begins bytes (codes "shape ")) (is_whole spot.place) (part_after spot.shapes bytes) (λ a. g (record { no_end = n.no_end; why = inl a }))
          (λ w. g (record { no_end = n.no_end; why = inr (inl (record { entry = lines.Shape n.cells ∷ n.body; ends = the_entry brief ls spot n; no_entry = λ x. false≢true (sym w ∙ entry_whole brief ls spot n x) })) }))
          (after_end spot.shapes bytes (λ b z. g (record { no_end = n.no_end; why = inr (inr (record { entry = lines.Shape n.cells ∷ n.body; ends = the_entry brief ls spot n; has_byte = b; neither = z })) })) (λ a. g (record { no_end = n.no_end; why = inl a })));
    }

pub names_part : (brief : Bool) (ls : List Line) (spot : Spot) (bytes : List ℕ) → steps brief start ls ≡ Some spot → NamesPart brief ls spot bytes
names_part brief ls spot bytes e = elim (known_on brief [] ls start spot (inr (inl (refl, refl))) e) [
  | inl ended ↦ named_ended brief ls spot bytes ended
  | inr (inl none) ↦ named_none brief ls spot bytes none.0 none.1
  | inr (inr n) ↦ named_in brief ls spot bytes n
]
