-- Where the lines of entries lead in the grammar of a catalogue.
use Rattle.std.proofs.Common.{◌≡◌, ℕ, ◌+◌, ◌<◌, ◌≤◌, ◌&&◌, ◌==◌, nat_lt, Bool, true, false, List, [], ◌∷◌, length, Option, Some, refl, sym, ap, subst, ◌∙◌, arith}
use Rattle.std.specs.Prelude.{option_and_then, option_map}
use Rattle.std.specs.List.{AllByRecursion, flat_map}
use Rattle.std.proofs.lemmas.Bool.{eq-eqb, lt-ltb}
use Rattle.heesch_cert.specs.declared.entry.Entry.{Entry}
use Rattle.heesch_text.specs.declared.line.Line.{Line}
use Rattle.heesch_text.specs.declared.line.Line.TheVariants as lines
use Rattle.heesch_text.specs.Catalogue.{entry_lines}
use Rattle.heesch_grammar.specs.declared.place.Place.{Place}
use Rattle.heesch_grammar.specs.declared.place.Place.TheVariants as places
use Rattle.heesch_grammar.specs.declared.spot.Spot.{Spot}
use Rattle.heesch_grammar.specs.Grammar.{next, step, steps, is_whole}
use Rattle.heesch_grammar.specs.Entries.{LeadOver, AreEntryLines}
use Rattle.heesch_grammar.proofs.Heading.{bind_some, IsInner, inner_place, shape_step, end_step}
use Rattle.heesch_grammar.proofs.Running.{steps_through}
use Rattle.heesch_grammar.proofs.Standing.{given_true}
use Rattle.heesch_reader.specs.Feeding.{IsInside}
use Rattle.heesch_reader.proofs.EntryLines.{body_lines, body_inside}
use Rattle.heesch_parts.specs.Shares.{IsEntry}

-- ---- one line

inside_inner : (line : Line) → IsInside line → IsInner line
inside_inner (lines.Header header) i = absurd i
inside_inner (lines.Shape cells) i = i
inside_inner (lines.End count) i = i
inside_inner line i = tt

-- a line inside an entry is judged by the place alone
inner_step : (s : Spot) (line : Line) (q : Place) → IsInner line → next false s.place line ≡ Some q → step false s line ≡ Some (record { shapes = s.shapes; place = q })
inner_step s (lines.Shape cells) q i e = absurd i
inner_step s (lines.End count) q i e = absurd i
inner_step s line q i e = ap (λ (o : Option Place). option_map (λ p. record { shapes = s.shapes; place = p }) o) e

step_rises : (s t : Spot) (line : Line) → step false s line ≡ Some t → s.shapes ≤ t.shapes
step_rises s t (lines.Shape cells) e = let g = (shape_step false s t cells e).1 in omega (arith, g)
step_rises s t (lines.End count) e = let g = (end_step false s t count e).1 in omega (arith, g)
step_rises s t line e = let g = (inner_place false s t line tt e).1 in omega (arith, g)

pub rises : (s t : Spot) (ls : List Line) → steps false s ls ≡ Some t → s.shapes ≤ t.shapes
rises s t [] e = let f : s ≡ t = cc in let g = ap (λ (x : Spot). x.shapes) f in omega (arith, g)
rises s t (line ∷ ls) e =
    let b = bind_some (step false s line) (λ u. steps false u ls) t e in
    omega (arith, step_rises s b.0 line b.1, rises b.0 t ls b.2)

-- ---- an entry

-- lines inside an entry lead to the same place behind any number of shapes
shifted : (m : ℕ) (s t : Spot) (ls : List Line) → AllByRecursion IsInside ls → steps false s ls ≡ Some t → steps false (record { shapes = m; place = s.place }) ls ≡ Some (record { shapes = m; place = t.place })
shifted m s t [] i e = let f : s ≡ t = cc in ap (λ (x : Spot). Some (record { shapes = m; place = x.place })) f
shifted m s t (line ∷ ls) i e =
    let b = bind_some (step false s line) (λ u. steps false u ls) t e in
    let inner = inside_inner line i.0 in
    let place = (inner_place false s b.0 line inner b.1).0 in
    let one = inner_step (record { shapes = m; place = s.place }) line b.0.place inner place in
    subst (λ (o : Option Spot). option_and_then (λ u. steps false u ls) o ≡ Some (record { shapes = m; place = t.place })) (sym one) (shifted m b.0 t ls i.1 b.2)

-- the lines of an entry lead over one shape wherever an entry may end
pub entry_over : (e : Entry) → AreEntryLines false (entry_lines e) → (s : Spot) → is_whole s.place ≡ true → s.shapes < 4294967295 → LeadOver false s (entry_lines e)
entry_over e a s whole few =
    let b = bind_some (step false a.before (lines.Shape e.cells)) (λ u. steps false u (body_lines e)) a.over.behind a.over.reached in
    let shape = shape_step false a.before b.0 e.cells b.1 in
    let body = shifted (s.shapes + 1) b.0 a.over.behind (body_lines e) (body_inside e) b.2 in
    let from : steps false (record { shapes = s.shapes + 1; place = places.Shape }) (body_lines e) ≡ Some (record { shapes = s.shapes + 1; place = a.over.behind.place }) =
    subst (λ (p : Place). steps false (record { shapes = s.shapes + 1; place = p }) (body_lines e) ≡ Some (record { shapes = s.shapes + 1; place = a.over.behind.place })) shape.2 body in
    let first : step false s (lines.Shape e.cells) ≡ Some (record { shapes = s.shapes + 1; place = places.Shape }) = given_true _ _ (ap (λ (x : Bool). x && nat_lt s.shapes 4294967295) whole ∙ lt-ltb s.shapes 4294967295 few) in
    record {
      behind = record { shapes = s.shapes + 1; place = a.over.behind.place };
      reached = subst (λ (o : Option Spot). option_and_then (λ u. steps false u (body_lines e)) o ≡ Some (record { shapes = s.shapes + 1; place = a.over.behind.place })) (sym first) from;
      whole = a.over.whole;
      one_more = refl;
    }

-- ---- entries

-- the lines lead over so many shapes to where an entry may end
pub record LeadOn (s : Spot) (count : ℕ) (ls : List Line) : Type 0 where
  pub behind : Spot
  pub reached : steps false s ls ≡ Some behind
  pub whole : is_whole behind.place ≡ true
  pub shapes : behind.shapes ≡ s.shapes + count

pub entries_on : (es : List Entry) → AllByRecursion IsEntry es → (s : Spot) → is_whole s.place ≡ true → s.shapes + length es ≤ 4294967295 → LeadOn s (length es) (flat_map entry_lines es)
entries_on [] each s whole few = record { behind = s; reached = refl; whole = whole; shapes = omega arith }
entries_on (e ∷ es) each s whole few =
    let o = entry_over e each.0.lines s whole (omega (arith, few)) in
    let r = entries_on es each.1 o.behind o.whole (omega (arith, few, o.one_more)) in
    record {
      behind = r.behind;
      reached = steps_through false s o.behind (entry_lines e) (flat_map entry_lines es) o.reached ∙ r.reached;
      whole = r.whole;
      shapes = omega (arith, r.shapes, o.one_more);
    }

pub end_stands : (s : Spot) (count : ℕ) → is_whole s.place ≡ true → count ≡ s.shapes → step false s (lines.End count) ≡ Some (record { shapes = s.shapes; place = places.Ended })
end_stands s count w e = given_true _ _ (ap (λ (x : Bool). x && count == s.shapes) w ∙ eq-eqb count s.shapes e)
