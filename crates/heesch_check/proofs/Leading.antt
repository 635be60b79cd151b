-- Where the lines of good entries lead, and which lines may not stand behind others.
use Rattle.std.proofs.Common.{◌≡◌, ℕ, zero, suc, ◌+◌, ◌<◌, ◌≤◌, ◌&&◌, ◌==◌, true, false, List, [], ◌∷◌, ◌++◌, length, Option, Some, None, refl, sym, ap, subst, ◌∙◌, arith}
use Rattle.std.specs.List.{flat_map}
use Rattle.std.specs.Prelude.{slice_get}
use Rattle.std.proofs.lemmas.Bool.{and_parts, eqb-true}
use Rattle.heesch_grid.specs.declared.Cell.{Cell}
use Rattle.heesch_grid.specs.Names.{geometry_of}
use Rattle.heesch_grid.proofs.Pinned.{one_free_list}
use Rattle.heesch_cert.specs.declared.entry.Entry.{Entry}
use Rattle.heesch_cert.specs.declared.header.Header.{Header}
use Rattle.heesch_cert.specs.declared.header.Subject.{Subject}
use Rattle.heesch_cert.specs.declared.header.Subject.TheVariants.{Size, Given}
use Rattle.heesch_text.specs.declared.line.Line.{Line}
use Rattle.heesch_text.specs.declared.line.Line.TheVariants as lines
use Rattle.heesch_text.specs.Catalogue.{entry_lines}
use Rattle.heesch_grammar.specs.declared.place.Place.{Place}
use Rattle.heesch_grammar.specs.declared.place.Place.TheVariants as places
use Rattle.heesch_grammar.specs.declared.spot.Spot.{Spot}
use Rattle.heesch_grammar.specs.Grammar.{next, step, steps, is_whole}
use Rattle.heesch_grammar.proofs.Heading.{bind_some, shape_step, end_step, inner_place}
use Rattle.heesch_grammar.proofs.Inside.{given_some}
use Rattle.heesch_grammar.proofs.Running.{steps_through, steps_split}
use Rattle.heesch_grammar.proofs.Truth.{may_stand}
use Rattle.heesch_check.specs.Catalogues.{IsInPlace}
use Rattle.heesch_check.specs.Judging.{HasShapes, AreGood}

-- ---- fewer than 2^32 - 1 entries stand before one that is in its place

-- an entry that is in its place has fewer than this many before it
pub record IsBounded (header : Header) : Type 0 where
  pub below : (before : ℕ) (cells : List Cell) → IsInPlace (geometry_of header.grid) header.subject before cells → before < 4294967295

-- an entry that is in its place with so many before it, or fewer, has fewer than this many before it
pub record IsBoundedTo (header : Header) (most : ℕ) : Type 0 where
  pub below : (before : ℕ) (cells : List Cell) → before ≤ most → IsInPlace (geometry_of header.grid) header.subject before cells → before < 4294967295

pub up_to : (header : Header) (most : ℕ) → IsBounded header → IsBoundedTo header most
up_to header most bound = record { below = λ before cells low place. bound.below before cells place }

-- so it is of the first entry, whatever the list
pub up_to_none : (header : Header) → IsBoundedTo header 0
up_to_none header = record { below = λ before cells low place. omega (arith, low) }

there : (xs : List (List Cell)) (i : ℕ) (x : List Cell) → slice_get xs i ≡ Some x → i < length xs
there [] i x e = absurd cc
there (y ∷ xs) zero x e = omega arith
there (y ∷ xs) (suc i) x e = let h = there xs i x e in omega arith

in_bounds : (header : Header) (subject : Subject) (shapes : Option (List (List Cell))) → HasShapes header subject shapes → (before : ℕ) (cells : List Cell) → IsInPlace (geometry_of header.grid) subject before cells → before < 4294967295
in_bounds header (Size n) (Some shapes) has before cells place =
    let same : place.0 ≡ shapes = one_free_list (geometry_of header.grid) n place.0 shapes place.1 has.0 in
    let low = there place.0 before cells place.2 in
    let few : length place.0 < 4294967296 = subst (λ (x : List (List Cell)). length x < 4294967296) (sym same) has.1 in
    omega (arith, low, few)
in_bounds header (Size n) None has before cells place = absurd has
in_bounds header Given None has before cells place = omega (arith, place)
in_bounds header Given (Some shapes) has before cells place = absurd has

pub bounded : (header : Header) (shapes : Option (List (List Cell))) → HasShapes header header.subject shapes → IsBounded header
bounded header shapes has = record { below = in_bounds header header.subject shapes has }

-- ---- good entries

-- the lines lead to where an entry may end, behind so many entries
pub record Arrives (s : Spot) (ls : List Line) (entries : ℕ) : Type 0 where
  pub spot : Spot
  pub reached : steps false s ls ≡ Some spot
  pub whole : is_whole spot.place ≡ true
  pub shapes : spot.shapes ≡ entries

pub over_entries : (header : Header) (before most : ℕ) (es : List Entry) (s : Spot) → IsBoundedTo header most → before + length es ≤ most + 1 → AreGood header before es → is_whole s.place ≡ true → s.shapes ≡ before → Arrives s (flat_map entry_lines es) (before + length es)
over_entries header before most [] s bound few good whole here = record { spot = s; reached = refl; whole = whole; shapes = omega (arith, here) }
over_entries header before most (e ∷ es) s bound few good whole here =
    let low = bound.below before e.cells (omega (arith, few)) good.0.in_place in
    let m = (may_stand (geometry_of header.grid) header.limits e good.0.is_true).full s whole (omega (arith, low, here)) in
    let more : m.behind.shapes ≡ before + 1 = omega (arith, m.one_more, here) in
    let r = over_entries header (before + 1) most es m.behind bound (omega (arith, few)) good.1 m.whole more in
    record {
      spot = r.spot;
      reached = steps_through false s m.behind (entry_lines e) (flat_map entry_lines es) m.reached ∙ r.reached;
      whole = r.whole;
      shapes = r.shapes ∙ omega arith;
    }

-- ---- lines that may not stand

none_ended : (s t : Spot) (line : Line) → s.place ≡ places.Ended → step false s line ≡ Some t → ⊥
none_ended s t (lines.Shape cells) p e = let g = ap is_whole (sym p) ∙ (shape_step false s t cells e).0 in absurd cc
none_ended s t (lines.End count) p e = let g = ap is_whole (sym p) ∙ (end_step false s t count e).0 in absurd cc
none_ended s t line p e = let g = ap (λ (x : Place). next false x line) (sym p) ∙ (inner_place false s t line tt e).0 in absurd cc

-- no line stands behind the end
pub ended_stops : (s t : Spot) (line : Line) (ls : List Line) → s.place ≡ places.Ended → steps false s (line ∷ ls) ≡ Some t → ⊥
ended_stops s t line ls p e = let b = bind_some (step false s line) (λ u. steps false u ls) t e in none_ended s b.0 line p b.1

no_header_at : (p q : Place) (header : Header) → next false p (lines.Header header) ≡ Some q → ⊥
no_header_at places.Between q header e = absurd cc
no_header_at places.Shape q header e = absurd cc
no_header_at places.Tiling q header e = absurd cc
no_header_at places.Lattice q header e = absurd cc
no_header_at places.Tile q header e = absurd cc
no_header_at (places.Search last) q header e = absurd cc
no_header_at (places.Layers more count last) q header e = absurd cc
no_header_at (places.Coronas count last) q header e = absurd cc
no_header_at (places.Proof refuted after) q header e = absurd cc
no_header_at (places.Wall level last) q header e = absurd cc
no_header_at places.MayOpen q header e = absurd cc
no_header_at places.OpenNone q header e = absurd cc
no_header_at (places.MustOpen count) q header e = absurd cc
no_header_at (places.Wider more) q header e = absurd cc
no_header_at places.Triples q header e = absurd cc
no_header_at places.Ended q header e = absurd cc

-- no header stands behind other lines
pub no_second_header : (s t : Spot) (front back : List Line) (header : Header) → steps false s (front ++ lines.Header header ∷ back) ≡ Some t → ⊥
no_second_header s t front back header e =
    let a = steps_split false s t front (lines.Header header ∷ back) e in
    let b = bind_some (step false a.0 (lines.Header header)) (λ u. steps false u back) t a.2 in
    no_header_at a.0.place b.0.place header (inner_place false a.0 b.0 (lines.Header header) tt b.1).0

end_number : (s t : Spot) (count : ℕ) → step false s (lines.End count) ≡ Some t → count ≡ s.shapes
end_number s t count e =
    let g = given_some (is_whole s.place && count == s.shapes) (record { shapes = s.shapes; place = places.Ended }) t e in
    eqb-true count s.shapes (and_parts (is_whole s.place) (count == s.shapes) g.0).1

-- an end has the number of the entries, and nothing stands behind it
pub end_counts : (s t : Spot) (count : ℕ) (ls : List Line) → steps false s (lines.End count ∷ ls) ≡ Some t → (count ≡ s.shapes) × (ls ≡ []) × (t.place ≡ places.Ended)
end_counts s t count [] e =
    let b = bind_some (step false s (lines.End count)) (λ u. steps false u []) t e in
    let same : b.0 ≡ t = cc in
    (end_number s b.0 count b.1, refl, ap (λ (x : Spot). x.place) (sym same) ∙ (end_step false s b.0 count b.1).2)
end_counts s t count (line ∷ ls) e =
    let b = bind_some (step false s (lines.End count)) (λ u. steps false u (line ∷ ls)) t e in
    absurd (ended_stops b.0 t line ls (end_step false s b.0 count b.1).2 b.2)
