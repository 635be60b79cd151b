-- What holds of items whose lines may stand.
use Rattle.std.proofs.Common.{◌≡◌, ℕ, suc, ◌+◌, ◌<◌, ◌≤◌, ◌^◌, ◌&&◌, nat_lt, Bool, true, false, List, [], ◌∷◌, ◌++◌, length, Some, refl, ap, subst, arith}
use Rattle.std.specs.List.{AllByRecursion, AllZip}
use Rattle.std.proofs.lemmas.Bool.{ltb-true}
use Rattle.std.proofs.lemmas.List.Concat.{flat_map-append}
use Rattle.heesch_grid.specs.declared.Cell.{Cell}
use Rattle.heesch_cert.specs.declared.verdict.Verdict.{Verdict}
use Rattle.heesch_text.specs.declared.line.Line.{Line}
use Rattle.heesch_text.specs.declared.line.Line.TheVariants as lines
use Rattle.heesch_text.specs.Catalogue.{entry_lines}
use Rattle.heesch_line.specs.Forms.{IsLine}
use Rattle.heesch_grammar.specs.declared.place.Place.TheVariants as places
use Rattle.heesch_grammar.specs.declared.spot.Spot.{Spot}
use Rattle.heesch_grammar.specs.Grammar.{is_whole, step, steps}
use Rattle.heesch_grammar.specs.Statements.{start}
use Rattle.heesch_grammar.proofs.Heading.{bind_some, inner_place, end_step}
use Rattle.heesch_grammar.proofs.Inside.{given_some}
use Rattle.heesch_reader.specs.declared.item.Item.{Item}
use Rattle.heesch_reader.specs.declared.item.Item.TheVariants as items
use Rattle.heesch_reader.specs.declared.progress.Progress.{Progress}
use Rattle.heesch_reader.specs.declared.progress.Progress.TheVariants as stages
use Rattle.heesch_reader.specs.Progress.{Lead, walk}
use Rattle.heesch_reader.specs.Items.{lines_of}
use Rattle.heesch_reader.proofs.Walking.{walk_behind}
use Rattle.heesch_table.specs.Entries.{entry_in, entries_of}
use Rattle.heesch_table.specs.TableSteps.{AreWithin, IsHeaded, AreReady}

-- ---- lists

pub all_back : {X : Type 0} (P : X → Type 0) (xs ys : List X) → AllByRecursion P (xs ++ ys) → AllByRecursion P ys
all_back P [] ys h = h
all_back P (x ∷ xs) ys h = all_back P xs ys h.1

pub all_front : {X : Type 0} (P : X → Type 0) (xs ys : List X) → AllByRecursion P (xs ++ ys) → AllByRecursion P xs
all_front P [] ys h = tt
all_front P (x ∷ xs) ys h = (h.0, all_front P xs ys h.1)

pub all_both : {X : Type 0} (P : X → Type 0) (xs ys : List X) → AllByRecursion P xs → AllByRecursion P ys → AllByRecursion P (xs ++ ys)
all_both P [] ys h k = k
all_both P (x ∷ xs) ys h k = (h.0, all_both P xs ys h.1 k)

pub zip_both : {A B : Type 0} (R : A → B → Type 0) (xs xs2 : List A) (ys ys2 : List B) → AllZip R xs ys → AllZip R xs2 ys2 → AllZip R (xs ++ xs2) (ys ++ ys2)
zip_both R [] xs2 [] ys2 h k = k
zip_both R [] xs2 (y ∷ ys) ys2 h k = absurd h
zip_both R (x ∷ xs) xs2 [] ys2 h k = absurd h
zip_both R (x ∷ xs) xs2 (y ∷ ys) ys2 h k = (h.0, zip_both R xs xs2 ys ys2 h.1 k)

pub zip_length : {A B : Type 0} (R : A → B → Type 0) (xs : List A) (ys : List B) → AllZip R xs ys → length ys ≡ length xs
zip_length R [] [] h = refl
zip_length R [] (y ∷ ys) h = absurd h
zip_length R (x ∷ xs) [] h = absurd h
zip_length R (x ∷ xs) (y ∷ ys) h = ap suc (zip_length R xs ys h.1)

pub entries_append : (f g : List Item) → entries_of (f ++ g) ≡ entries_of f ++ entries_of g
entries_append f g = flat_map-append entry_in f g

-- ---- the first item

pub headed : (all : List Item) (held : List Line) (q : Progress) → walk stages.Start (lines_of all ++ held) ≡ Some q → IsHeaded all
headed [] held q e = tt
headed (items.Header header ∷ all) held q e = tt
headed (items.Entry line entry ∷ all) held q e = absurd cc
headed (items.Brief line cells verdict ∷ all) held q e = absurd cc
headed (items.End count ∷ all) held q e = absurd cc

-- ---- the number of entries

shapes_in : List Line → ℕ
shapes_in [] = 0
shapes_in (lines.Shape cells ∷ ls) = suc (shapes_in ls)
shapes_in (line ∷ ls) = shapes_in ls

shapes_append : (a b : List Line) → shapes_in (a ++ b) ≡ shapes_in a + shapes_in b
unfolding shapes_in
shapes_append [] b = omega arith
shapes_append (lines.Shape cells ∷ a) b = omega (arith, shapes_append a b)
shapes_append (line ∷ a) b = shapes_append a b

both : (a b : Bool) → a && b ≡ true → (a ≡ true) × (b ≡ true)
both true b e = (refl, e)
both false b e = absurd cc

shapes_within : (brief : Bool) (s t : Spot) (ls : List Line) → steps brief s ls ≡ Some t → s.shapes ≤ 4294967295 → s.shapes + shapes_in ls ≤ 4294967295
unfolding shapes_in
shapes_within brief s t [] e h = omega arith
shapes_within brief s t (lines.Shape cells ∷ ls) e h =
    let b = bind_some (step brief s (lines.Shape cells)) (λ u. steps brief u ls) t e in
    let g = given_some (is_whole s.place && nat_lt s.shapes 4294967295) (record { shapes = s.shapes + 1; place = places.Shape }) b.0 b.1 in
    let few : s.shapes < 4294967295 = ltb-true s.shapes 4294967295 (both (is_whole s.place) (nat_lt s.shapes 4294967295) g.0).1 in
    let more : s.shapes + 1 ≡ b.0.shapes = ap (λ (x : Spot). x.shapes) g.1 in
    let rest = shapes_within brief b.0 t ls b.2 (omega arith) in
    omega arith
shapes_within brief s t (lines.End count ∷ ls) e h =
    let b = bind_some (step brief s (lines.End count)) (λ u. steps brief u ls) t e in
    let same = (end_step brief s b.0 count b.1).1 in
    let rest = shapes_within brief b.0 t ls b.2 (omega arith) in
    omega arith
shapes_within brief s t (line ∷ ls) e h =
    let b = bind_some (step brief s line) (λ u. steps brief u ls) t e in
    let same = (inner_place brief s b.0 line tt b.1).1 in
    let rest = shapes_within brief b.0 t ls b.2 (omega arith) in
    omega arith

entries_short : (all : List Item) → length (entries_of all) ≤ shapes_in (lines_of all)
unfolding shapes_in
entries_short [] = omega arith
entries_short (items.Header header ∷ all) = entries_short all
entries_short (items.Entry line entry ∷ all) = omega (arith, entries_short all, shapes_append (entry_lines entry) (lines_of all))
entries_short (items.Brief line cells verdict ∷ all) = omega (arith, entries_short all)
entries_short (items.End count ∷ all) = entries_short all

few_entries : (all : List Item) (held : List Line) (q : Progress) → walk stages.Start (lines_of all ++ held) ≡ Some q → length (entries_of all) < 2 ^ 32
few_entries [] held q e = omega arith
few_entries (items.Header header ∷ all) held q e =
    let b = walk_behind header.brief start (lines_of all ++ held) q e in
    omega (arith, shapes_within header.brief start b.0 (lines_of all ++ held) b.1 (omega arith), shapes_append (lines_of all) held, entries_short all)
few_entries (items.Entry line entry ∷ all) held q e = absurd cc
few_entries (items.Brief line cells verdict ∷ all) held q e = absurd cc
few_entries (items.End count ∷ all) held q e = absurd cc

-- ---- the cells

within_lines : (all : List Item) → AllByRecursion IsLine (lines_of all) → AllByRecursion AreWithin (entries_of all)
within_lines [] h = tt
within_lines (items.Header header ∷ all) h = within_lines all h.1
within_lines (items.Entry line entry ∷ all) h = (h.0.each, within_lines all (all_back IsLine (entry_lines entry) (lines_of all) h))
within_lines (items.Brief line cells verdict ∷ all) h = (h.0.each, within_lines all h.1.1)
within_lines (items.End count ∷ all) h = within_lines all h.1

-- items whose lines may stand from the start on are ready to be counted
pub ready : (found more : List Item) (held : List Line) (q : Progress) → Lead stages.Start (lines_of (found ++ more) ++ held) q → AreReady found more
ready found more held q l = record {
  headed = headed (found ++ more) held q l.reached;
  within = all_back AreWithin (entries_of found) (entries_of more) (subst (λ (x : List (List Cell × Verdict)). AllByRecursion AreWithin x) (entries_append found more)
      (within_lines (found ++ more) (all_front IsLine (lines_of (found ++ more)) held l.forms)));
  few = few_entries (found ++ more) held q l.reached;
}
