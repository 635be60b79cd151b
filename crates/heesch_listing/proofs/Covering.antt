-- The parts of a list, and what is grown from all of them.
use Rattle.std.proofs.Common.{◌≡◌, ℕ, ◌+◌, ◌-◌, ◌*◌, ◌/◌, ◌%◌, ◌<◌, min, List, length, take, drop, get_or, Contains, Vec, Global, lit≤, refl, sym, ap, ◌∙◌, arith, inl, inr}
use Rattle.std.specs.Prelude.{Some, slice_get}
use Rattle.std.proofs.lemmas.Bool.{cases_lt}
use Rattle.std.proofs.lemmas.List.{take_all, take_min, drop_all, get_or-drop, get_or-take, length-drop, length-take}
use Rattle.std.proofs.lemmas.Option.{slice_get_read, slice_get_cases}
use Rattle.std.proofs.lemmas.List.Elements.{All-contains, All-take, All-drop, All-contains_itself}
use Rattle.std.proofs.lemmas.Grind.{div_ceil_times}
use Rattle.heesch_grid.specs.declared.Cell.{Cell}
use Rattle.heesch_grid.specs.Listing.{ListsExactly}
use Rattle.heesch_grid.specs.Cells.{cells_before}
use Rattle.heesch_grid.specs.Geometry.{Geometry}
use Rattle.heesch_grid.proofs.ListFacts.{All-from_members}
use Rattle.heesch_grow.specs.Adds.{IsGrownFromSome}
use Rattle.heesch_merge.specs.Union.{IsInSome}
use Rattle.heesch_listing.specs.Parts.{part_of}

abbrev Lists : Type 0
Lists = List (List Cell)

-- a part that is cut out of the parents
pub cut_part : (xs : Lists) (number start count : ℕ) → start ≡ min (number * 64) (length xs) → count ≡ min 64 (length (take (length xs - start) (drop start xs))) → take count (take (length xs - start) (drop start xs)) ≡ part_of number xs
cut_part xs number start count at many =
    let rest : take (length xs - start) (drop start xs) ≡ drop start xs = take_all (length xs - start) (drop start xs) (omega (arith, length-drop start xs)) in
    let few : take count (take (length xs - start) (drop start xs)) ≡ take 64 (drop start xs) =
    ap (λ n. take n (take (length xs - start) (drop start xs))) many ∙ take_min 64 (take (length xs - start) (drop start xs)) ∙ ap (take 64) rest in
    let same : drop start xs ≡ drop (number * 64) xs =
    elim (cases_lt (number * 64) (length xs)) [
      | inl l ↦ ap (λ n. drop n xs) (let e : start ≡ number * 64 = omega (arith, at, l) in e)
      | inr m ↦ drop_all start xs (omega (arith, at, m)) ∙ sym (drop_all (number * 64) xs m)
    ] in
    few ∙ ap (take 64) same

-- a member of a part is a member of the whole
part_inside : (xs : Lists) (number : ℕ) (x : List Cell) → Contains (part_of number xs) x → Contains xs x
part_inside xs number x m =
    All-contains (Contains xs) (part_of number xs) x (All-take (Contains xs) 64 (drop (number * 64) xs) (All-drop (Contains xs) (number * 64) xs (All-contains_itself xs))) m

-- each member is in the part of its place
part_has : (xs : Lists) (k : ℕ) (x : List Cell) → k < length xs → get_or xs k x ≡ x → Contains (part_of (k / 64) xs) x
part_has xs k x less is =
    let first = k / 64 * 64 in
    let rest = drop first xs in
    let place = k - first in
    let back : first + place ≡ k = omega arith in
    let small : place < 64 = omega arith in
    let long : place < length (take 64 rest) = omega (arith, length-take 64 rest, length-drop first xs) in
    let read : get_or (take 64 rest) place x ≡ x = get_or-take 64 rest place x small ∙ get_or-drop first xs place x ∙ ap (λ n. get_or xs n x) back ∙ is in
    (place, long, read)

-- what is grown from some of a part is grown from some of the whole
grown_inside : (g : Geometry) (xs : Lists) (number : ℕ) (r : List Cell) → IsGrownFromSome g (part_of number xs) r → IsGrownFromSome g xs r
grown_inside g xs number r h = record { parent = h.parent; inside = part_inside xs number h.parent h.inside; grown = h.grown }

-- the merged lists of the children of all parts are the list of the children of the whole
pub grown_by_parts : (g : Geometry) (xs : Lists) (count : ℕ) (parts : List (Vec (List Cell) Global)) (made : Lists) → count ≡ length xs / 64 + min 1 (length xs % 64) → length parts ≡ count → ((i : ℕ) (part : Vec (List Cell) Global) → slice_get parts i ≡ Some part → ListsExactly cells_before (IsGrownFromSome g (part_of i xs)) part.items) → ListsExactly cells_before (IsInSome parts) made → ListsExactly cells_before (IsGrownFromSome g xs) made
grown_by_parts g xs count parts made many long each merged = record {
  rising = merged.rising;
  only = All-from_members (IsGrownFromSome g xs) made (λ r m.
      let found = All-contains (IsInSome parts) made r merged.only m in
      let place = found.1 in
      let lists = each place.0 found.0 (slice_get_read parts (length parts) place.0 found.0 refl place.1 (sym place.2)) in
      grown_inside g xs place.0 r (All-contains (IsGrownFromSome g (part_of place.0 xs)) found.0.items r lists.only found.2));
  every = λ r h. in_list r h h.inside;
}
  where
    in_list : (r : List Cell) (h : IsGrownFromSome g xs r) → Contains xs h.parent → Contains made r
    in_list r h (k, less, is) =
        let bound = div_ceil_times (length xs) 64 (lit≤ tt) in
        let within : k / 64 < length parts = omega (arith, bound.0, many, long) in
        let item = slice_get_cases parts (k / 64) in
        elim item.1 [
          | inl f ↦
              let lists = each (k / 64) f.0 f.2 in
              merged.every r (f.0, (k / 64, within, f.3), lists.every r (record { parent = h.parent; inside = part_has xs k h.parent less is; grown = h.grown }))
          | inr none ↦ absurd (omega (arith, none.0, within))
        ]
