-- Parents that are small enough, by their test and as free polyforms.
use Rattle.std.proofs.Common.{◌≡◌, ℕ, ◌<◌, ◌≤◌, true, nat_le, List, [], ◌∷◌, length, get_or, Contains, All, int_le, ℤ, pos, neg_ℤ, ◌≤ℤ◌, refl, sym, subst, arith}
use Rattle.std.specs.List.{list_all}
use Rattle.std.proofs.lemmas.Int.{ints}
use Rattle.std.proofs.lemmas.Bool.{and_parts, and_from, leb-true, le-leb}
use Rattle.std.proofs.lemmas.List.Elements.{All-cons, All-nil, All-contains}
use Rattle.heesch_grid.specs.declared.Cell.{Cell}
use Rattle.heesch_grid.specs.Cells.{has}
use Rattle.heesch_grid.specs.Geometry.{Geometry, IsGrid}
use Rattle.heesch_grid.specs.Pairs.{has-true, within_of}
use Rattle.heesch_grid.specs.Pattern.{within_test}
use Rattle.heesch_grid.specs.Polyform.{IsFreePolyform}
use Rattle.heesch_grid.specs.Vectors.{IsWithin}
use Rattle.heesch_grid.proofs.CellFacts.{has-is}
use Rattle.heesch_grid.proofs.ListFacts.{member_here, member_there}
use Rattle.heesch_grow.specs.Parents.{IsSmall, is_small}
use Rattle.heesch_grow.proofs.Gathered.{at_place, free_length, free_near}

pub small_at : (g : Geometry) (xs : List (List Cell)) (n : ℕ) (x d : List Cell) → All IsSmall xs → n < length xs → x ≡ get_or xs n d → IsSmall x
small_at g xs n x d small less is = subst IsSmall (sym is) (All-contains IsSmall xs (get_or xs n d) small (at_place g xs xs n d less))

pub near_cell : (x : List Cell) → IsSmall x → (c : Cell) → has x c ≡ true → IsWithin 100000 c
near_cell x small c h = All-contains (IsWithin 100000) x c small.near (has-true x c h)

all_within : (xs : List Cell) → list_all (within_test 100000) xs ≡ true → All (IsWithin 100000) xs
all_within [] h = All-nil (IsWithin 100000)
all_within (c ∷ cs) h =
    let both = and_parts (within_test 100000 c) (list_all (within_test 100000) cs) h in
    All-cons (IsWithin 100000) c cs (within_of 100000 c both.0) (all_within cs both.1)

-- lists that pass the test are small
pub small_by_test : (xs : List (List Cell)) → list_all is_small xs ≡ true → All IsSmall xs
small_by_test [] h = All-nil IsSmall
small_by_test (x ∷ xs) h =
    let both = and_parts (is_small x) (list_all is_small xs) h in
    let parts = and_parts (nat_le (length x) 31) (list_all (within_test 100000) x) both.0 in
    All-cons IsSmall x xs (record { few = leb-true (length x) 31 parts.0; near = all_within x parts.1 }) (small_by_test xs both.1)

le_test : (x y : ℤ) → x ≤ℤ y → int_le x y ≡ true
le_test x y h = grind (arith, ints)

within_passes : (c : Cell) → IsWithin 200 c → within_test 100000 c ≡ true
within_passes c w =
    let a = le_test (neg_ℤ (pos 100000)) c.a (omega (arith, ints, w.a_low)) in
    let b = le_test c.a (pos 100000) (omega (arith, ints, w.a_high)) in
    let d = le_test (neg_ℤ (pos 100000)) c.b (omega (arith, ints, w.b_low)) in
    let e = le_test c.b (pos 100000) (omega (arith, ints, w.b_high)) in
    rw (a, b, d, e) refl

all_pass : (xs : List Cell) → ((c : Cell) → has xs c ≡ true → IsWithin 200 c) → list_all (within_test 100000) xs ≡ true
all_pass xs h = passes xs (λ c m. h c (has-is xs c m))
  where
    passes : (xs : List Cell) → ((c : Cell) → Contains xs c → IsWithin 200 c) → list_all (within_test 100000) xs ≡ true
    passes [] h = refl
    passes (c ∷ cs) h =
        and_from (within_test 100000 c) (list_all (within_test 100000) cs) (within_passes c (h c (member_here c cs))) (passes cs (λ d m. h d (member_there c cs d m)))

free_passes : (g : Geometry) → IsGrid g → (n : ℕ) → n ≤ 31 → (p : List Cell) → IsFreePolyform g n p → is_small p ≡ true
free_passes g law n small p free =
    let long = free_length g law n p free in
    and_from (nat_le (length p) 31) (list_all (within_test 100000) p) (le-leb (length p) 31 (omega arith)) (all_pass p (free_near g law n p small free))

-- free polyforms of at most 31 cells pass the test
pub free_lists_pass : (g : Geometry) → IsGrid g → (n : ℕ) → n ≤ 31 → (xs : List (List Cell)) → All (IsFreePolyform g n) xs → list_all is_small xs ≡ true
free_lists_pass g law n small xs free = passes xs (λ x m. free_passes g law n small x (All-contains (IsFreePolyform g n) xs x free m))
  where
    passes : (xs : List (List Cell)) → ((x : List Cell) → Contains xs x → is_small x ≡ true) → list_all is_small xs ≡ true
    passes [] h = refl
    passes (x ∷ xs) h =
        and_from (is_small x) (list_all is_small xs) (h x (member_here x xs)) (passes xs (λ y m. h y (member_there x xs y m)))
