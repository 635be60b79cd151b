-- Members of the first sets of a list, and rising numbers.
use Rattle.std.proofs.Common.{◌≡◌, refl, sym, ap, subst, ◌∙◌, ℕ, zero, suc, ◌+◌, ◌-◌, ◌<◌, ◌≤◌, Bool, true, false, ◌||◌, List, [], ◌∷◌, ◌++◌, length, get_or, take, Some, All, inl, inr, arith, true≢false, Contains, leb}
use Rattle.std.specs.Prelude.{nat_lt, IsTrue}
use Rattle.std.specs.List.{list_any, slice_get}
use Rattle.std.proofs.Math.Seq.{take-length}
use Rattle.std.proofs.lemmas.Option.{get_or_from_slice_get}
use Rattle.std.proofs.lemmas.List.{take_more, flat_map_more}
use Rattle.std.proofs.lemmas.Bool.{cases_Bool, or_cases}
use Rattle.std.proofs.lemmas.List.Concat.{flat_map-cons}
use Rattle.std.proofs.lemmas.List.Folds.{list_any-append, list_any_at, list_any_more}
use Rattle.std.proofs.lemmas.List.Elements.{All-contains, Contains-get_or}
use Rattle.heesch_grid.specs.declared.Cell.{Cell}
use Rattle.heesch_grid.specs.Listing.{IsRising}
use Rattle.heesch_grid.specs.Cells.{same_cell, has, set_of}
use Rattle.heesch_grid.specs.Corona.{cells_of}
use Rattle.heesch_grid.specs.Pairs.{or-left, or-right, same_cell-refl}
use Rattle.heesch_grid.specs.Geometry.{Geometry}
use Rattle.heesch_grid.specs.Vectors.{IsWithin}
use Rattle.heesch_shape.specs.Walks.{IsShape}
use Rattle.heesch_grid.proofs.ListFacts.{member_cases, no_member}
use Rattle.heesch_index.specs.Covering.{numbers_with}
use Rattle.heesch_index.proofs.NumberFacts.{IsRising-numbers_with, numbers_with-range, has-numbers_with, Contains-numbers_with}

-- the cells of a set and further ones
pub cells_cons : (s : List Cell) (ss : List (List Cell)) (c : Cell) → has (cells_of (s ∷ ss)) c ≡ (has s c || has (cells_of ss) c)
cells_cons s ss c = ap (λ xs. has xs c) (flat_map-cons (λ tile. tile) s ss) ∙ list_any-append (same_cell c) s (cells_of ss)

set_step : (s : List Cell) (ss : List (List Cell)) (n : ℕ) → 1 ≤ n → set_of (s ∷ ss) (suc n) ≡ set_of ss n
set_step s ss n l = ap (λ k. get_or (s ∷ ss) k []) (next n l)
  where
    next : (n : ℕ) → 1 ≤ n → suc n - 1 ≡ suc (n - 1)
    next n l = omega (arith, l)

-- a cell of the first sets lies in one of them
pub covered_by : (sets : List (List Cell)) (most : ℕ) (c : Cell) → has (cells_of (take most sets)) c ≡ true → (n : ℕ) × (1 ≤ n) × (n ≤ most) × (n ≤ length sets) × (has (set_of sets n) c ≡ true)
covered_by [] zero c h = absurd (true≢false (sym h))
covered_by [] (suc m) c h = absurd (true≢false (sym h))
covered_by (s ∷ ss) zero c h = absurd (true≢false (sym h))
covered_by (s ∷ ss) (suc m) c h =
    elim (or_cases (has s c) (has (cells_of (take m ss)) c) (sym (cells_cons s (take m ss) c) ∙ h)) [
      | inl t ↦ (1, omega arith, omega arith, omega arith, t)
      | inr t ↦ further s ss m c (covered_by ss m c t)
    ]
  where
    further : (s : List Cell) (ss : List (List Cell)) (m : ℕ) (c : Cell) → (n : ℕ) × (1 ≤ n) × (n ≤ m) × (n ≤ length ss) × (has (set_of ss n) c ≡ true) → (n : ℕ) × (1 ≤ n) × (n ≤ suc m) × (n ≤ length (s ∷ ss)) × (has (set_of (s ∷ ss) n) c ≡ true)
    further s ss m c (zero, a, b, d, e) = absurd (omega arith)
    further s ss m c (suc n, a, b, d, e) = (suc (suc n), omega arith, omega (arith, b), omega (arith, d), ap (λ x. has x c) (set_step s ss (suc n) a) ∙ e)

pub covered_from : (sets : List (List Cell)) (most n : ℕ) (c : Cell) → 1 ≤ n → n ≤ most → has (set_of sets n) c ≡ true → has (cells_of (take most sets)) c ≡ true
covered_from sets most zero c a b h = absurd (omega arith)
covered_from sets zero (suc n) c a b h = absurd (omega arith)
covered_from [] (suc m) (suc n) c a b h = absurd (true≢false (sym h))
covered_from (s ∷ ss) (suc m) (suc zero) c a b h = cells_cons s (take m ss) c ∙ or-left (has s c) (has (cells_of (take m ss)) c) h
covered_from (s ∷ ss) (suc m) (suc (suc n)) c a b h =
    cells_cons s (take m ss) c ∙ or-right (has s c) (has (cells_of (take m ss)) c) (covered_from ss m (suc n) c (omega arith) (omega (arith, b)) (ap (λ x. has x c) (sym (set_step s ss (suc n) (omega arith))) ∙ h))

-- ---- rising numbers

pub rising_at : (ns : List ℕ) → IsRising nat_lt ns → (i j : ℕ) → i < j → j < length ns → get_or ns i 0 < get_or ns j 0
rising_at [] r i j l m = absurd (omega arith)
rising_at (n ∷ ns) r i zero l m = absurd (omega arith)
rising_at (n ∷ ns) r zero (suc j) l m = less n (get_or ns j 0) (All-contains (λ y. IsTrue (nat_lt n y)) ns (get_or ns j 0) r.0 (Contains-get_or ns j 0 (omega (arith, m))))
  where
    less : (m n : ℕ) → nat_lt m n ≡ true → m < n
    less m n h = grind arith
rising_at (n ∷ ns) r (suc i) (suc j) l m = rising_at ns r.1 i j (omega (arith, l)) (omega (arith, m))

pub number_at : (ns : List ℕ) (n : ℕ) → Contains ns n → (k : ℕ) × (k < length ns) × (get_or ns k 0 ≡ n)
number_at [] n m = absurd (no_member n m)
number_at (x ∷ xs) n m =
    elim (member_cases x xs n m) [
      | inl e ↦ (0, omega arith, e)
      | inr k ↦ let r = number_at xs n k in (suc r.0, omega (arith, r.1), r.2)
    ]

-- the numbers of the sets with a cell: the first of them decides whether the first sets have it
pub none_with : (sets : List (List Cell)) (c : Cell) (ns : List ℕ) → ns ≡ numbers_with sets c → length ns ≡ 0 → (most : ℕ) → has (cells_of (take most sets)) c ≡ false
none_with sets c ns e none most = elim (cases_Bool (has (cells_of (take most sets)) c)) [
  | inl t ↦
      let by = covered_by sets most c t in
      let m = subst (λ l. Contains l by.0) (sym e) (Contains-numbers_with sets c by.0 by.1 by.4) in
      let at = number_at ns by.0 m in
      absurd (let l = at.1 in omega (arith, l, none))
  | inr f ↦ f
]

pub first_with : (sets : List (List Cell)) (c : Cell) (ns : List ℕ) → ns ≡ numbers_with sets c → 0 < length ns → (most : ℕ) → leb (get_or ns 0 0) most ≡ has (cells_of (take most sets)) c
first_with sets c ns e some most =
    let n = get_or ns 0 0 in
    let m = subst (λ l. Contains l (get_or ns 0 0)) e (Contains-get_or ns 0 0 some) in
    let range = numbers_with-range sets c n m in
    same (leb n most) (has (cells_of (take most sets)) c)
    (λ t. covered_from sets most n c range.0 (le_of n most t) (has-numbers_with sets c n m))
    (λ t.
    let by = covered_by sets most c t in
    let k = number_at ns by.0 (subst (λ l. Contains l by.0) (sym e) (Contains-numbers_with sets c by.0 by.1 by.4)) in
    is_le n most (let l = least k.0 k.1 in let q = by.2 in let p = k.2 in omega (arith, l, q, p)))
  where
    same : (a b : Bool) → (a ≡ true → b ≡ true) → (b ≡ true → a ≡ true) → a ≡ b
    same true b p q = sym (p refl)
    same false true p q = q refl
    same false false p q = refl

    le_of : (m n : ℕ) → leb m n ≡ true → m ≤ n
    le_of m n h = grind arith

    is_le : (m n : ℕ) → m ≤ n → leb m n ≡ true
    is_le m n h = grind arith

    rises : IsRising nat_lt ns
    rises = subst (IsRising nat_lt) (sym e) (IsRising-numbers_with sets c)

    least : (k : ℕ) → k < length ns → get_or ns 0 0 ≤ get_or ns k 0
    least zero l = omega arith
    least (suc k) l = let h = rising_at ns rises 0 (suc k) (omega arith) l in omega (arith, h)

-- ---- tests of the items of a list

pub any_at : (p : Cell → Bool) (xs : List Cell) (i : ℕ) (r : Cell) → i < length xs → slice_get xs i ≡ Some r → p r ≡ true → list_any p xs ≡ true
any_at p xs i r less e h = list_any_at p xs i r less (ap p (get_or_from_slice_get xs i r r e) ∙ h)

or_none : (a b : Bool) → a ≡ false → b ≡ false → (a || b) ≡ false
or_none a b e f = ap (λ x. x || b) e ∙ f

pub none_more : (p : Cell → Bool) (xs : List Cell) (i : ℕ) (r : Cell) → i < length xs → slice_get xs i ≡ Some r → p r ≡ false → list_any p (take i xs) ≡ false → list_any p (take (i + 1) xs) ≡ false
none_more p xs i r less e h old =
    list_any_more p xs i r less ∙ or_none (list_any p (take i xs)) (p (get_or xs i r)) old (ap p (get_or_from_slice_get xs i r r e) ∙ h)

pub none_all : (p : Cell → Bool) (xs : List Cell) (i : ℕ) → i ≡ length xs → list_any p (take i xs) ≡ false → list_any p xs ≡ false
none_all p xs i e h = ap (list_any p) (sym (take-length xs) ∙ ap (λ n. take n xs) (sym e)) ∙ h

-- ---- sets that are shapes

pub shape_of : (g : Geometry) (sets : List (List Cell)) (n : ℕ) → All (IsShape g) sets → 1 ≤ n → n ≤ length sets → IsShape g (set_of sets n)
shape_of g sets n all low high = all (n - 1) [] (omega (arith, low, high))

pub item_within : (g : Geometry) (sets : List (List Cell)) (n i : ℕ) (d : Cell) (items : List Cell) → All (IsShape g) sets → 1 ≤ n → n ≤ length sets → items ≡ set_of sets n → i < length items → IsWithin 1000000 (get_or items i d)
item_within g sets n i d items all low high e l = (shape_of g sets n all low high).within (get_or items i d) (ap (λ xs. has xs (get_or items i d)) (sym e) ∙ list_any_at (same_cell (get_or items i d)) items i d l (same_cell-refl (get_or items i d)))

-- one set more
pub cells_more : (sets : List (List Cell)) (at : ℕ) → at < length sets → cells_of (take (at + 1) sets) ≡ cells_of (take at sets) ++ set_of sets (at + 1)
cells_more sets at l =
    ap cells_of (take_more sets at [] l)
    ∙ sym (flat_map_more (λ (tile : List Cell). tile) [] (take at sets) (get_or sets at []))
    ∙ ap (λ k. cells_of (take at sets) ++ get_or sets k []) (back at)
  where
    back : (n : ℕ) → n ≡ n + 1 - 1
    back n = omega arith

pub whole_has : (sets : List (List Cell)) (most : ℕ) (c : Cell) → has (cells_of (take most sets)) c ≡ true → has (cells_of sets) c ≡ true
whole_has sets most c h =
    let by = covered_by sets most c h in
    ap (λ ss. has (cells_of ss) c) (sym (take-length sets)) ∙ covered_from sets (length sets) by.0 c by.1 by.3 by.4
