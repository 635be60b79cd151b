-- Lists of cells as sets.
use Rattle.std.proofs.Common.{◌≡◌, ◌≢◌, suc, ◌+◌, true, false, ◌&&◌, List, [], ◌∷◌, map, get_or, All, IsSorted, refl, sym, ap, ◌∙◌, subst, arith, inl, inr}
use Rattle.std.specs.List.{list_all, IsDistinct, AllByRecursion}
use Rattle.std.specs.Ordering.{is_lt}
use Rattle.std.proofs.lemmas.Int.{ints}
use Rattle.std.proofs.lemmas.Bool.{and_parts, and_from, or_cases, or_left, or_right, true≢false, cases_Bool}
use Rattle.heesch_grid.specs.declared.Cell.{Cell}
use Rattle.heesch_grid.specs.Cells.{same_cell, cell_before, cell_cmp, has}
use Rattle.heesch_grid.specs.Listing.{is_rising}
use Rattle.heesch_grid.specs.Pairs.{All-by_members, Cell-eta, has-true, same_cell-true, same_cell-is, same_cell-refl}
use Rattle.std.proofs.lemmas.List.Elements.{All-contains}
use Rattle.heesch_grid.proofs.OrderFacts.{cell_less}
use Rattle.heesch_grid.specs.Integers.{same_truth}

pub has_map : (f : Cell → Cell) (xs : List Cell) (c : Cell) → has xs c ≡ true → has (map f xs) (f c) ≡ true
has_map f [] c h = h
has_map f (x ∷ xs) c h =
    elim (or_cases (same_cell c x) (has xs c) h) [
      | inl e ↦ or_left (same_cell (f c) (f x)) (has (map f xs) (f c)) (same_cell-is (f c) (f x) (ap f (same_cell-true c x e)))
      | inr o ↦ or_right (same_cell (f c) (f x)) (has (map f xs) (f c)) (has_map f xs c o)
    ]

pub map_has : (f : Cell → Cell) (xs : List Cell) (d : Cell) → has (map f xs) d ≡ true → (c : Cell) × (has xs c ≡ true) × (d ≡ f c)
map_has f [] d h = absurd (true≢false (sym h))
map_has f (x ∷ xs) d h =
    elim (or_cases (same_cell d (f x)) (has (map f xs) d) h) [
      | inl e ↦ (x, or_left (same_cell x x) (has xs x) (same_cell-refl x), same_cell-true d (f x) e)
      | inr o ↦ let c = map_has f xs d o in (c.0, or_right (same_cell c.0 x) (has xs c.0) c.1, c.2)
    ]

-- what holds of all images of the cells, holds of the image of each, and back
pub image_holds : (P : Cell → Type 0) (f : Cell → Cell) (xs : List Cell) → All P (map f xs) → (c : Cell) → has xs c ≡ true → P (f c)
image_holds P f xs all c h = All-contains P (map f xs) (f c) all (has-true (map f xs) (f c) (has_map f xs c h))

pub images_hold : (P : Cell → Type 0) (f : Cell → Cell) (xs : List Cell) → ((c : Cell) → has xs c ≡ true → P (f c)) → All P (map f xs)
images_hold P f xs h = All-by_members P (map f xs) (λ d k. let c = map_has f xs d k in subst P (sym c.2) (h c.0 c.1))

-- ---- the order of cells
pub before_trans : (x y z : Cell) → cell_before x y ≡ true → cell_before y z ≡ true → cell_before x z ≡ true
before_trans x y z h k = grind (arith, ints)

pub before_irreflexive : (x : Cell) → cell_before x x ≡ true → ⊥
before_irreflexive x h = grind (arith, ints)

pub before_or : (x y : Cell) → cell_before y x ≡ false → same_cell x y ≡ false → cell_before x y ≡ true
before_or x y h k =
    let differ : x ≢ y = λ e. true≢false (sym (same_cell-is x y e) ∙ k) in
    elim (cases_Bool (cell_before x y)) [ inl e ↦ e | inr e ↦ absurd (differ (tied x y e h)) ]
  where
    tied : (x y : Cell) → cell_before x y ≡ false → cell_before y x ≡ false → x ≡ y
    tied x y h k = Cell-eta x y (grind (arith, ints)) (grind (arith, ints))

before_all : (x : Cell) (xs : List Cell) (y : Cell) → list_all (cell_before x) xs ≡ true → has xs y ≡ true → cell_before x y ≡ true
before_all x [] y h k = absurd (true≢false (sym k))
before_all x (z ∷ zs) y h k =
    let both = and_parts (cell_before x z) (list_all (cell_before x) zs) h in
    elim (or_cases (same_cell y z) (has zs y) k) [
      | inl e ↦ ap (cell_before x) (same_cell-true y z e) ∙ both.0
      | inr o ↦ before_all x zs y both.1 o
    ]

-- ---- strictly rising lists with the same cells are one list
same_head : (x : Cell) (xs : List Cell) (y : Cell) (ys : List Cell) → is_rising cell_before (x ∷ xs) ≡ true → is_rising cell_before (y ∷ ys) ≡ true → has (y ∷ ys) x ≡ true → has (x ∷ xs) y ≡ true → x ≡ y
same_head x xs y ys r s h k =
    elim (or_cases (same_cell x y) (has ys x) h) [
      | inl e ↦ same_cell-true x y e
      | inr o ↦ elim (or_cases (same_cell y x) (has xs y) k) [
        | inl e ↦ sym (same_cell-true y x e)
        | inr p ↦ absurd (before_irreflexive x (before_trans x y x (before_all x xs y (and_parts (list_all (cell_before x) xs) (is_rising cell_before xs) r).0 p) (before_all y ys x (and_parts (list_all (cell_before y) ys) (is_rising cell_before ys) s).0 o)))
      ]
    ]

-- a cell that is not the head is in one tail as in the other
same_tail : (x : Cell) (xs ys : List Cell) → is_rising cell_before (x ∷ xs) ≡ true → is_rising cell_before (x ∷ ys) ≡ true → ((c : Cell) → has (x ∷ xs) c ≡ has (x ∷ ys) c) → (c : Cell) → has xs c ≡ true → has ys c ≡ true
same_tail x xs ys r s h c k =
    elim (or_cases (same_cell c x) (has ys c) (sym (h c) ∙ or_right (same_cell c x) (has xs c) k)) [
      | inl e ↦ absurd (before_irreflexive x (ap (cell_before x) (sym (same_cell-true c x e)) ∙ before_all x xs c (and_parts (list_all (cell_before x) xs) (is_rising cell_before xs) r).0 k))
      | inr o ↦ o
    ]

pub one_list : (xs ys : List Cell) → is_rising cell_before xs ≡ true → is_rising cell_before ys ≡ true → ((c : Cell) → has xs c ≡ has ys c) → xs ≡ ys
one_list [] [] r s h = refl
one_list [] (y ∷ ys) r s h = absurd (true≢false (sym (h y ∙ or_left (same_cell y y) (has ys y) (same_cell-refl y))))
one_list (x ∷ xs) [] r s h = absurd (true≢false (sym (or_left (same_cell x x) (has xs x) (same_cell-refl x)) ∙ h x))
one_list (x ∷ xs) (y ∷ ys) r s h =
    let e : x ≡ y = same_head x xs y ys r s (sym (h x) ∙ or_left (same_cell x x) (has xs x) (same_cell-refl x)) (h y ∙ or_left (same_cell y y) (has ys y) (same_cell-refl y)) in
    let s' : is_rising cell_before (x ∷ ys) ≡ true = ap (λ z. is_rising cell_before (z ∷ ys)) e ∙ s in
    let h' : (c : Cell) → has (x ∷ xs) c ≡ has (x ∷ ys) c = λ c. h c ∙ ap (λ z. has (z ∷ ys) c) (sym e) in
    let tail = one_list xs ys (and_parts (list_all (cell_before x) xs) (is_rising cell_before xs) r).1 (and_parts (list_all (cell_before y) ys) (is_rising cell_before ys) s).1 (λ c. same_truth (has xs c) (has ys c) (same_tail x xs ys r s' h' c) (same_tail x ys xs s' r (λ c. sym (h' c)) c)) in
    ap (λ zs. x ∷ zs) tail ∙ ap (λ z. z ∷ ys) e

-- ---- distinct cells
distinct_head : (x : Cell) (xs : List Cell) → ((c : Cell) → has xs c ≡ true → same_cell x c ≡ false) → AllByRecursion (λ y. same_cell x y ≡ false) xs
distinct_head x [] h = tt
distinct_head x (y ∷ ys) h =
    (h y (or_left (same_cell y y) (has ys y) (same_cell-refl y)), distinct_head x ys (λ c k. h c (or_right (same_cell c y) (has ys c) k)))

-- the images of the cells of a rising list under a map that keeps cells apart
pub distinct_map : (f : Cell → Cell) → ((c d : Cell) → f c ≡ f d → c ≡ d) → (xs : List Cell) → is_rising cell_before xs ≡ true → IsDistinct same_cell (map f xs)
unfolding IsDistinct
distinct_map f one [] r = tt
distinct_map f one (x ∷ xs) r =
    let both = and_parts (list_all (cell_before x) xs) (is_rising cell_before xs) r in
    (distinct_head (f x) (map f xs) (apart x xs both.0), distinct_map f one xs both.1)
  where
    apart : (x : Cell) (xs : List Cell) → list_all (cell_before x) xs ≡ true → (c : Cell) → has (map f xs) c ≡ true → same_cell (f x) c ≡ false
    apart x xs all c k =
        elim (cases_Bool (same_cell (f x) c)) [
          | inl e ↦ let d = map_has f xs c k in absurd (before_irreflexive x (ap (cell_before x) (one x d.0 (same_cell-true (f x) c e ∙ d.2)) ∙ before_all x xs d.0 all d.1))
          | inr e ↦ e
        ]

-- a sorted list of distinct cells rises
pub rises_from_sorted : (xs : List Cell) → IsDistinct same_cell xs → IsSorted cell_cmp xs → is_rising cell_before xs ≡ true
unfolding IsDistinct
rises_from_sorted [] d s = refl
rises_from_sorted (x ∷ []) d s = refl
rises_from_sorted (x ∷ y ∷ ys) d s =
    let rest = rises_from_sorted (y ∷ ys) d.1 (λ k e low high. let next : suc (k + 1) ≡ suc k + 1 = omega arith in ap (λ n. is_lt (cell_cmp (get_or (x ∷ y ∷ ys) n e) (get_or (y ∷ ys) k e))) next ∙ s (suc k) e (omega arith) (omega arith)) in
    let first : cell_before x y ≡ true = before_or x y (sym (cell_less y x) ∙ s 0 x (omega arith) (omega arith)) d.0.0 in
    let all = and_parts (list_all (cell_before y) ys) (is_rising cell_before ys) rest in
    and_from (cell_before x y && list_all (cell_before x) ys) (is_rising cell_before (y ∷ ys)) (and_from (cell_before x y) (list_all (cell_before x) ys) first (farther x y ys first all.0)) rest
  where
    farther : (x y : Cell) (ys : List Cell) → cell_before x y ≡ true → list_all (cell_before y) ys ≡ true → list_all (cell_before x) ys ≡ true
    farther x y [] h k = refl
    farther x y (z ∷ zs) h k =
        let both = and_parts (cell_before y z) (list_all (cell_before y) zs) k in
        and_from (cell_before x z) (list_all (cell_before x) zs) (before_trans x y z h both.0) (farther x y zs h both.1)
