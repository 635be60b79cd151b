-- Steps of a loop that looks for a common cell of two rising lists.
use Rattle.std.proofs.Common.{◌≡◌, ℕ, zero, suc, ◌+◌, ◌<◌, ◌≤◌, Bool, true, false, ◌||◌, List, [], ◌∷◌, length, get_or, drop, Contains, refl, sym, ap, ◌∙◌, subst, arith, inl, inr, true≢false}
use Rattle.std.specs.Prelude.{IsTrue}
use Rattle.std.specs.List.{list_any}
use Rattle.std.proofs.lemmas.Bool.{cases_Bool}
use Rattle.std.proofs.lemmas.List.{drop_more}
use Rattle.std.proofs.lemmas.List.Elements.{All-contains}
use Rattle.std.specs.Ordering.{is_lt}
use Rattle.heesch_grid.specs.declared.Cell.{Cell}
use Rattle.heesch_grid.specs.Listing.{IsRising}
use Rattle.heesch_grid.specs.Cells.{same_cell, cell_before, cell_cmp, has, meet}
use Rattle.heesch_grid.specs.Pairs.{has-true, same_cell-true}
use Rattle.heesch_grid.proofs.CellFacts.{cell_before-irreflexive, cell_before-asymmetric}
use Rattle.heesch_grid.proofs.ListFacts.{member_cases}
use Rattle.heesch_grid.proofs.OrderFacts.{cell_less}
use Rattle.heesch_grid.proofs.SortFacts.{before-total}

rising_drop : (i : ℕ) (xs : List Cell) → IsRising cell_before xs → IsRising cell_before (drop i xs)
rising_drop zero xs r = r
rising_drop (suc i) [] r = r
rising_drop (suc i) (x ∷ xs) r = rising_drop i xs r.1

-- a cell before all of a rising list is none of them
absent : (x y : Cell) (ys : List Cell) → cell_before x y ≡ true → IsRising cell_before (y ∷ ys) → has (y ∷ ys) x ≡ false
absent x y ys less r = elim (cases_Bool (has (y ∷ ys) x)) [ inl t ↦ absurd (out (has-true (y ∷ ys) x t)) | inr f ↦ f ]
  where
    out : Contains (y ∷ ys) x → ⊥
    out m =
        elim (member_cases y ys x m) [
          | inl e ↦ true≢false (sym less ∙ ap (cell_before x) e ∙ cell_before-irreflexive x)
          | inr h ↦ true≢false (sym less ∙ cell_before-asymmetric y x (All-contains (λ z. IsTrue (cell_before y z)) ys x r.0 h))
        ]

or_skip : (a b : Bool) → a ≡ false → (a || b) ≡ b
or_skip true b e = absurd (true≢false e)
or_skip false b e = refl

-- where the first of the left comes before the first of the right
left_skipped : (x y : Cell) (xs ys : List Cell) → cell_before x y ≡ true → IsRising cell_before (y ∷ ys) → meet xs (y ∷ ys) ≡ meet (x ∷ xs) (y ∷ ys)
left_skipped x y xs ys less r = sym (or_skip (has (y ∷ ys) x) (meet xs (y ∷ ys)) (absent x y ys less r))

has_skip : (y x : Cell) (xs ys : List Cell) → cell_before y x ≡ true → IsRising cell_before (x ∷ xs) → (c : Cell) → Contains (x ∷ xs) c → has ys c ≡ has (y ∷ ys) c
has_skip y x xs ys less r c m =
    sym (or_skip (same_cell c y) (has ys c) (elim (cases_Bool (same_cell c y)) [
      | inr f ↦ f
      | inl t ↦ absurd (elim (member_cases x xs c m) [
        | inl e ↦ true≢false (sym less ∙ ap (cell_before y) (e ∙ same_cell-true c y t) ∙ cell_before-irreflexive y)
        | inr h ↦ true≢false (sym (All-contains (λ z. IsTrue (cell_before x z)) xs c r.0 h) ∙ ap (cell_before x) (same_cell-true c y t) ∙ cell_before-asymmetric y x less)
      ])
    ]))

any_on : (p q : Cell → Bool) (xs : List Cell) → ((c : Cell) → Contains xs c → p c ≡ q c) → list_any p xs ≡ list_any q xs
any_on p q [] e = refl
any_on p q (x ∷ xs) e = λ i. e x (0, omega arith, refl) i || any_on p q xs (λ c m. e c (suc m.0, (let l = m.1 in omega arith), m.2)) i

-- and where it comes after
right_skipped : (x y : Cell) (xs ys : List Cell) → cell_before y x ≡ true → IsRising cell_before (x ∷ xs) → meet (x ∷ xs) ys ≡ meet (x ∷ xs) (y ∷ ys)
right_skipped x y xs ys less r = any_on (has ys) (has (y ∷ ys)) (x ∷ xs) (has_skip y x xs ys less r)

heads_meet : (x y : Cell) (xs ys : List Cell) → same_cell x y ≡ true → true ≡ meet (x ∷ xs) (y ∷ ys)
heads_meet x y xs ys same = ap (λ b. (b || has ys x) || meet xs (y ∷ ys)) (sym same)

module _ (left right : List Cell) (i j : ℕ) (d e : Cell) (left_rises : IsRising cell_before left) (right_rises : IsRising cell_before right) (i_in : i < length left) (j_in : j < length right) (so_far : meet (drop i left) (drop j right) ≡ meet left right) where
  left_is : drop i left ≡ get_or left i d ∷ drop (i + 1) left
  left_is = drop_more left i d i_in

  right_is : drop j right ≡ get_or right j e ∷ drop (j + 1) right
  right_is = drop_more right j e j_in

  pub less_step : is_lt (cell_cmp (get_or left i d) (get_or right j e)) ≡ true → meet (drop (i + 1) left) (drop j right) ≡ meet left right
  less_step less =
      let before = sym (cell_less (get_or left i d) (get_or right j e)) ∙ less in
      let rises = subst (IsRising cell_before) right_is (rising_drop j right right_rises) in
      ap (meet (drop (i + 1) left)) right_is
      ∙ left_skipped (get_or left i d) (get_or right j e) (drop (i + 1) left) (drop (j + 1) right) before rises
      ∙ ap (λ zs. meet zs (get_or right j e ∷ drop (j + 1) right)) (sym left_is)
      ∙ ap (meet (drop i left)) (sym right_is)
      ∙ so_far

  pub greater_step : same_cell (get_or left i d) (get_or right j e) ≡ false → is_lt (cell_cmp (get_or left i d) (get_or right j e)) ≡ false → meet (drop i left) (drop (j + 1) right) ≡ meet left right
  greater_step other less =
      let before = before-total (get_or left i d) (get_or right j e) (sym (cell_less (get_or left i d) (get_or right j e)) ∙ less) other in
      let rises = subst (IsRising cell_before) left_is (rising_drop i left left_rises) in
      ap (λ zs. meet zs (drop (j + 1) right)) left_is
      ∙ right_skipped (get_or left i d) (get_or right j e) (drop (i + 1) left) (drop (j + 1) right) before rises
      ∙ ap (λ zs. meet zs (get_or right j e ∷ drop (j + 1) right)) (sym left_is)
      ∙ ap (meet (drop i left)) (sym right_is)
      ∙ so_far

  pub equal_step : same_cell (get_or left i d) (get_or right j e) ≡ true → true ≡ meet left right
  equal_step same =
      heads_meet (get_or left i d) (get_or right j e) (drop (i + 1) left) (drop (j + 1) right) same
      ∙ ap (λ zs. meet zs (get_or right j e ∷ drop (j + 1) right)) (sym left_is)
      ∙ ap (meet (drop i left)) (sym right_is)
      ∙ so_far

dropped_all : (i : ℕ) (xs : List Cell) → length xs ≤ i → drop i xs ≡ []
dropped_all zero [] h = refl
dropped_all zero (x ∷ xs) h = absurd (omega arith)
dropped_all (suc i) [] h = refl
dropped_all (suc i) (x ∷ xs) h = dropped_all i xs (omega arith)

meet_none : (xs : List Cell) → meet xs [] ≡ false
meet_none [] = refl
meet_none (x ∷ xs) = meet_none xs

-- where one list is at its end
pub left_done : (left right : List Cell) (i j : ℕ) → length left ≤ i → meet (drop i left) (drop j right) ≡ meet left right → false ≡ meet left right
left_done left right i j h so_far = ap (λ zs. meet zs (drop j right)) (sym (dropped_all i left h)) ∙ so_far

pub right_done : (left right : List Cell) (i j : ℕ) → length right ≤ j → meet (drop i left) (drop j right) ≡ meet left right → false ≡ meet left right
right_done left right i j h so_far = sym (meet_none (drop i left)) ∙ ap (meet (drop i left)) (sym (dropped_all j right h)) ∙ so_far
