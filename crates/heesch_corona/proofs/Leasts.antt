-- The search for the least cell that passes a test.
use Rattle.std.proofs.Common.{◌≡◌, refl, sym, ap, subst, ◌∙◌, ℕ, ◌+◌, ◌<◌, Bool, true, false, ◌&&◌, ◌||◌, Some, None, List, length, take, inl, inr, true≢false}
use Rattle.std.specs.Prelude.{Option}
use Rattle.std.specs.List.{slice_get}
use Rattle.std.proofs.lemmas.Bool.{cases_Bool, or_cases}
use Rattle.std.proofs.lemmas.List.Folds.{list_any_more}
use Rattle.std.proofs.lemmas.Option.{get_or_from_slice_get}
use Rattle.heesch_grid.specs.declared.Cell.{Cell}
use Rattle.heesch_grid.specs.Cells.{same_cell, cell_before, has}
use Rattle.heesch_grid.specs.Pairs.{same_cell-true, same_cell-refl, or-left, or-right}
use Rattle.heesch_grid.proofs.CellFacts.{cell_before-irreflexive, cell_before-asymmetric}
use Rattle.heesch_shape.proofs.Sets.{before_trans, before_or}
use Rattle.heesch_corona.specs.Searches.{IsLeastWith}

-- the same for a test that passes the same cells
pub least_same : (f h : Cell → Bool) (r : Option Cell) → ((d : Cell) → f d ≡ h d) → IsLeastWith f r → IsLeastWith h r
least_same f h (Some c) e p = (sym (e c) ∙ p.0, λ d t. p.1 d (e d ∙ t))
least_same f h None e p = λ d. sym (e d) ∙ p d

-- one more cell passes, and it comes after the least so far
pub least_stays : (test : Cell → Bool) (d c : Cell) → cell_before d c ≡ true → IsLeastWith test (Some d) → IsLeastWith (λ e. test e || same_cell e c) (Some d)
least_stays test d c l p = (
  or-left (test d) (same_cell d c) p.0,
  λ e t. elim (or_cases (test e) (same_cell e c) t) [
    | inl k ↦ p.1 e k
    | inr k ↦ subst (λ x. cell_before x d ≡ false) (sym (same_cell-true e c k)) (cell_before-asymmetric d c l)
  ],
)

-- or it doesn't
pub least_taken : (test : Cell → Bool) (d c : Cell) → cell_before d c ≡ false → IsLeastWith test (Some d) → IsLeastWith (λ e. test e || same_cell e c) (Some c)
least_taken test d c l p = (
  or-right (test c) (same_cell c c) (same_cell-refl c),
  λ e t. elim (or_cases (test e) (same_cell e c) t) [
    | inl k ↦ not_before e (p.1 e k)
    | inr k ↦ subst (λ x. cell_before x c ≡ false) (sym (same_cell-true e c k)) (cell_before-irreflexive c)
  ],
)
  where
    not_before : (e : Cell) → cell_before e d ≡ false → cell_before e c ≡ false
    not_before e k = elim (cases_Bool (cell_before e c)) [
      | inr f ↦ f
      | inl t ↦ elim (cases_Bool (same_cell c d)) [
        | inl s ↦ ap (cell_before e) (same_cell-true c d s) ∙ k
        | inr s ↦ absurd (true≢false (sym (before_trans e c d t (before_or c d l s)) ∙ k))
      ]
    ]

pub least_first : (test : Cell → Bool) (c : Cell) → IsLeastWith test None → IsLeastWith (λ e. test e || same_cell e c) (Some c)
least_first test c p = (
  or-right (test c) (same_cell c c) (same_cell-refl c),
  λ e t. elim (or_cases (test e) (same_cell e c) t) [
    | inl k ↦ absurd (true≢false (sym k ∙ p e))
    | inr k ↦ subst (λ x. cell_before x c ≡ false) (sym (same_cell-true e c k)) (cell_before-irreflexive c)
  ],
)

-- ---- steps of the loops, as equations of tests

-- one more neighbour, which passes or not
pub neighbour_open : (t k s o : Bool) → (s ≡ true → o ≡ true) → ((t || (k && o)) || s) ≡ (t || ((k || s) && o))
neighbour_open true k s o h = refl
neighbour_open false true true true h = refl
neighbour_open false true true false h = absurd (true≢false (sym (h refl)))
neighbour_open false true false true h = refl
neighbour_open false true false false h = refl
neighbour_open false false true o h = sym (h refl)
neighbour_open false false false o h = refl

pub neighbour_closed : (t k s o : Bool) → (s ≡ true → o ≡ false) → (t || (k && o)) ≡ (t || ((k || s) && o))
neighbour_closed true k s o h = refl
neighbour_closed false true s o h = refl
neighbour_closed false false true o h = sym (h refl)
neighbour_closed false false false o h = refl

pub cell_joins : (t k s o : Bool) → ((t || (k && o)) || (s && o)) ≡ (t || ((k || s) && o))
cell_joins true k s o = refl
cell_joins false true true true = refl
cell_joins false true true false = refl
cell_joins false true false true = refl
cell_joins false true false false = refl
cell_joins false false s o = refl

pub has_next : (xs : List Cell) (i : ℕ) (r d : Cell) → i < length xs → slice_get xs i ≡ Some r → has (take (i + 1) xs) d ≡ (has (take i xs) d || same_cell d r)
has_next xs i r d less e = list_any_more (same_cell d) xs i r less ∙ ap (λ x. has (take i xs) d || same_cell d x) (get_or_from_slice_get xs i r r e)
