-- Strictly rising lists: by neighbours, searched, and left by a filter.
use Rattle.std.proofs.Common.{◌≡◌, refl, sym, ap, subst, ◌∙◌, ℕ, zero, suc, ◌+◌, ◌-◌, ◌<◌, ◌≤◌, ◌⊎◌, Bool, true, false, List, [], ◌∷◌, length, get_or, Contains, Result, Ok, Err, Option, Some, None, arith, inl, inr, true≢false, lt-ltb, ltb-true}
use Rattle.std.specs.Prelude.{nat_lt, IsTrue, IfNone, IfSome, is_some}
use Rattle.std.specs.List.{AllAdjacentBelow, slice_get}
use Rattle.std.specs.List.Sorted.{IsBinarySearchResult, IsSortedBy, IsPartitionPoint, IsNonDecreasingBy}
use Rattle.std.specs.Ordering.{is_lt, is_gt, is_ge, ordering_index}
use Rattle.std.specs.declared.cmp.Ordering.{Ordering}
use Rattle.std.specs.Result.{result_ok}
use Rattle.std.specs.declared.cmp.Ordering.TheVariants.{Less, Equal, Greater}
use Rattle.std.proofs.lemmas.Bool.{cases_Bool}
use Rattle.std.proofs.lemmas.Cmp.{then_total, on_total, int_cmp_total}
use Rattle.std.proofs.lemmas.List.{get_or_default}
use Rattle.std.proofs.lemmas.List.Elements.{All-nil, All-cons, All-weaker, All-head}
use Rattle.std.proofs.lemmas.List.Sorted.{searchable_from_sorted}
use Rattle.heesch_grid.specs.declared.Cell.{Cell}
use Rattle.heesch_grid.specs.Listing.{IsRising}
use Rattle.heesch_grid.specs.Cells.{cell_before, cell_cmp, has}
use Rattle.heesch_grid.specs.Pairs.{has-true}
use Rattle.heesch_grid.proofs.CellFacts.{has-is, cell_before-irreflexive, cell_before-asymmetric}
use Rattle.heesch_grid.proofs.ListFacts.{member_at}
use Rattle.heesch_grid.proofs.OrderFacts.{cell_less, cell_greater}

-- ---- by neighbours

module _ {X : Type 0} (before : X → X → Bool) where
  -- each element comes before the next one
  abbrev pub Step : X → X → Type 0
  Step x y = before x y ≡ true

  steps_tail : (x : X) (xs : List X) → AllAdjacentBelow Step (x ∷ xs) (suc (length xs)) → AllAdjacentBelow Step xs (length xs)
  steps_tail x xs h k d l =
      let e : suc k + 1 ≡ suc (k + 1) = omega arith in
      subst (λ n. Step (get_or xs k d) (get_or (x ∷ xs) n d)) e (h (suc k) d (omega arith))

  steps_head : (x y : X) (xs : List X) → AllAdjacentBelow Step (x ∷ y ∷ xs) (suc (suc (length xs))) → Step x y
  steps_head x y xs h =
      let e : 0 + 1 ≡ suc zero = omega arith in
      subst (λ n. Step x (get_or (x ∷ y ∷ xs) n x)) e (h 0 x (omega arith))

  pub rising_from_steps : ((x y z : X) → Step x y → Step y z → Step x z) → (xs : List X) → AllAdjacentBelow Step xs (length xs) → IsRising before xs
  rising_from_steps trans [] h = tt
  rising_from_steps trans (x ∷ []) h = (All-nil (λ y. IsTrue (before x y)), tt)
  rising_from_steps trans (x ∷ y ∷ ys) h =
      let rest : IsRising before (y ∷ ys) = rising_from_steps trans (y ∷ ys) (steps_tail x (y ∷ ys) h) in
      let first = steps_head x y ys h in
      (All-cons (λ z. IsTrue (before x z)) y ys first (All-weaker (λ z. IsTrue (before y z)) (λ z. IsTrue (before x z)) (λ z b. trans x y z first b) ys rest.0), rest)

  step_at : (xs : List X) → IsRising before xs → (k : ℕ) (d : X) → suc k < length xs → Step (get_or xs k d) (get_or xs (suc k) d)
  step_at [] r k d l = absurd (omega arith)
  step_at (x ∷ []) r k d l = absurd (omega arith)
  step_at (x ∷ y ∷ ys) r zero d l = All-head (λ z. IsTrue (before x z)) y ys r.0
  step_at (x ∷ y ∷ ys) r (suc k) d l = step_at (y ∷ ys) r.1 k d (omega arith)

  pub steps_from_rising : (xs : List X) → IsRising before xs → AllAdjacentBelow Step xs (length xs)
  steps_from_rising xs r k d l =
      let e : suc k ≡ k + 1 = omega arith in
      subst (λ n. Step (get_or xs k d) (get_or xs n d)) e (step_at xs r k d (omega arith))

  -- no step at i: the list doesn't rise
  pub not_rising : (xs : List X) (i : ℕ) (d : X) → 1 ≤ i → i < length xs → (Step (get_or xs (i - 1) d) (get_or xs i d) → ⊥) → IsRising before xs → ⊥
  not_rising xs i d low high fails r =
      let same : i - 1 + 1 ≡ i = omega arith in
      fails (subst (λ n. Step (get_or xs (i - 1) d) (get_or xs n d)) same (steps_from_rising xs r (i - 1) d (omega arith)))

  -- what two elements that were read say, whatever stands past the end
  pub step_read : (xs : List X) (i : ℕ) (d : X) → 1 ≤ i → i < length xs → Step (get_or xs (i - 1) d) (get_or xs i d) → (e : X) → Step (get_or xs (i - 1) e) (get_or xs i e)
  step_read xs i d low less h e =
      subst (λ x. Step x (get_or xs i e)) (get_or_default xs (i - 1) d e (omega arith)) (subst (λ y. Step (get_or xs (i - 1) d) y) (get_or_default xs i d e less) h)

pub numbers_transitive : (x y z : ℕ) → nat_lt x y ≡ true → nat_lt y z ≡ true → nat_lt x z ≡ true
numbers_transitive x y z h k = lt-ltb x z (let a = ltb-true x y h in let b = ltb-true y z k in omega arith)

-- ---- searched

cells_sorted : (xs : List Cell) → IsRising cell_before xs → IsSortedBy (λ a b. is_lt (cell_cmp a b)) xs
cells_sorted xs r k d low l =
    cell_less (get_or xs (k + 1) d) (get_or xs k d) ∙ cell_before-asymmetric (get_or xs k d) (get_or xs (k + 1) d) (steps_from_rising cell_before xs r k d l)

searchable : (xs : List Cell) (c : Cell) → IsRising cell_before xs → IsNonDecreasingBy (λ y. ordering_index (cell_cmp y c)) xs
searchable xs c r = searchable_from_sorted (then_total (on_total (λ c. c.b) int_cmp_total) (on_total (λ c. c.a) int_cmp_total)) (λ c. c) xs c (cells_sorted xs r)

not_less : (c d : Cell) → d ≡ c → cell_cmp d c ≡ Less → ⊥
not_less c d e h = true≢false (sym (ap is_lt (ap (λ x. cell_cmp x c) (sym e) ∙ h)) ∙ cell_less c c ∙ cell_before-irreflexive c)

not_greater : (c d : Cell) → d ≡ c → cell_cmp d c ≡ Greater → ⊥
not_greater c d e h = true≢false (sym (ap is_gt (ap (λ x. cell_cmp x c) (sym e) ∙ h)) ∙ cell_greater c c ∙ cell_before-irreflexive c)

parted_without : (xs : List Cell) (c : Cell) (i : ℕ) → IsPartitionPoint (λ y. cell_cmp y c ≡ Less) (λ y. cell_cmp y c ≡ Greater) xs i → Contains xs c → ⊥
parted_without xs c i p m =
    elim (below_or_from m.0 i) [
      | inl l ↦ not_less c (get_or xs m.0 c) m.2 (p.0 m.0 c (omega arith) l)
      | inr l ↦ not_greater c (get_or xs m.0 c) m.2 (p.1 m.0 c l m.1)
    ]
  where
    below_or_from : (k i : ℕ) → (k < i) ⊎ (i ≤ k)
    below_or_from k i = grind arith

-- what a search that found nothing says
pub not_found : (xs : List Cell) (c : Cell) (r : Result ℕ ℕ) → IsRising cell_before xs → IsBinarySearchResult (λ y. cell_cmp y c) xs r → IfNone (result_ok r) (has xs c ≡ false)
not_found xs c (Ok k) rising h = tt
not_found xs c (Err i) rising h =
    elim (cases_Bool (has xs c)) [
      | inl t ↦ absurd (parted_without xs c i (h (searchable xs c rising)) (has-true xs c t))
      | inr f ↦ f
    ]

-- a place that was found or not says whether the cell is there
pub has_by_place : (xs : List Cell) (c : Cell) (o : Option ℕ) → IfSome o (λ at. slice_get xs at ≡ Some c) → IfNone o (has xs c ≡ false) → is_some o ≡ has xs c
has_by_place xs c None some none = sym none
has_by_place xs c (Some at) some none = sym (has-is xs c (member_at xs at c some))

-- what an answer of three says of the two cells
pub no_step : (c d : Cell) (o : Ordering) → o ≡ cell_cmp c d → is_ge o ≡ true → cell_before c d ≡ true → ⊥
no_step c d o e t b = not_both o t (ap is_lt e ∙ cell_less c d ∙ b)
  where
    not_both : (o : Ordering) → is_ge o ≡ true → is_lt o ≡ true → ⊥
    not_both Less t h = true≢false (sym t)
    not_both Equal t h = true≢false (sym h)
    not_both Greater t h = true≢false (sym h)

pub one_step : (c d : Cell) (o : Ordering) → o ≡ cell_cmp c d → is_ge o ≡ false → cell_before c d ≡ true
one_step c d o e f = sym (cell_less c d) ∙ ap is_lt (sym e) ∙ before o f
  where
    before : (o : Ordering) → is_ge o ≡ false → is_lt o ≡ true
    before Less f = refl
    before Equal f = absurd (true≢false f)
    before Greater f = absurd (true≢false f)
