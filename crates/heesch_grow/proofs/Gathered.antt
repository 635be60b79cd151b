-- The children of all parents, and these in rising order.
use Rattle.std.proofs.Common.{◌≡◌, ℕ, zero, suc, ◌+◌, ◌<◌, ◌≤◌, true, false, List, [], ◌∷◌, length, take, get_or, Contains, All, IsPermutation, IsSorted, Ordering, refl, sym, ap, ◌∙◌, subst, arith, inl, inr}
use Rattle.std.specs.Prelude.{IsTrue}
use Rattle.std.specs.declared.cmp.Ordering.TheVariants.{Less, Equal, Greater}
use Rattle.std.specs.List.{AllByRecursion, dedup}
use Rattle.std.specs.List.Sorted.{IsStrictlySortedBy}
use Rattle.std.specs.Ordering.{is_lt, is_gt, is_eq, eq_by_cmp}
use Rattle.std.specs.Cmp.Lexicographic.{slice_cmp}
use Rattle.std.proofs.Math.Seq.{take-length}
use Rattle.std.proofs.lemmas.List.{take_more}
use Rattle.std.proofs.lemmas.List.Elements.{All-cons, All-nil, Contains-append_cases}
use Rattle.std.proofs.lemmas.List.Kept.{Contains-dedup, Contains-from_dedup, IsStrictlySortedBy-dedup}
use Rattle.std.proofs.lemmas.List.Sorted.{Contains-permutation, IsPermutation-sym}
use Rattle.heesch_grid.specs.declared.Cell.{Cell}
use Rattle.heesch_grid.specs.Listing.{IsRising, ListsExactly}
use Rattle.heesch_grid.specs.Cells.{cell_cmp, cells_before, has}
use Rattle.heesch_grid.specs.Geometry.{Geometry, IsGrid}
use Rattle.heesch_grid.specs.Vectors.{IsWithin}
use Rattle.heesch_grid.specs.Polyform.{IsFreePolyform}
use Rattle.heesch_grid.proofs.GrowthOfLists.{image_length}
use Rattle.heesch_shape.proofs.Near.{canonical_within}
use Rattle.heesch_grid.specs.Statements.{IsGrownFrom}
use Rattle.heesch_grid.proofs.ListFacts.{member_cases, member_here, member_there, no_member, All-from_members}
use Rattle.heesch_grid.proofs.OrderFacts.{cells_less, cells_greater}
use Rattle.heesch_grid.proofs.Pinned.{cells_before-total}
use Rattle.heesch_shape.specs.Order.{list_total, list_equivalence}
use Rattle.heesch_grow.specs.Adds.{Adds, IsGrownFromSome}

abbrev Lists : Type 0
Lists = List (List Cell)

-- at a place of the list the default doesn't matter
pub any_default : (xs : Lists) (n : ℕ) (d e : List Cell) → n < length xs → get_or xs n d ≡ get_or xs n e
any_default [] n d e l = absurd (omega arith)
any_default (x ∷ xs) zero d e l = refl
any_default (x ∷ xs) (suc n) d e l = any_default xs n d e (omega arith)

module _ (g : Geometry) (parents : Lists) where
  pub every_none : Adds (IsGrownFromSome g parents) (IsGrownFromSome g []) [] []
  every_none = record { kept = λ r m. m; only = λ r m. inl m; all = λ r h. absurd (no_member h.parent h.inside) }

  pub at_place : (xs : Lists) (n : ℕ) (d : List Cell) → n < length xs → Contains xs (get_or xs n d)
  at_place [] n d l = absurd (omega arith)
  at_place (x ∷ xs) zero d l = member_here x xs
  at_place (x ∷ xs) (suc n) d l = member_there x xs (get_or xs n d) (at_place xs n d (omega arith))

  pub every_more : (n : ℕ) (d : List Cell) (mid new : Lists) → n < length parents → Adds (IsGrownFromSome g parents) (IsGrownFromSome g (take n parents)) [] mid → Adds (IsGrownFrom g (get_or parents n d)) (IsGrownFrom g (get_or parents n d)) mid new → Adds (IsGrownFromSome g parents) (IsGrownFromSome g (take (n + 1) parents)) [] new
  every_more n d mid new less a b = record {
    kept = λ r m. b.kept r (a.kept r m);
    only = λ r m. elim (b.only r m) [ inl h ↦ a.only r h | inr k ↦ inr (record { parent = get_or parents n d; inside = at_place parents n d less; grown = k }) ];
    all = λ r h. elim (Contains-append_cases (take n parents) (get_or parents n d ∷ []) h.parent (subst (λ zs. Contains zs h.parent) (take_more parents n d less) h.inside)) [
      | inl k ↦ b.kept r (a.all r (record { parent = h.parent; inside = k; grown = h.grown }))
      | inr k ↦ elim (member_cases (get_or parents n d) [] h.parent k) [ inl e ↦ b.all r (subst (λ z. IsGrownFrom g z r) (sym e) h.grown) | inr none ↦ absurd (no_member h.parent none) ]
    ];
  }

  pub every_end : (n : ℕ) (new : Lists) → n ≡ length parents → Adds (IsGrownFromSome g parents) (IsGrownFromSome g (take n parents)) [] new → Adds (IsGrownFromSome g parents) (IsGrownFromSome g parents) [] new
  every_end n new e a = subst (λ zs. Adds (IsGrownFromSome g parents) (IsGrownFromSome g zs) [] new) (ap (λ m. take m parents) e ∙ take-length parents) a

-- ---- the order
equal_neither : (o : Ordering) → is_eq o ≡ true → (is_lt o ≡ false)
equal_neither Less e = sym e
equal_neither Equal e = refl
equal_neither Greater e = refl

equal_neither_back : (o : Ordering) → is_eq o ≡ true → (is_gt o ≡ false)
equal_neither_back Less e = refl
equal_neither_back Equal e = refl
equal_neither_back Greater e = sym e

tied_same : (x y : List Cell) → eq_by_cmp (slice_cmp cell_cmp) x y ≡ true → x ≡ y
tied_same x y e =
    let o = slice_cmp cell_cmp x y in
    cells_before-total x y (sym (cells_less x y) ∙ equal_neither o e) (sym (cells_greater x y) ∙ equal_neither_back o e)

before_all : (x : List Cell) (xs : Lists) → AllByRecursion (λ y. slice_cmp cell_cmp x y ≡ Less) xs → All (λ y. IsTrue (cells_before x y)) xs
before_all x [] h = All-nil (λ y. IsTrue (cells_before x y))
before_all x (y ∷ ys) h = All-cons (λ y. IsTrue (cells_before x y)) y ys (sym (cells_less x y) ∙ ap is_lt h.0) (before_all x ys h.1)

rising_of : (xs : Lists) → IsStrictlySortedBy (slice_cmp cell_cmp) xs → IsRising cells_before xs
unfolding IsStrictlySortedBy
rising_of [] h = tt
rising_of (x ∷ xs) h = (before_all x xs h.0, rising_of xs h.1)

-- what is sorted, and then kept once
pub listed : (P : List Cell → Type 0) (all ys zs : Lists) → Adds P P [] all → IsPermutation all ys → IsSorted (slice_cmp cell_cmp) ys → zs ≡ dedup (eq_by_cmp (slice_cmp cell_cmp)) ys → ListsExactly cells_before P zs
listed P all ys zs a p sorted is = record {
  rising = subst (IsRising cells_before) (sym is) (rising_of (dedup (eq_by_cmp (slice_cmp cell_cmp)) ys) (IsStrictlySortedBy-dedup list_total (λ x y. refl) ys sorted));
  only = All-from_members P zs (λ r m. made r (subst (λ ws. Contains ws r) is m));
  every = λ r h. subst (λ ws. Contains ws r) (sym is) (Contains-dedup list_equivalence tied_same ys r (Contains-permutation all ys r p (a.all r h)));
}
  where
    made : (r : List Cell) → Contains (dedup (eq_by_cmp (slice_cmp cell_cmp)) ys) r → P r
    made r m =
        elim (a.only r (Contains-permutation ys all r (back p) (Contains-from_dedup (eq_by_cmp (slice_cmp cell_cmp)) ys r m))) [ inl none ↦ absurd (no_member r none) | inr h ↦ h ]
      where
        back : IsPermutation all ys → IsPermutation ys all
        back p = IsPermutation-sym all ys p

-- ---- free polyforms
pub free_length : (g : Geometry) → IsGrid g → (n : ℕ) (p : List Cell) → IsFreePolyform g n p → length p ≡ n
free_length g law n p f = image_length g law f.cells p f.polyform.is_set.rising f.canonical.is_image ∙ f.size

pub free_near : (g : Geometry) → IsGrid g → (n : ℕ) (p : List Cell) → n ≤ 31 → IsFreePolyform g n p → (c : Cell) → has p c ≡ true → IsWithin 200 c
free_near g law n p small f = let long = free_length g law n p f in canonical_within g law f.cells p f.polyform f.canonical (omega arith)
