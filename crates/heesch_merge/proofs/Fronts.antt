-- Two rising lists are merged from their fronts.
use Rattle.std.proofs.Common.{◌≡◌, ◌<◌, true, false, List, [], ◌∷◌, ◌++◌, length, Contains, All, ◌⊎◌, inl, inr, ⊎_elim, Ordering, refl, sym, ap, ◌∙◌, subst, arith}
use Rattle.std.specs.Prelude.{Option, Some, None, IsTrue, IsSome, IfSome, IfNone, option_to_list}
use Rattle.std.specs.declared.cmp.Ordering.TheVariants.{Less, Equal, Greater}
use Rattle.std.specs.Ordering.{is_lt, is_gt}
use Rattle.std.specs.Cmp.Lexicographic.{slice_cmp}
use Rattle.std.proofs.lemmas.List.{append_assoc, append-nil}
use Rattle.std.proofs.lemmas.List.Elements.{All-cons, All-nil, All-head, All-tail, All-contains, Contains-append_left, Contains-append_right, Contains-append_cases}
use Rattle.heesch_grid.specs.declared.Cell.{Cell}
use Rattle.heesch_grid.specs.Listing.{IsRising, ListsExactly}
use Rattle.heesch_grid.specs.Cells.{cell_cmp, cells_before}
use Rattle.heesch_grid.proofs.ListFacts.{member_cases, member_here, member_there, no_member, All-from_members}
use Rattle.heesch_grid.proofs.OrderFacts.{cells_less, cells_greater}
use Rattle.heesch_grid.proofs.Pinned.{cells_before-total}
use Rattle.heesch_shape.proofs.ListOrder.{before_transitive}
use Rattle.heesch_merge.specs.Union.{IsInOne, first_of, compared_options, BeginsWith, ComesBefore, TakesLeast}

abbrev Lists : Type 0
Lists = List (List Cell)

abbrev IsAfter : List Cell → List Cell → Type 0
IsAfter x y = IsTrue (cells_before y x)

-- ---- rising lists

-- what is inserted comes after the front and before the back
all_insert : (P : List Cell → Type 0) (ys : Lists) (x : List Cell) (zs : Lists) → All P (ys ++ zs) → P x → All P (ys ++ x ∷ zs)
all_insert P [] x zs h p = All-cons P x zs p h
all_insert P (y ∷ ys) x zs h p = All-cons P y (ys ++ x ∷ zs) (All-head P y (ys ++ zs) h) (all_insert P ys x zs (All-tail P y (ys ++ zs) h) p)

rising_insert : (ys : Lists) (x : List Cell) (zs : Lists) → IsRising cells_before (ys ++ zs) → All (IsAfter x) ys → All (λ z. IsAfter z x) zs → IsRising cells_before (ys ++ x ∷ zs)
rising_insert [] x zs r a b = (b, r)
rising_insert (y ∷ ys) x zs r a b = (all_insert (λ z. IsAfter z y) ys x zs r.0 (All-head (IsAfter x) y ys a), rising_insert ys x zs r.1 (All-tail (IsAfter x) y ys a) b)

-- in a rising list what stands in front of an item comes before it, and the back is rising
rising_front : (ys : Lists) (x : List Cell) (zs : Lists) → IsRising cells_before (ys ++ x ∷ zs) → All (IsAfter x) ys
rising_front [] x zs r = All-nil (IsAfter x)
rising_front (y ∷ ys) x zs r =
    All-cons (IsAfter x) y ys
    (All-contains (λ z. IsAfter z y) (ys ++ x ∷ zs) x r.0 (Contains-append_right ys (x ∷ zs) x (member_here x zs)))
    (rising_front ys x zs r.1)

rising_back : (ys zs : Lists) → IsRising cells_before (ys ++ zs) → IsRising cells_before zs
rising_back [] zs r = r
rising_back (y ∷ ys) zs r = rising_back ys zs r.1

-- ---- the least of two first items

-- x comes before the first item of a rising list, and so before all of it
below : (l : Lists) (x : List Cell) → ((y : List Cell) → first_of l ≡ Some y → cells_before x y ≡ true) → IsRising cells_before l → All (λ z. IsAfter z x) l
below [] x before rising = All-nil (λ z. IsAfter z x)
below (y ∷ ys) x before rising =
    All-cons (λ z. IsAfter z x) y ys (before y refl)
    (All-from_members (λ z. IsAfter z x) ys (λ z m. before_transitive x y z (before y refl) (All-contains (λ w. IsAfter w y) ys z rising.0 m)))

first_from : (l l' : Lists) (x : List Cell) → BeginsWith x l l' → first_of l ≡ Some x
first_from l l' x e = ap first_of e

pub taken_left : (l l' r : Lists) (o : Option (List Cell)) → compared_options (first_of l) (first_of r) ≡ Less → l ≡ option_to_list o ++ l' → IsRising cells_before r → IfSome o (λ x. TakesLeast x l l' r r)
taken_left l l' r None less e rising = tt
taken_left l l' r (Some x) less e rising = inr (inl (e, (refl, below r x before rising)))
  where
    before : (y : List Cell) → first_of r ≡ Some y → cells_before x y ≡ true
    before y is =
        let is_less : slice_cmp cell_cmp x y ≡ Less = ap (compared_options (Some x)) (sym is) ∙ ap (λ (o : Option (List Cell)). compared_options o (first_of r)) (sym (first_from l l' x e)) ∙ less in
        sym (cells_less x y) ∙ ap is_lt is_less

pub taken_right : (l r r' : Lists) (o : Option (List Cell)) → compared_options (first_of l) (first_of r) ≡ Greater → r ≡ option_to_list o ++ r' → IsRising cells_before l → IfSome o (λ x. TakesLeast x l l r r')
taken_right l r r' None more e rising = tt
taken_right l r r' (Some x) more e rising = inr (inr ((refl, below l x before rising), e))
  where
    before : (y : List Cell) → first_of l ≡ Some y → cells_before x y ≡ true
    before y is =
        let is_more : slice_cmp cell_cmp y x ≡ Greater = ap (λ (o : Option (List Cell)). compared_options o (Some x)) (sym is) ∙ ap (compared_options (first_of l)) (sym (first_from r r' x e)) ∙ more in
        sym (cells_greater y x) ∙ ap is_gt is_more

equal_is : (x y : List Cell) → slice_cmp cell_cmp x y ≡ Equal → x ≡ y
equal_is x y e = cells_before-total x y (sym (cells_less x y) ∙ ap is_lt e) (sym (cells_greater x y) ∙ ap is_gt e)

-- where the first items are the same, both lists give it up, or both are empty
pub taken_both : (l l' r r' : Lists) (o p : Option (List Cell)) → compared_options (first_of l) (first_of r) ≡ Equal → l ≡ option_to_list o ++ l' → r ≡ option_to_list p ++ r' → (0 < length r → IsSome p) → IfSome o (λ x. TakesLeast x l l' r r')
taken_both l l' r r' None p same e f has = tt
taken_both l l' [] r' (Some x) None same e f has =
    absurd (let is : compared_options (Some x) None ≡ Equal = ap (λ (k : Option (List Cell)). compared_options k None) (sym (first_from l l' x e)) ∙ same in let n : ⊥ = cc in n)
taken_both l l' (y ∷ ys) r' (Some x) None same e f has = absurd (let some : false ≡ true = has (omega arith) in let n : ⊥ = cc in n)
taken_both l l' r r' (Some x) (Some y) same e f has =
    let is : slice_cmp cell_cmp x y ≡ Equal = ap (compared_options (Some x)) (sym (first_from r r' y f)) ∙ ap (λ (k : Option (List Cell)). compared_options k (first_of r)) (sym (first_from l l' x e)) ∙ same in
    inl (e, subst (λ (z : List Cell). r ≡ z ∷ r') (sym (equal_is x y is)) f)

pub taken_none : (l r : Lists) (o : Option (List Cell)) → compared_options (first_of l) (first_of r) ≡ Equal → (0 < length l → IsSome o) → IfNone o ((l ≡ []) × (r ≡ []))
taken_none l r (Some x) same has = tt
taken_none [] [] None same has = (refl, refl)
taken_none [] (y ∷ ys) None same has = absurd (let n : ⊥ = cc in n)
taken_none (x ∷ xs) r None same has = absurd (let some : false ≡ true = has (omega arith) in let n : ⊥ = cc in n)

-- ---- the state of a merge: what was merged, and what is left of each list, which comes after it

pub record IsMerging (all_left all_right left right merged : Lists) : Type 0 where
  pub left_rising : IsRising cells_before (merged ++ left)
  pub right_rising : IsRising cells_before (merged ++ right)
  pub only_left : (x : List Cell) → Contains left x → Contains all_left x
  pub only_right : (x : List Cell) → Contains right x → Contains all_right x
  pub only : (x : List Cell) → Contains merged x → IsInOne all_left all_right x
  pub every_left : (x : List Cell) → Contains all_left x → Contains left x ⊎ Contains merged x
  pub every_right : (x : List Cell) → Contains all_right x → Contains right x ⊎ Contains merged x

pub left_stays : (l r left right m : Lists) → IsMerging l r left right m → IsRising cells_before left
left_stays l r left right m g = rising_back m left g.left_rising

pub right_stays : (l r left right m : Lists) → IsMerging l r left right m → IsRising cells_before right
right_stays l r left right m g = rising_back m right g.right_rising

-- one of the lists, where x was its first item or comes before it
module _ (x : List Cell) (old new : Lists) (step : BeginsWith x old new ⊎ ComesBefore x old new) where
  fewer_members : (y : List Cell) → Contains new y → Contains old y
  fewer_members y m = ⊎_elim (λ e. subst (λ (l : Lists). Contains l y) (sym e) (member_there x new y m)) (λ a. subst (λ (l : Lists). Contains l y) a.0 m) step

  members_split : (merged : Lists) (y : List Cell) → Contains old y ⊎ Contains merged y → Contains new y ⊎ Contains (merged ++ x ∷ []) y
  members_split merged y (inr m) = inr (Contains-append_left merged (x ∷ []) y m)
  members_split merged y (inl m) = ⊎_elim (λ e. from_front e) (λ a. inl (subst (λ (l : Lists). Contains l y) (sym a.0) m)) step
    where
      from_front : BeginsWith x old new → Contains new y ⊎ Contains (merged ++ x ∷ []) y
      from_front e = ⊎_elim
          (λ s. inr (subst (λ (z : List Cell). Contains (merged ++ x ∷ []) z) s (Contains-append_right merged (x ∷ []) x (member_here x []))))
          (λ k. inl k)
          (member_cases x new y (subst (λ (l : Lists). Contains l y) e m))

  rising_step : (merged : Lists) → IsRising cells_before (merged ++ old) → All (IsAfter x) merged → IsRising cells_before ((merged ++ x ∷ []) ++ new)
  rising_step merged r a = subst (IsRising cells_before) (sym (append_assoc merged (x ∷ []) new)) (⊎_elim
      (λ e. subst (λ (l : Lists). IsRising cells_before (merged ++ l)) e r)
      (λ k. subst (λ (l : Lists). IsRising cells_before (merged ++ x ∷ l)) (sym k.0) (rising_insert merged x old r a k.1)) step)

-- where x was the first item of a list, it comes after what was merged
after_merged : (x : List Cell) (old new merged : Lists) → BeginsWith x old new → IsRising cells_before (merged ++ old) → All (IsAfter x) merged
after_merged x old new merged e r = rising_front merged x new (subst (λ (l : Lists). IsRising cells_before (merged ++ l)) e r)

was_inside : (x : List Cell) (old new : Lists) → BeginsWith x old new → Contains old x
was_inside x old new e = subst (λ (l : Lists). Contains l x) (sym e) (member_here x new)

module _ (x : List Cell) (l r left left' right right' merged : Lists) (g : IsMerging l r left right merged) (steps : TakesLeast x left left' right right') where
  left_step : BeginsWith x left left' ⊎ ComesBefore x left left'
  left_step = ⊎_elim (λ t. inl t.0) (λ t. ⊎_elim (λ u. inl u.0) (λ u. inr u.0) t) steps

  right_step : BeginsWith x right right' ⊎ ComesBefore x right right'
  right_step = ⊎_elim (λ t. inl t.1) (λ t. ⊎_elim (λ u. inr u.1) (λ u. inl u.1) t) steps

  after : All (IsAfter x) merged
  after = ⊎_elim (λ t. after_merged x left left' merged t.0 g.left_rising) (λ t. ⊎_elim (λ u. after_merged x left left' merged u.0 g.left_rising) (λ u. after_merged x right right' merged u.1 g.right_rising) t) steps

  inside : IsInOne l r x
  inside = ⊎_elim (λ t. inl (g.only_left x (was_inside x left left' t.0))) (λ t. ⊎_elim (λ u. inl (g.only_left x (was_inside x left left' u.0))) (λ u. inr (g.only_right x (was_inside x right right' u.1))) t) steps

  merging_step : IsMerging l r left' right' (merged ++ x ∷ [])
  merging_step = record {
    left_rising = rising_step x left left' left_step merged g.left_rising after;
    right_rising = rising_step x right right' right_step merged g.right_rising after;
    only_left = λ y m. g.only_left y (fewer_members x left left' left_step y m);
    only_right = λ y m. g.only_right y (fewer_members x right right' right_step y m);
    only = λ y m. ⊎_elim (λ k. g.only y k) (λ k. ⊎_elim (λ e. subst (IsInOne l r) e inside) (λ n. absurd (no_member y n)) (member_cases x [] y k)) (Contains-append_cases merged (x ∷ []) y m);
    every_left = λ y m. members_split x left left' left_step merged y (g.every_left y m);
    every_right = λ y m. members_split x right right' right_step merged y (g.every_right y m);
  }

pub merging_pushed : (l r left left' right right' merged merged' : Lists) (x : List Cell) → IsMerging l r left right merged → TakesLeast x left left' right right' → merged' ≡ merged ++ x ∷ [] → IsMerging l r left' right' merged'
merging_pushed l r left left' right right' merged merged' x g steps e = subst (IsMerging l r left' right') (sym e) (merging_step x l r left left' right right' merged g steps)

merging_last : (l r m : Lists) → IsMerging l r [] [] m → ListsExactly cells_before (IsInOne l r) m
merging_last l r m g = record {
  rising = subst (IsRising cells_before) (append-nil m) g.left_rising;
  only = All-from_members (IsInOne l r) m g.only;
  every = λ x h. ⊎_elim (λ a. ⊎_elim (λ n. absurd (no_member x n)) (λ k. k) (g.every_left x a)) (λ b. ⊎_elim (λ n. absurd (no_member x n)) (λ k. k) (g.every_right x b)) h;
}

pub merging_ended : (l r left right merged : Lists) → IsMerging l r left right merged → (left ≡ []) × (right ≡ []) → ListsExactly cells_before (IsInOne l r) merged
merging_ended l r left right m g none =
    merging_last l r m
    (subst (λ (k : Lists). IsMerging l r [] k m) none.1
    (subst (λ (k : Lists). IsMerging l r k right m) none.0 g))

-- ---- where one list is empty, the other has all

pub only_right_left : (l r : Lists) → length l ≡ 0 → IsRising cells_before r → ListsExactly cells_before (IsInOne l r) r
only_right_left [] r none rising = record {
  rising = rising;
  only = All-from_members (IsInOne [] r) r (λ x m. inr m);
  every = λ x h. ⊎_elim (λ n. absurd (no_member x n)) (λ m. m) h;
}
only_right_left (x ∷ xs) r none rising = absurd (omega (arith, none))

pub only_left_left : (l r : Lists) → length r ≡ 0 → IsRising cells_before l → ListsExactly cells_before (IsInOne l r) l
only_left_left l [] none rising = record {
  rising = rising;
  only = All-from_members (IsInOne l []) l (λ x m. inl m);
  every = λ x h. ⊎_elim (λ m. m) (λ n. absurd (no_member x n)) h;
}
only_left_left l (x ∷ xs) none rising = absurd (omega (arith, none))
