-- Entries of a map from cell lists as variables.
use Rattle.std.proofs.Common.{◌≡◌, refl, sym, ap, subst, ◌∙◌, suc, List, [], ◌∷◌, map, Bool, true, false, cond, inl, inr, Contains, true≢false}
use Rattle.std.specs.Prelude.{Some, is_some, ◌↔◌, IsTrue}
use Rattle.std.specs.List.{AllByRecursion}
use Rattle.std.specs.List.Sorted.{IsStrictlySortedBy}
use Rattle.std.specs.Map.{lookup, keys_of}
use Rattle.std.specs.BTreeMap.{insert_entry}
use Rattle.std.specs.Ordering.{is_eq, is_lt, is_gt, match_ordering}
use Rattle.std.specs.Cmp.Lexicographic.{slice_cmp}
use Rattle.std.specs.declared.cmp.Ordering.{Ordering}
use Rattle.std.specs.declared.cmp.Ordering.TheVariants.{Less, Equal, Greater}
use Rattle.std.proofs.lemmas.Cmp.{tied_itself}
use Rattle.std.proofs.lemmas.Map.Keys.{sorted_head, sorted_tail}
use Rattle.heesch_grid.specs.declared.Cell.{Cell}
use Rattle.heesch_grid.specs.declared.isometries.Iso.{Iso}
use Rattle.heesch_grid.specs.Cells.{cell_cmp, cells_before}
use Rattle.heesch_grid.specs.Listing.{IsRising}
use Rattle.heesch_grid.proofs.ListFacts.{member_cases, member_here, member_there, no_member, All-from_members}
use Rattle.heesch_grid.proofs.OrderFacts.{cells_less, cells_greater}
use Rattle.heesch_grid.proofs.Pinned.{cells_before-total}
use Rattle.heesch_shape.specs.Order.{list_total}
use Rattle.heesch_torus.specs.Variables.{TorusVariable, torus_variable, sets_of, Adds}

-- cell lists that compare equal are one
not_less : (o : Ordering) → o ≡ Equal → is_lt o ≡ false
not_less o e = ap is_lt e

not_greater : (o : Ordering) → o ≡ Equal → is_gt o ≡ false
not_greater o e = ap is_gt e

equal_from_test : (o : Ordering) → is_eq o ≡ true → o ≡ Equal
equal_from_test Less e = absurd (true≢false (sym e))
equal_from_test Equal e = refl
equal_from_test Greater e = absurd (true≢false (sym e))

same_list : (xs ys : List Cell) → slice_cmp cell_cmp xs ys ≡ Equal → xs ≡ ys
same_list xs ys e = cells_before-total xs ys (sym (cells_less xs ys) ∙ not_less (slice_cmp cell_cmp xs ys) e) (sym (cells_greater xs ys) ∙ not_greater (slice_cmp cell_cmp xs ys) e)

module _ {K : Type 0} (items : K → List Cell) where
  abbrev entry : K × Iso → TorusVariable
  entry e = torus_variable (items e.0) e.1

  abbrev pub seen : List (K × Iso) → List TorusVariable
  seen es = map (λ e. torus_variable (items e.0) e.1) es

  abbrev order : K → K → Ordering
  order j k = slice_cmp cell_cmp (items j) (items k)

  -- a look-up finds a set exactly where it is there
  looked_up : (r : List Cell) (es : List (K × Iso)) → is_some (lookup (λ k. is_eq (slice_cmp cell_cmp r (items k))) es) ≡ true → Contains (sets_of (seen es)) r
  looked_up r [] h = absurd (true≢false (sym h))
  looked_up r (e ∷ es) h = by_test (looked_up r es) (is_eq (slice_cmp cell_cmp r (items e.0))) refl h
    where
      by_test : (is_some (lookup (λ k. is_eq (slice_cmp cell_cmp r (items k))) es) ≡ true → Contains (sets_of (seen es)) r) → (b : Bool) → is_eq (slice_cmp cell_cmp r (items e.0)) ≡ b → is_some (cond b (Some e.1) (lookup (λ k. is_eq (slice_cmp cell_cmp r (items k))) es)) ≡ true → Contains (sets_of (seen (e ∷ es))) r
      by_test later true t h = subst (λ z. Contains (sets_of (seen (e ∷ es))) z) (sym (same_list r (items e.0) (equal_from_test (slice_cmp cell_cmp r (items e.0)) t))) (member_here (items e.0) (sets_of (seen es)))
      by_test later false t h = member_there (items e.0) (sets_of (seen es)) r (later h)

  look_up : (r : List Cell) (es : List (K × Iso)) → Contains (sets_of (seen es)) r → is_some (lookup (λ k. is_eq (slice_cmp cell_cmp r (items k))) es) ≡ true
  look_up r [] m = absurd (no_member r m)
  look_up r (e ∷ es) m =
      elim (member_cases (items e.0) (sets_of (seen es)) r m) [
        | inl same ↦
            let tied : slice_cmp cell_cmp r (items e.0) ≡ Equal = ap (slice_cmp cell_cmp r) same ∙ tied_itself list_total r in
            ap (λ b. is_some (cond b (Some e.1) (lookup (λ k. is_eq (slice_cmp cell_cmp r (items k))) es))) (ap is_eq tied)
        | inr h ↦ some_later (is_eq (slice_cmp cell_cmp r (items e.0))) (look_up r es h)
      ]
    where
      some_later : (b : Bool) → is_some (lookup (λ k. is_eq (slice_cmp cell_cmp r (items k))) es) ≡ true → is_some (cond b (Some e.1) (lookup (λ k. is_eq (slice_cmp cell_cmp r (items k))) es)) ≡ true
      some_later true h = refl
      some_later false h = h

  pub found_exactly : (r : List Cell) (es : List (K × Iso)) (b : Bool) → b ≡ is_some (lookup (λ k. is_eq (slice_cmp cell_cmp r (items k))) es) → (b ≡ true) ↔ Contains (sets_of (seen es)) r
  found_exactly r es b e = ((λ t. looked_up r es (sym e ∙ t)), (λ m. e ∙ look_up r es m))

  -- a new set is inserted
  abbrev inserted : List (K × Iso) → K → Iso → List (K × Iso)
  inserted es k by = insert_entry order es k by

  front : (x : TorusVariable) (old : List TorusVariable) → Adds x old (x ∷ old)
  front x old = record { members = λ y. ((λ m. member_cases x old y m), (λ o. elim o [ inl e ↦ subst (λ z. Contains (x ∷ old) z) e (member_here x old) | inr m ↦ member_there x old y m ])); longer = refl }

  further : (x y : TorusVariable) (old new : List TorusVariable) → Adds x old new → Adds x (y ∷ old) (y ∷ new)
  further x y old new a = record {
    members = λ z. (
      (λ m. elim (member_cases y new z m) [
        | inl e ↦ inr (subst (λ w. Contains (y ∷ old) w) e (member_here y old))
        | inr h ↦ elim ((a.members z).0 h) [ inl e ↦ inl e | inr k ↦ inr (member_there y old z k) ]
      ]),
      (λ o. elim o [
        | inl e ↦ member_there y new z ((a.members z).1 (inl e))
        | inr m ↦ elim (member_cases y old z m) [ inl e ↦ subst (λ w. Contains (y ∷ new) w) e (member_here y new) | inr k ↦ member_there y new z ((a.members z).1 (inr k)) ]
      ]),
    );
    longer = ap suc a.longer;
  }

  adds_inserted : (k : K) (by : Iso) (es : List (K × Iso)) → (¬ Contains (sets_of (seen es)) (items k)) → Adds (torus_variable (items k) by) (seen es) (seen (insert_entry order es k by))
  adds_inserted k by [] fresh = front (torus_variable (items k) by) []
  adds_inserted k by (e ∷ es) fresh = by_order (adds_inserted k by es (λ m. fresh (member_there (items e.0) (sets_of (seen es)) (items k) m))) (order k e.0) refl
    where
      by_order : Adds (torus_variable (items k) by) (seen es) (seen (insert_entry order es k by)) → (o : Ordering) → order k e.0 ≡ o → Adds (torus_variable (items k) by) (seen (e ∷ es)) (seen (match_ordering o ((k, by) ∷ e ∷ es) ((e.0, by) ∷ es) (e ∷ insert_entry order es k by)))
      by_order later Less is = front (torus_variable (items k) by) (seen (e ∷ es))
      by_order later Equal is = absurd (fresh (subst (λ z. Contains (sets_of (seen (e ∷ es))) z) (sym (same_list (items k) (items e.0) is)) (member_here (items e.0) (sets_of (seen es)))))
      by_order later Greater is = further (torus_variable (items k) by) (entry e) (seen es) (seen (insert_entry order es k by)) later

  pub adds_seen : (k : K) (by : Iso) (es new : List (K × Iso)) (old : List TorusVariable) → new ≡ insert_entry order es k by → seen es ≡ old → (¬ Contains (sets_of old) (items k)) → Adds (torus_variable (items k) by) old (seen new)
  adds_seen k by es new old e view fresh =
      subst (λ n. Adds (torus_variable (items k) by) old (seen n)) (sym e)
      (subst (λ vs. Adds (torus_variable (items k) by) vs (seen (insert_entry order es k by))) view (adds_inserted k by es (λ m. fresh (subst (λ vs. Contains (sets_of vs) (items k)) view m))))

  -- keys in order are rising sets
  pub rising_seen : (es : List (K × Iso)) → IsStrictlySortedBy order (keys_of es) → IsRising cells_before (sets_of (seen es))
  rising_seen [] s = tt
  rising_seen (e ∷ es) s = (All-from_members (λ y. IsTrue (cells_before (items e.0) y)) (sets_of (seen es)) (after es (sorted_head order e.0 (keys_of es) s)), rising_seen es (sorted_tail order e.0 (keys_of es) s))
    where
      after : (es : List (K × Iso)) → AllByRecursion (λ k. order e.0 k ≡ Less) (keys_of es) → (y : List Cell) → Contains (sets_of (seen es)) y → cells_before (items e.0) y ≡ true
      after [] h y m = absurd (no_member y m)
      after (f ∷ es) h y m =
          elim (member_cases (items f.0) (sets_of (seen es)) y m) [
            | inl same ↦ ap (cells_before (items e.0)) (sym same) ∙ sym (cells_less (items e.0) (items f.0)) ∙ ap is_lt h.0
            | inr k ↦ after es h.1 y k
          ]
