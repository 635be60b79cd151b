-- Marks of cells in a box: one more mark, and the list of the cells that have one.
use Rattle.std.proofs.Common.{◌≡◌, refl, sym, ap, subst, ◌∙◌, ℕ, ◌+◌, ◌<◌, ◌≤◌, Bool, true, false, ◌&&◌, ◌||◌, List, [], ◌∷◌, ◌++◌, length, get_or, set, ◌⊎◌, inl, inr, arith, true≢false, Contains}
use Rattle.std.specs.Prelude.{IsTrue}
use Rattle.std.proofs.lemmas.List.{get_or-set_same, get_or-set_other}
use Rattle.std.proofs.lemmas.List.Elements.{All-contains, Contains-append_left, Contains-append_right, Contains-append_cases}
use Rattle.std.proofs.lemmas.Bool.{and_parts, and_from, cases_lt}
use Rattle.heesch_grid.specs.declared.Cell.{Cell}
use Rattle.heesch_grid.specs.Listing.{IsRising, ListsExactly}
use Rattle.heesch_grid.specs.Cells.{cell_before, same_cell}
use Rattle.heesch_grid.specs.Pairs.{same_cell-true, same_cell-is}
use Rattle.heesch_grid.proofs.ListFacts.{All-from_members, member_cases, member_here, no_member}
use Rattle.heesch_index.specs.declared.cell_box.CellBox.{CellBox}
use Rattle.heesch_index.specs.Marking.{Marked, is_marked}
use Rattle.heesch_index.specs.Boxes.{place, area, is_inside}
use Rattle.heesch_index.proofs.BoxFacts.{place_below, place_same, place_before}

-- the marks of a box
abbrev pub marked_in : CellBox → List Bool → Marked
marked_in box marks = record { low = box.low; high = box.high; wide = box.wide; marks = marks }

-- ---- one more mark

one_more : (inside old same new : Bool) → (same ≡ true → (inside ≡ true) × (new ≡ true)) → (same ≡ false → inside ≡ true → new ≡ old) → (inside && new) ≡ ((inside && old) || same)
one_more true true true new f g = (f refl).1
one_more true true false new f g = g refl refl
one_more true false true new f g = (f refl).1
one_more true false false new f g = g refl refl
one_more false old true new f g = absurd (true≢false (sym (f refl).0))
one_more false old false new f g = refl

module _ (box : CellBox) (marks : List Bool) where
  pub marked_more : (x : Cell) → is_inside box x ≡ true → length marks ≡ area box → (c : Cell) → is_marked (marked_in box (set marks (place box x) true)) c ≡ (is_marked (marked_in box marks) c || same_cell x c)
  marked_more x h long c =
      let below : place box x < length marks = let l = place_below box x h in omega (arith, l, long) in
      one_more (is_inside box c) (get_or marks (place box c) false) (same_cell x c) (get_or (set marks (place box x) true) (place box c) false)
      (λ same. let e = same_cell-true x c same in (
        subst (λ d. is_inside box d ≡ true) e h,
        subst (λ d. get_or (set marks (place box x) true) (place box d) false ≡ true) e (get_or-set_same marks (place box x) true false below),
      ))
      (λ other inside. get_or-set_other marks (place box x) (place box c) true false (λ e. true≢false (sym (same_cell-is x c (place_same box x c h inside (sym e))) ∙ other)))

  -- ---- the list

  -- the list has the cells with a mark whose place is below `most`, in cell order
  abbrev pub IsListed : ℕ → List Cell → Type 0
  IsListed most cells =
      ListsExactly cell_before (λ c. (is_marked (marked_in box marks) c ≡ true) × (place box c < most)) cells

  parts : (c : Cell) → is_marked (marked_in box marks) c ≡ true → (is_inside box c ≡ true) × (get_or marks (place box c) false ≡ true)
  parts c h = and_parts (is_inside box c) (get_or marks (place box c) false) h

  rising_last : (xs : List Cell) (c : Cell) → IsRising cell_before xs → ((x : Cell) → Contains xs x → cell_before x c ≡ true) → IsRising cell_before (xs ++ c ∷ [])
  rising_last [] c r h = (All-from_members (λ y. IsTrue (cell_before c y)) [] (λ y m. absurd (no_member y m)), tt)
  rising_last (x ∷ xs) c r h = (
    All-from_members (λ y. IsTrue (cell_before x y)) (xs ++ c ∷ []) (λ y m. elim (Contains-append_cases xs (c ∷ []) y m) [
      | inl k ↦ All-contains (λ y. IsTrue (cell_before x y)) xs y r.0 k
      | inr k ↦ subst (λ z. cell_before x z ≡ true) (one c y k) (h x (member_here x xs))
    ]),
    rising_last xs c r.1 (λ y m. h y (Contains-append_right (x ∷ []) xs y m)),
  )
    where
      one : (c y : Cell) → Contains (c ∷ []) y → c ≡ y
      one c y k = elim (member_cases c [] y k) [ inl e ↦ e | inr n ↦ absurd (no_member y n) ]

  last_place : (m n : ℕ) → m < n + 1 → (m < n) ⊎ (m ≡ n)
  last_place m n l = elim (cases_lt m n) [ inl k ↦ inl k | inr k ↦ inr (omega (arith, l, k)) ]

  pub listed_more : (at : ℕ) (c : Cell) (xs : List Cell) → is_inside box c ≡ true → place box c ≡ at → get_or marks at false ≡ true → IsListed at xs → IsListed (at + 1) (xs ++ c ∷ [])
  listed_more at c xs inside p h old =
      let P : Cell → Type 0 = λ c. (is_marked (marked_in box marks) c ≡ true) × (place box c < at) in
      let Q : Cell → Type 0 = λ c. (is_marked (marked_in box marks) c ≡ true) × (place box c < at + 1) in
      let marked : is_marked (marked_in box marks) c ≡ true = and_from (is_inside box c) (get_or marks (place box c) false) inside (ap (λ n. get_or marks n false) p ∙ h) in
      record {
        rising = rising_last xs c old.rising (λ x m. let q = All-contains P xs x old.only m in place_before box x c (parts x q.0).0 inside (let l = q.1 in omega (arith, l, p)));
        only = All-from_members Q (xs ++ c ∷ []) (λ x m. elim (Contains-append_cases xs (c ∷ []) x m) [
          | inl k ↦ let q = All-contains P xs x old.only k in (q.0, let l = q.1 in omega (arith, l))
          | inr k ↦ elim (member_cases c [] x k) [ inl e ↦ subst Q e (marked, omega (arith, p)) | inr n ↦ absurd (no_member x n) ]
        ]);
        every = λ x q. elim (last_place (place box x) at q.1) [
          | inl l ↦ Contains-append_left xs (c ∷ []) x (old.every x (q.0, l))
          | inr e ↦ Contains-append_right xs (c ∷ []) x (subst (λ z. Contains (c ∷ []) z) (place_same box c x inside (parts x q.0).0 (p ∙ sym e)) (member_here c []))
        ];
      }

  pub listed_same : (at : ℕ) (xs : List Cell) → get_or marks at false ≡ false → IsListed at xs → IsListed (at + 1) xs
  listed_same at xs h old =
      let P : Cell → Type 0 = λ c. (is_marked (marked_in box marks) c ≡ true) × (place box c < at) in
      let Q : Cell → Type 0 = λ c. (is_marked (marked_in box marks) c ≡ true) × (place box c < at + 1) in
      record {
        rising = old.rising;
        only = All-from_members Q xs (λ x m. let q = All-contains P xs x old.only m in (q.0, let l = q.1 in omega (arith, l)));
        every = λ x q. elim (last_place (place box x) at q.1) [
          | inl l ↦ old.every x (q.0, l)
          | inr e ↦ absurd (true≢false (sym (parts x q.0).1 ∙ ap (λ n. get_or marks n false) e ∙ h))
        ];
      }

  pub listed_none : IsListed 0 []
  listed_none =
      record { rising = tt; only = All-from_members (λ c. (is_marked (marked_in box marks) c ≡ true) × (place box c < 0)) [] (λ x m. absurd (no_member x m)); every = λ x q. let l = q.1 in absurd (omega (arith, l)) }

  pub listed_all : (at : ℕ) (xs : List Cell) → area box ≤ at → IsListed at xs → ListsExactly cell_before (λ c. is_marked (marked_in box marks) c ≡ true) xs
  listed_all at xs l old =
      let P : Cell → Type 0 = λ c. (is_marked (marked_in box marks) c ≡ true) × (place box c < at) in
      record {
        rising = old.rising;
        only = All-from_members (λ c. is_marked (marked_in box marks) c ≡ true) xs (λ x m. (All-contains P xs x old.only m).0);
        every = λ x q. old.every x (q, let b = place_below box x (parts x q).0 in omega (arith, b, l));
      }
