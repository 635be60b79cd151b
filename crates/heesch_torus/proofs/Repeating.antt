-- Sorted lists with and without repeats.
use Rattle.std.proofs.Common.{◌≡◌, ◌≢◌, refl, sym, ap, subst, ◌∙◌, ℕ, zero, suc, ◌+◌, ◌-◌, ◌<◌, ◌≤◌, zero-le, List, [], ◌∷◌, length, filter, get_or, Bool, true, false, not, inl, inr, arith, Contains, true≢false, IsSorted}
use Rattle.std.specs.Prelude.{IsTrue}
use Rattle.std.specs.Ordering.{is_lt}
use Rattle.std.proofs.lemmas.Bool.{cases_Bool, cases_order}
use Rattle.std.proofs.lemmas.List.{get_or_default}
use Rattle.std.proofs.lemmas.List.Elements.{All-contains}
use Rattle.heesch_grid.specs.declared.Cell.{Cell}
use Rattle.heesch_grid.specs.Listing.{IsRising}
use Rattle.heesch_grid.specs.Cells.{same_cell, cell_before, cell_cmp}
use Rattle.heesch_grid.specs.Pairs.{same_cell-true, same_cell-is, same_cell-refl}
use Rattle.heesch_grid.proofs.ListFacts.{member_cases, member_here, member_there, no_member, All-from_members, member_filter, fewer_pass}
use Rattle.heesch_grid.proofs.CellFacts.{cell_before-irreflexive}
use Rattle.heesch_grid.proofs.OrderFacts.{cell_less}
use Rattle.heesch_shape.proofs.Sets.{before_or, before_trans}
use Rattle.heesch_tiling.proofs.Distinct.{Distinct}
use Rattle.heesch_torus.specs.Repeats.{HasRepeat, HasNoRepeat}

abbrev After : Cell → Cell → Type 0
After x y = IsTrue (cell_before x y)

sorted_rest : (x : Cell) (xs : List Cell) → IsSorted cell_cmp (x ∷ xs) → IsSorted cell_cmp xs
sorted_rest x xs s = λ k e low high. let next : suc (k + 1) ≡ suc k + 1 = omega arith in ap (λ n. is_lt (cell_cmp (get_or (x ∷ xs) n e) (get_or xs k e))) next ∙ s (suc k) e (omega arith) (omega arith)

no_repeat_rest : (x : Cell) (xs : List Cell) → HasNoRepeat (x ∷ xs) → HasNoRepeat xs
no_repeat_rest x xs n = record { differ = λ k d l. n.differ (suc k) d (omega arith) }

-- a sorted list without repeats rises
pub rising_from_sorted : (xs : List Cell) → IsSorted cell_cmp xs → HasNoRepeat xs → IsRising cell_before xs
rising_from_sorted [] s n = tt
rising_from_sorted (x ∷ []) s n = (All-from_members (After x) [] (λ y m. absurd (no_member y m)), tt)
rising_from_sorted (x ∷ y ∷ ys) s n =
    let rest : IsRising cell_before (y ∷ ys) = rising_from_sorted (y ∷ ys) (sorted_rest x (y ∷ ys) s) (no_repeat_rest x (y ∷ ys) n) in
    let apart : same_cell x y ≡ false = elim (cases_Bool (same_cell x y)) [ inl e ↦ absurd (n.differ 0 x (omega arith) (same_cell-true x y e)) | inr f ↦ f ] in
    let first : cell_before x y ≡ true = before_or x y (sym (cell_less y x) ∙ s 0 x (omega arith) (omega arith)) apart in (
      All-from_members (After x) (y ∷ ys) (λ z m. elim (member_cases y ys z m) [
        | inl e ↦ subst (λ w. cell_before x w ≡ true) e first
        | inr h ↦ before_trans x y z first (All-contains (After y) ys z rest.0 h)
      ]),
      rest,
    )

-- a shorter list with the same members
pub record Shorter (xs : List Cell) : Type 0 where
  pub list : List Cell
  pub less : length list < length xs
  pub keeps : (c : Cell) → Contains xs c → Contains list c

pub shorter : (xs : List Cell) (at : ℕ) → suc at < length xs → ((d : Cell) → get_or xs at d ≡ get_or xs (suc at) d) → Shorter xs
shorter [] at l e = absurd (omega arith)
shorter (x ∷ []) at l e = absurd (omega arith)
shorter (x ∷ y ∷ ys) zero l e = record {
  list = y ∷ ys;
  less = omega arith;
  keeps = λ c m. elim (member_cases x (y ∷ ys) c m) [ inl p ↦ subst (λ z. Contains (y ∷ ys) z) (sym (e x) ∙ p) (member_here y ys) | inr h ↦ h ];
}
shorter (x ∷ y ∷ ys) (suc at) l e =
    let r : Shorter (y ∷ ys) = shorter (y ∷ ys) at (omega arith) e in
    record {
      list = x ∷ r.list;
      less = let less = r.less in omega arith;
      keeps = λ c m. elim (member_cases x (y ∷ ys) c m) [
        | inl p ↦ subst (λ z. Contains (x ∷ r.list) z) p (member_here x r.list)
        | inr h ↦ member_there x r.list c (r.keeps c h)
      ];
    }

all_pass : (ys : List Cell) → length (filter (λ _. true) ys) ≡ length ys
all_pass [] = refl
all_pass (y ∷ ys) = ap suc (all_pass ys)

-- a list without repeats whose members are all in another is no longer than that
pub distinct_fits : (xs ys : List Cell) → Distinct xs → ((c : Cell) → Contains xs c → Contains ys c) → length xs ≤ length ys
distinct_fits [] ys d inside = zero-le
distinct_fits (x ∷ xs) ys d inside =
    let others : Cell → Bool = λ c. not (same_cell x c) in
    let rest = distinct_fits xs (filter others ys) d.1 (λ c m. member_filter others ys c (inside c (member_there x xs c m)) (differs c m)) in
    let fewer = fewer_pass (λ _. true) others (λ c t. refl) ys x (inside x (member_here x xs)) refl (ap not (same_cell-refl x)) in
    let all = all_pass ys in
    omega arith
  where
    differs : (c : Cell) → Contains xs c → not (same_cell x c) ≡ true
    differs c m = elim (cases_Bool (same_cell x c)) [
      | inl e ↦ absurd (d.0 (subst (λ z. Contains xs z) (sym (same_cell-true x c e)) m))
      | inr f ↦ ap not f
    ]

pub rising_distinct : (xs : List Cell) → IsRising cell_before xs → Distinct xs
rising_distinct [] r = tt
rising_distinct (x ∷ xs) r = ((λ m. true≢false (sym (All-contains (After x) xs x r.0 m) ∙ cell_before-irreflexive x)), rising_distinct xs r.1)

pub fits : (xs ys : List Cell) → IsRising cell_before xs → ((c : Cell) → Contains xs c → Contains ys c) → length xs ≤ length ys
fits xs ys rising inside = distinct_fits xs ys (rising_distinct xs rising) inside

-- two neighbours that are one, and one more pair of neighbours that aren't
pub repeat_at : (xs : List Cell) (i : ℕ) (d : Cell) → 1 ≤ i → i < length xs → same_cell (get_or xs (i - 1) d) (get_or xs i d) ≡ true → HasRepeat xs
repeat_at xs i d some less same =
    let next : suc (i - 1) ≡ i = omega arith in
    record {
      at = i - 1;
      below = omega arith;
      same = λ e. get_or_default xs (i - 1) e d (omega arith) ∙ same_cell-true (get_or xs (i - 1) d) (get_or xs i d) same ∙ get_or_default xs i d e less ∙ ap (λ n. get_or xs n e) (sym next);
    }

pub differ_more : (xs : List Cell) (i : ℕ) (d : Cell) → 1 ≤ i → i < length xs → same_cell (get_or xs (i - 1) d) (get_or xs i d) ≡ false → ((k : ℕ) (e : Cell) → suc k < i → get_or xs k e ≢ get_or xs (suc k) e) → (k : ℕ) (e : Cell) → suc k < i + 1 → get_or xs k e ≢ get_or xs (suc k) e
differ_more xs i d some less apart before k e l =
    elim (cases_order (suc k) i) [
      | inl last ↦ λ same.
          let at : k ≡ i - 1 = omega arith in
          let cells : get_or xs (i - 1) d ≡ get_or xs i d = get_or_default xs (i - 1) d e (omega arith) ∙ ap (λ n. get_or xs n e) (sym at) ∙ same ∙ ap (λ n. get_or xs n e) last ∙ get_or_default xs i e d less in
          true≢false (sym (same_cell-is (get_or xs (i - 1) d) (get_or xs i d) cells) ∙ apart)
      | inr o ↦ elim o [ inl earlier ↦ before k e earlier | inr later ↦ absurd (omega arith) ]
    ]
