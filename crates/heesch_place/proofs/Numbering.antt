-- Variables by their numbers: a binary search, and the numbers that have a cell.
use Rattle.std.proofs.Common.{◌≡◌, ℕ, zero, suc, ◌+◌, ◌-◌, ◌<◌, ◌≤◌, Bool, true, false, cond, ◌||◌, ◌&&◌, ◌==◌, List, [], ◌∷◌, map, filter, length, take, get_or, Contains, Ordering, refl, sym, ap, subst, ◌∙◌, arith, inl, inr, true≢false}
use Rattle.std.specs.Prelude.{IsTrue, Some, None, nat_lt, nat_le, unwrap_or, option_map}
use Rattle.std.specs.declared.cmp.Ordering.TheVariants.{Less, Equal, Greater}
use Rattle.std.specs.Cmp.{IsTotalOrder}
use Rattle.std.specs.Cmp.Lexicographic.{slice_cmp}
use Rattle.std.specs.List.{enumerate_from, slice_get, HoldsAt}
use Rattle.std.specs.List.Sorted.{IsNonDecreasingBy, IsPartitionedBy, IsPartitionPoint}
use Rattle.std.specs.Ordering.{is_lt, is_eq, nat_cmp, ordering_index, ordering_then, ordering_reverse}
use Rattle.std.proofs.Math.Seq.{take-length}
use Rattle.std.proofs.lemmas.Bool.{and_parts, or_cases, cases_lt, le-leb, eqb-true, ltb-true}
use Rattle.std.proofs.lemmas.Bool.Decides.{nat_tests}
use Rattle.std.proofs.lemmas.Cmp.{then_total, on_total, nat_cmp_total, tied_itself}
use Rattle.std.proofs.lemmas.List.Elements.{All-contains}
use Rattle.std.proofs.lemmas.List.Sorted.{IsPartitionedBy-leb, IsNonDecreasingBy-from_default}
use Rattle.std.proofs.lemmas.Option.{slice_get-map, get_or_from_slice_get}
use Rattle.heesch_grid.specs.declared.Cell.{Cell}
use Rattle.heesch_grid.specs.Cells.{cell_cmp, cells_before, has}
use Rattle.heesch_grid.specs.CoronaFormula.{Variable, variable_before, covers, IsNumbered}
use Rattle.heesch_grid.specs.Integers.{same_truth}
use Rattle.heesch_grid.specs.Listing.{IsRising}
use Rattle.heesch_grid.proofs.ClauseFacts.{entry_at}
use Rattle.heesch_grid.proofs.ListFacts.{member_here, member_there, member_at as member_of_get}
use Rattle.heesch_grid.proofs.OrderFacts.{cells_less}
use Rattle.heesch_shape.specs.Order.{list_total}
use Rattle.heesch_index.specs.Covering.{numbers_with}
use Rattle.heesch_index.proofs.NumberFacts.{IsRising-numbers_with, numbers_with-at}
use Rattle.heesch_place.specs.Universes.{covering, level_at, variable_cmp}
use Rattle.heesch_place.proofs.Gathering.{member_at, any_default}
use Rattle.heesch_place.proofs.Sorting.{tied_lists}

-- ---- the order of variables
variable_total : IsTotalOrder variable_cmp
variable_total = then_total (on_total (λ (x : Variable). x.level) nat_cmp_total) (on_total (λ (x : Variable). x.tile) list_total)

nat_less : (m n : ℕ) → is_lt (nat_cmp m n) ≡ nat_lt m n
nat_less m n = same_truth (is_lt (nat_cmp m n)) (nat_lt m n) (λ h. grind (arith, nat_tests)) (λ h. grind (arith, nat_tests))

nat_equal : (m n : ℕ) → is_eq (nat_cmp m n) ≡ (m == n)
nat_equal m n = same_truth (is_eq (nat_cmp m n)) (m == n) (λ h. grind (arith, nat_tests)) (λ h. grind (arith, nat_tests))

then_less : (o r : Ordering) → is_lt (ordering_then o r) ≡ (is_lt o || (is_eq o && is_lt r))
then_less Less r = refl
then_less Equal r = refl
then_less Greater r = refl

before_cmp : (x y : Variable) → is_lt (variable_cmp x y) ≡ variable_before x y
before_cmp x y =
    then_less (nat_cmp x.level y.level) (slice_cmp cell_cmp x.tile y.tile)
    ∙ (λ i. nat_less x.level y.level i || (nat_equal x.level y.level i && cells_less x.tile y.tile i))

lt_is : (o : Ordering) → is_lt o ≡ true → o ≡ Less
lt_is Less h = refl
lt_is Equal h = absurd (true≢false (sym h))
lt_is Greater h = absurd (true≢false (sym h))

before_less : (x y : Variable) → variable_before x y ≡ true → variable_cmp x y ≡ Less
before_less x y h = lt_is (variable_cmp x y) (before_cmp x y ∙ h)

then_equal : (o r : Ordering) → ordering_then o r ≡ Equal → (o ≡ Equal) × (r ≡ Equal)
then_equal Less r h = absurd (true≢false (sym (ap is_eq h)))
then_equal Equal r h = (refl, h)
then_equal Greater r h = absurd (true≢false (sym (ap is_eq h)))

equal_same : (x y : Variable) → variable_cmp x y ≡ Equal → x ≡ y
equal_same x y h =
    let both = then_equal (nat_cmp x.level y.level) (slice_cmp cell_cmp x.tile y.tile) h in
    let p : x.level ≡ y.level = eqb-true x.level y.level (sym (nat_equal x.level y.level) ∙ ap is_eq both.0) in
    let q : x.tile ≡ y.tile = tied_lists x.tile y.tile (ap is_eq both.1) in
    λ i. record { level = p i; tile = q i }

-- a later variable compares no less
cmp_up : (x y v : Variable) → variable_cmp x y ≡ Less → ordering_index (variable_cmp x v) ≤ ordering_index (variable_cmp y v)
cmp_up x y v less = go (variable_cmp x v) refl
  where
    go : (o : Ordering) → variable_cmp x v ≡ o → ordering_index (variable_cmp x v) ≤ ordering_index (variable_cmp y v)
    go Less e = subst (λ o. ordering_index o ≤ ordering_index (variable_cmp y v)) (sym e) (omega arith)
    go Equal e =
        let same : x ≡ v = equal_same x v e in
        let f : variable_cmp y v ≡ Greater = variable_total.antisymm y v ∙ ap ordering_reverse (ap (λ z. variable_cmp z y) (sym same) ∙ less) in
        subst (λ o. ordering_index o ≤ ordering_index (variable_cmp y v)) (sym e) (subst (λ o. 1 ≤ ordering_index o) (sym f) (omega arith))
    go Greater e =
        let back : variable_cmp v x ≡ Less = variable_total.antisymm v x ∙ ap ordering_reverse e in
        let f : variable_cmp y v ≡ Greater = variable_total.antisymm y v ∙ ap ordering_reverse (variable_total.trans v x y back less) in
        subst (λ o. ordering_index o ≤ ordering_index (variable_cmp y v)) (sym e) (subst (λ o. 2 ≤ ordering_index o) (sym f) (omega arith))

-- ---- rising lists by their places
pub rising_at : {X : Type 0} (before : X → X → Bool) (xs : List X) → IsRising before xs → (i j : ℕ) (d : X) → i < j → j < length xs → before (get_or xs i d) (get_or xs j d) ≡ true
rising_at before [] r i j d l m = absurd (omega arith)
rising_at before (x ∷ xs) r i zero d l m = absurd (omega arith)
rising_at {X} before (x ∷ xs) r zero (suc j) d l m = All-contains (λ y. IsTrue (before x y)) xs (get_or xs j d) r.0 (member_at xs j d (omega arith))
rising_at before (x ∷ xs) r (suc i) (suc j) d l m = rising_at before xs r.1 i j d (omega arith) (omega arith)

item_at : {X : Type 0} (xs : List X) (i : ℕ) → i < length xs → (x : X) × (slice_get xs i ≡ Some x) × (get_or xs i x ≡ x)
item_at [] i l = absurd (omega arith)
item_at (x ∷ xs) zero l = (x, refl, refl)
item_at (x ∷ xs) (suc i) l = let r = item_at xs i (omega arith) in (r.0, r.1, r.2)

pub get_or-mapped : {X Y : Type 0} (f : X → Y) (xs : List X) (i : ℕ) (d : X) (e : Y) → i < length xs → get_or (map f xs) i e ≡ f (get_or xs i d)
get_or-mapped f [] i d e l = absurd (omega arith)
get_or-mapped f (x ∷ xs) zero d e l = refl
get_or-mapped f (x ∷ xs) (suc i) d e l = get_or-mapped f xs i d e (omega arith)

pub length-mapped : {X Y : Type 0} (f : X → Y) (xs : List X) → length (map f xs) ≡ length xs
length-mapped f [] = refl
length-mapped f (x ∷ xs) = ap suc (length-mapped f xs)

some_within : {X : Type 0} (xs : List X) (i : ℕ) (x : X) → slice_get xs i ≡ Some x → i < length xs
some_within [] i x e = absurd (none_some e)
  where
    none_some : None ≡ Some x → ⊥
    none_some e = cc
some_within (y ∷ xs) zero x e = omega arith
some_within (y ∷ xs) (suc i) x e = let l = some_within xs i x e in omega arith

-- ---- the search
module _ {E : Type 0} (variable : E → Variable) (entries : List E) (v : Variable) where
  pub number_found : (at : ℕ) → at < length entries → HoldsAt (λ e. variable_cmp (variable e) v ≡ Equal) entries at → IsNumbered (map variable entries) (at + 1) v
  number_found at less h =
      let x = item_at entries at less in
      let same : variable x.0 ≡ v = equal_same (variable x.0) v (ap (λ e. variable_cmp (variable e) v) (sym x.2) ∙ h x.0) in
      let e : at + 1 - 1 ≡ at = omega arith in
      (omega arith, ap (slice_get (map variable entries)) e ∙ slice_get-map variable entries at ∙ ap (option_map variable) x.1 ∙ ap (λ z. Some z) same)

  search_sorted : IsRising variable_before (map variable entries) → IsNonDecreasingBy (λ e. ordering_index (variable_cmp (variable e) v)) entries
  search_sorted r i j d low less =
      elim (cases_lt i j) [
        | inl l ↦
            let long = length-mapped variable entries in
            let before = rising_at variable_before (map variable entries) r i j (variable d) l (omega arith) in
            let ei = get_or-mapped variable entries i d (variable d) (omega arith) in
            let ej = get_or-mapped variable entries j d (variable d) less in
            cmp_up (variable (get_or entries i d)) (variable (get_or entries j d)) v (before_less (variable (get_or entries i d)) (variable (get_or entries j d)) (ap (λ z. variable_before z (variable (get_or entries j d))) (sym ei) ∙ ap (variable_before (get_or (map variable entries) i (variable d))) (sym ej) ∙ before))
        | inr l ↦
            let e : i ≡ j = omega arith in
            subst (λ n. ordering_index (variable_cmp (variable (get_or entries i d)) v) ≤ ordering_index (variable_cmp (variable (get_or entries n d)) v)) e (omega arith)
      ]

  pub number_none : (at : ℕ) → IsRising variable_before (map variable entries) → (IsNonDecreasingBy (λ e. ordering_index (variable_cmp (variable e) v)) entries → IsPartitionPoint (λ e. variable_cmp (variable e) v ≡ Less) (λ e. variable_cmp (variable e) v ≡ Greater) entries at) → (n : ℕ) (x : Variable) → IsNumbered (map variable entries) n x → (x.level ≡ v.level) × (x.tile ≡ v.tile) → ⊥
  number_none at r h n x is same =
      let k = n - 1 in
      let long = length-mapped variable entries in
      let within = some_within (map variable entries) (n - 1) x is.1 in
      let less : n - 1 < length entries = omega arith in
      let e = item_at entries (n - 1) less in
      let x_is : variable e.0 ≡ x = ap (λ o. unwrap_or o x) (ap (option_map variable) (sym e.1) ∙ sym (slice_get-map variable entries (n - 1)) ∙ is.1) in
      let x_v : x ≡ v = λ i. record { level = same.0 i; tile = same.1 i } in
      let equal : variable_cmp (variable (get_or entries (n - 1) e.0)) v ≡ Equal = ap (λ z. variable_cmp (variable z) v) e.2 ∙ ap (λ z. variable_cmp z v) (x_is ∙ x_v) ∙ tied_itself variable_total v in
      let parts = h (search_sorted r) in
      elim (cases_lt (n - 1) at) [
        | inl l ↦ true≢false (ap is_eq (sym equal ∙ parts.0 (n - 1) e.0 (omega arith) l))
        | inr l ↦ true≢false (ap is_eq (sym equal ∙ parts.1 (n - 1) e.0 l less))
      ]

-- ---- the numbers that have a cell
filter_on : {X : Type 0} (p q : X → Bool) (xs : List X) → ((x : X) → Contains xs x → p x ≡ q x) → filter p xs ≡ filter q xs
filter_on p q [] e = refl
filter_on p q (x ∷ xs) e =
    ap (λ b. cond b (x ∷ filter p xs) (filter p xs)) (e x (member_here x xs)) ∙ ap (λ ys. cond (q x) (x ∷ ys) ys) (filter_on p q xs (λ y m. e y (member_there x xs y m)))

-- a filter of numbered values by their numbers
module _ {X : Type 0} (test : ℕ → Bool) (h : X → Bool) where
  abbrev with_both : List (ℕ × X) → List ℕ
  with_both xs = map (λ x. x.0) (filter (λ x. test x.0 && h x.1) xs)

  abbrev with_one : List (ℕ × X) → List ℕ
  with_one xs = map (λ x. x.0) (filter (λ x. h x.1) xs)

  first_kept : (n : ℕ) (a b : Bool) (both one : List ℕ) → test n ≡ a → both ≡ filter test one → cond (a && b) (n ∷ both) both ≡ filter test (cond b (n ∷ one) one)
  first_kept n true true both one e rest = ap (λ ys. n ∷ ys) rest ∙ ap (λ c. cond c (n ∷ filter test one) (filter test one)) (sym e)
  first_kept n true false both one e rest = rest
  first_kept n false true both one e rest = rest ∙ ap (λ c. cond c (n ∷ filter test one) (filter test one)) (sym e)
  first_kept n false false both one e rest = rest

  map_cond : (b : Bool) (x : ℕ × X) (xs : List (ℕ × X)) → map (λ x. x.0) (cond b (x ∷ xs) xs) ≡ cond b (x.0 ∷ map (λ x. x.0) xs) (map (λ x. x.0) xs)
  map_cond true x xs = refl
  map_cond false x xs = refl

  filter_numbers : (xs : List (ℕ × X)) → with_both xs ≡ filter test (with_one xs)
  filter_numbers [] = refl
  filter_numbers (x ∷ xs) =
      map_cond (test x.0 && h x.1) x (filter (λ x. test x.0 && h x.1) xs)
      ∙ first_kept x.0 (test x.0) (h x.1) (with_both xs) (with_one xs) refl (filter_numbers xs)
      ∙ ap (filter test) (sym (map_cond (h x.1) x (filter (λ x. h x.1) xs)))

-- the numbers of the tiles are those of the variables
same_numbers : {X : Type 0} (tile : X → List Cell) (c : Cell) (n : ℕ) (xs : List X) → map (λ x. x.0) (filter (λ x. has x.1 c) (enumerate_from n (map tile xs))) ≡ map (λ x. x.0) (filter (λ x. has (tile x.1) c) (enumerate_from n xs))
same_numbers tile c n [] = refl
same_numbers tile c n (x ∷ xs) = go (same_numbers tile c (n + 1) xs) (has (tile x) c)
  where
    go : map (λ x. x.0) (filter (λ x. has x.1 c) (enumerate_from (n + 1) (map tile xs))) ≡ map (λ x. x.0) (filter (λ x. has (tile x.1) c) (enumerate_from (n + 1) xs)) → (b : Bool) → map (λ x. x.0) (cond b ((n, tile x) ∷ filter (λ x. has x.1 c) (enumerate_from (n + 1) (map tile xs))) (filter (λ x. has x.1 c) (enumerate_from (n + 1) (map tile xs)))) ≡ map (λ x. x.0) (cond b ((n, x) ∷ filter (λ x. has (tile x.1) c) (enumerate_from (n + 1) xs)) (filter (λ x. has (tile x.1) c) (enumerate_from (n + 1) xs)))
    go rest true = ap (λ ys. n ∷ ys) rest
    go rest false = rest

-- where the first of a list pass, and no other does
filter_front : (p : ℕ → Bool) (ns : List ℕ) (i : ℕ) → ((j : ℕ) → j < i → j < length ns → p (get_or ns j 0) ≡ true) → ((j : ℕ) → i ≤ j → j < length ns → p (get_or ns j 0) ≡ false) → filter p ns ≡ take i ns
filter_front p [] zero good bad = refl
filter_front p [] (suc i) good bad = refl
filter_front p (n ∷ ns) zero good bad =
    ap (λ b. cond b (n ∷ filter p ns) (filter p ns)) (bad 0 (omega arith) (omega arith)) ∙ filter_front p ns zero (λ j l m. absurd (omega arith)) (λ j l m. bad (suc j) (omega arith) (omega arith)) ∙ none ns
  where
    none : (ns : List ℕ) → take 0 ns ≡ take 0 (n ∷ ns)
    none [] = refl
    none (m ∷ ns) = refl
filter_front p (n ∷ ns) (suc i) good bad =
    ap (λ b. cond b (n ∷ filter p ns) (filter p ns)) (good 0 (omega arith) (omega arith)) ∙ ap (λ ys. n ∷ ys) (filter_front p ns i (λ j l m. good (suc j) (omega arith) (omega arith)) (λ j l m. bad (suc j) (omega arith) (omega arith)))

-- the order goes by level first
before_levels : (x y : Variable) → variable_before x y ≡ true → x.level ≤ y.level
before_levels x y h =
    elim (or_cases (nat_lt x.level y.level) (x.level == y.level && cells_before x.tile y.tile) h) [
      | inl l ↦ let m = ltb-true x.level y.level l in omega arith
      | inr l ↦ let e = eqb-true x.level y.level (and_parts (x.level == y.level) (cells_before x.tile y.tile) l).0 in omega arith
    ]

module _ (vars : List Variable) (k : ℕ) (c : Cell) where
  abbrev levels : List ℕ
  levels = map (λ (x : Variable). x.level) vars

  -- the test of a number by its level
  abbrev pub is_low : ℕ → Bool
  is_low n = nat_le (level_at (map (λ (x : Variable). x.level) vars) n) k

  level_is : (n : ℕ) (x : Variable) → slice_get vars (n - 1) ≡ Some x → level_at levels n ≡ x.level
  level_is n x e =
      get_or-mapped (λ (x : Variable). x.level) vars (n - 1) x 0 (some_within vars (n - 1) x e) ∙ ap (λ (z : Variable). z.level) (get_or_from_slice_get vars (n - 1) x x e)

  covering_is : covering vars k c ≡ filter is_low (numbers_with (map (λ x. x.tile) vars) c)
  covering_is =
      ap (map (λ x. x.0)) (filter_on (covers k c) (λ x. is_low x.0 && has x.1.tile c) (enumerate_from 1 vars) (λ x m. ap (λ l. nat_le l k && has x.1.tile c) (sym (level_is x.0 x.1 (entry_at vars 1 x m).1))))
      ∙ filter_numbers is_low (λ (x : Variable). has x.tile c) (enumerate_from 1 vars)
      ∙ ap (filter is_low) (sym (same_numbers (λ (x : Variable). x.tile) c 1 vars))

  module _ (ns : List ℕ) (is : ns ≡ numbers_with (map (λ x. x.tile) vars) c) where
    -- a number of the list is that of a variable
    numbered_at : (j : ℕ) → j < length ns → (x : Variable) × IsNumbered vars (get_or ns j 0) x × (level_at levels (get_or ns j 0) ≡ x.level)
    numbered_at j m =
        let at = numbers_with-at (map (λ x. x.tile) vars) c ns is j m in
        let long = length-mapped (λ (x : Variable). x.tile) vars in
        let one = at.0 in
        let top = at.1 in
        let x = item_at vars (get_or ns j 0 - 1) (omega arith) in
        (x.0, (one, x.1), level_is (get_or ns j 0) x.0 x.1)

    -- a later number has no lower level
    levels_rise : IsRising variable_before vars → (i j : ℕ) → i ≤ j → j < length ns → level_at levels (get_or ns i 0) ≤ level_at levels (get_or ns j 0)
    levels_rise rising i j low within =
        elim (cases_lt i j) [
          | inl l ↦
              let x = numbered_at i (omega arith) in
              let y = numbered_at j within in
              let low_x = x.1.0 in
              let low_y = y.1.0 in
              let less : get_or ns i 0 < get_or ns j 0 = ltb-true (get_or ns i 0) (get_or ns j 0) (rising_at nat_lt ns (subst (IsRising nat_lt) (sym is) (IsRising-numbers_with (map (λ x. x.tile) vars) c)) i j 0 l within) in
              let before = rising_at variable_before vars rising (get_or ns i 0 - 1) (get_or ns j 0 - 1) y.0 (omega arith) (some_within vars (get_or ns j 0 - 1) y.0 y.1.1) in
              let x_is : get_or vars (get_or ns i 0 - 1) y.0 ≡ x.0 = get_or_from_slice_get vars (get_or ns i 0 - 1) x.0 y.0 x.1.1 in
              let y_is : get_or vars (get_or ns j 0 - 1) y.0 ≡ y.0 = get_or_from_slice_get vars (get_or ns j 0 - 1) y.0 y.0 y.1.1 in
              let ordered = before_levels x.0 y.0 (ap (λ z. variable_before z y.0) (sym x_is) ∙ ap (variable_before (get_or vars (get_or ns i 0 - 1) y.0)) (sym y_is) ∙ before) in
              omega (arith, x.2, y.2)
          | inr l ↦ let e : i ≡ j = omega arith in subst (λ n. level_at levels (get_or ns i 0) ≤ level_at levels (get_or ns n 0)) e (omega arith)
        ]

    pub are_parted : IsRising variable_before vars → IsPartitionedBy is_low ns
    are_parted rising = IsPartitionedBy-leb (level_at levels) ns k (IsNonDecreasingBy-from_default (level_at levels) ns 0 (levels_rise rising))

    -- the numbers up to the place that parts the low levels from the others are the answer
    pub covering_parted : (i : ℕ) → IsPartitionPoint (λ n. is_low n ≡ true) (λ n. is_low n ≡ false) ns i → take i ns ≡ covering vars k c
    covering_parted i parts =
        sym (filter_front is_low ns i (λ j l m. parts.0 j 0 (omega arith) l) (λ j l m. parts.1 j 0 l m)) ∙ ap (filter is_low) is ∙ sym covering_is

    -- and so are all, where no level is greater
    pub covering_all : ((x : Variable) → Contains vars x → x.level ≤ k) → ns ≡ covering vars k c
    covering_all low =
        sym (take-length ns)
        ∙ covering_parted (length ns) (
          λ j d l m. ap is_low (any_default ns j d 0 m) ∙ (let x = numbered_at j m in le-leb (level_at levels (get_or ns j 0)) k (omega (arith, x.2, low x.0 (member_of_get vars (get_or ns j 0 - 1) x.0 x.1.1)))),
          λ j d l m. absurd (omega arith),
        )

-- ---- entries as variables
module _ {E : Type 0} (variable : E → Variable) where
  tiles_twice : (xs : List E) → map (λ e. (variable e).tile) xs ≡ map (λ x. x.tile) (map variable xs)
  tiles_twice [] = refl
  tiles_twice (x ∷ xs) = ap (λ ts. (variable x).tile ∷ ts) (tiles_twice xs)

  pub index_tiles : (entries : List E) (index : List (List Cell)) → index ≡ map (λ e. (variable e).tile) entries → index ≡ map (λ x. x.tile) (map variable entries)
  index_tiles entries index is = is ∙ tiles_twice entries

  pub levels_twice : (xs : List E) → map (λ e. (variable e).level) xs ≡ map (λ x. x.level) (map variable xs)
  levels_twice [] = refl
  levels_twice (x ∷ xs) = ap (λ ls. (variable x).level ∷ ls) (levels_twice xs)
