-- Exact covers by masks that share no bit with a first one, and choices of masks beside it.
use Rattle.std.proofs.Common.{◌≡◌, refl, sym, ap, subst, ◌∙◌, ℕ, zero, suc, ◌+◌, ◌-◌, ◌<◌, ◌≤◌, ◌^◌, min, List, [], ◌∷◌, map, filter, length, Bool, true, eqb, nat_cmp, ◌⊎◌, inl, inr, arith, All, Contains, eqb-true, eq-eqb, IsPermutation, IsSorted}
use Rattle.std.specs.Prelude.{◌==◌, Some, slice_index}
use Rattle.std.specs.List.{count_by, list_any, range_with_len, dedup, slice_get}
use Rattle.std.specs.List.Sorted.{IsStrictlyIncreasing}
use Rattle.std.specs.Int.{bit_at, bit_not, w64}
use Rattle.std.specs.Int.Bits.{bit_and}
use Rattle.std.proofs.lemmas.Nat.Bits.{bit_at_and, bit_at_not, bit_at-zero, bit_at-lt, bit_at_above, same_from_bits}
use Rattle.std.proofs.lemmas.Bool.{cases_lt, cases_order}
use Rattle.std.proofs.lemmas.List.FromFn.{length-range_with_len, get_or-range_with_len}
use Rattle.std.proofs.lemmas.List.Kept.{Contains-dedup_nat, Contains-from_dedup, IsStrictlyIncreasing-filter}
use Rattle.std.proofs.lemmas.List.Sums.{count_by-le-length, length-filter}
use Rattle.std.proofs.lemmas.List.Elements.{All-contains}
use Rattle.std.proofs.lemmas.List.Sorted.{length_permutation, Contains-permutation, IsPermutation-sym}
use Rattle.std.proofs.lemmas.Map.Keys.{IsStrictlyIncreasing-dedup}
use Rattle.std.proofs.lemmas.Option.{get_or_from_slice_get, slice_get_within}
use Rattle.heesch_grid.proofs.ListFacts.{member_cases, member_here, member_there, no_member, All-from_members, filter_member, member_filter, any_member, member_any}
use Rattle.heesch_grid.proofs.WindowFacts.{member_range}
use Rattle.heesch_tiling.proofs.Distinct.{Distinct, none_passes, OnePasses, one_passes, TwoPass, two_pass, distinct_filter, count_map}
use Rattle.heesch_exact.specs.Covers.{IsExactCover}
use Rattle.heesch_torus.specs.Beside.{with_bit, AreBeside, FillBeside}
use Rattle.heesch_torus.proofs.Numbering.{in_range_below}

-- ---- bits

pub bit_cases : (n i : ℕ) → (bit_at n i ≡ 0) ⊎ (bit_at n i ≡ 1)
bit_cases n i = let below = bit_at-lt n i in elim (cases_lt (bit_at n i) 1) [ inl l ↦ inl (omega (arith, l)) | inr m ↦ inr (omega (arith, m, below)) ]

pub with_bit_filter : (k : ℕ) (ms : List ℕ) → length (filter (λ m. bit_at m k == 1) ms) ≡ with_bit k ms
with_bit_filter k ms = length-filter (λ m. bit_at m k == 1) ms

-- a mask with the bit counts
pub with_bit_some : (k : ℕ) (ms : List ℕ) (m : ℕ) → Contains ms m → bit_at m k ≡ 1 → 1 ≤ with_bit k ms
with_bit_some k ms m inside e =
    elim (cases_order (with_bit k ms) 0) [
      | inl none ↦ absurd (none_passes (λ m. bit_at m k == 1) ms (with_bit_filter k ms ∙ none) m inside (eq-eqb (bit_at m k) 1 e))
      | inr o ↦ elim o [ inl less ↦ absurd (omega arith) | inr more ↦ omega arith ]
    ]

none_pass : {X : Type 0} (p : X → Bool) (xs : List X) → ((x : X) → Contains xs x → p x ≡ true → ⊥) → length (filter p xs) ≡ 0
none_pass p xs none = go (filter p xs) (λ y m. let f = filter_member p xs y m in none y f.0 f.1)
  where
    go : {Y : Type 0} (ys : List Y) → ((y : Y) → Contains ys y → ⊥) → length ys ≡ 0
    go [] h = refl
    go (y ∷ ys) h = absurd (h y (member_here y ys))

pub index_of : {X : Type 0} (xs : List X) (x : X) → Contains xs x → (n : ℕ) × (slice_get xs n ≡ Some x)
index_of [] x m = absurd (no_member x m)
index_of (y ∷ xs) x m = elim (member_cases y xs x m) [ inl e ↦ (0, ap Some e) | inr h ↦ let r = index_of xs x h in (suc r.0, r.1) ]

-- ---- the masks beside a first one

pub beside_sorted : (masks : List ℕ) (first : ℕ) (sorted left : List ℕ) → IsPermutation (filter (λ m. bit_and m first == 0) masks) sorted → IsSorted nat_cmp sorted → left ≡ dedup eqb sorted → length left ≤ length sorted → length (filter (λ m. bit_and m first == 0) masks) ≤ length masks → AreBeside masks first left
beside_sorted masks first sorted left p s e shorter fewer =
    let test : ℕ → Bool = λ m. bit_and m first == 0 in
    let back = IsPermutation-sym (filter test masks) sorted p in
    subst (AreBeside masks first) (sym e) (record {
      rising = IsStrictlyIncreasing-dedup sorted s;
      only = λ m k. let f = filter_member test masks m (Contains-permutation sorted (filter test masks) m back (Contains-from_dedup eqb sorted m k)) in (f.0, eqb-true (bit_and m first) 0 f.1);
      every = λ m k none. Contains-dedup_nat sorted m (Contains-permutation (filter test masks) sorted m p (member_filter test masks m k (eq-eqb (bit_and m first) 0 none)));
      few = let long = length_permutation (filter test masks) sorted p in let same = ap length e in omega arith;
    })

pub filter_shorter : {X : Type 0} (p : X → Bool) (xs : List X) → length (filter p xs) ≤ length xs
filter_shorter p xs = subst (λ n. n ≤ length xs) (sym (length-filter p xs)) (count_by-le-length p xs)

-- ---- choices of numbers, and of masks

module _ (masks : List ℕ) (first full : ℕ) (word : first < 2 ^ 64) (within : (k : ℕ) → bit_at first k ≤ bit_at full k) (left : List ℕ) (are : AreBeside masks first left) where
  abbrev pub points : ℕ
  points = bit_and full (bit_not w64 first)

  points_bit : (k : ℕ) → k < 64 → bit_at first k + bit_at points k ≡ bit_at full k
  points_bit k l =
      let e = bit_at_and full (bit_not w64 first) k in
      let n = bit_at_not w64 first k word l in
      let w = within k in
      by_cases (bit_cases first k) (bit_cases full k) e n w
    where
      by_cases : (bit_at first k ≡ 0) ⊎ (bit_at first k ≡ 1) → (bit_at full k ≡ 0) ⊎ (bit_at full k ≡ 1) → bit_at points k ≡ min (bit_at full k) (bit_at (bit_not w64 first) k) → bit_at (bit_not w64 first) k ≡ 1 - bit_at first k → bit_at first k ≤ bit_at full k → bit_at first k + bit_at points k ≡ bit_at full k
      by_cases (inl a) (inl b) e n w = omega arith
      by_cases (inl a) (inr b) e n w = omega arith
      by_cases (inr a) (inl b) e n w = omega arith
      by_cases (inr a) (inr b) e n w = omega arith

  abbrev has_bit : ℕ → ℕ → Bool
  has_bit k i = bit_at (slice_index left i) k == 1

  pub cover_fills : (chosen found : List ℕ) → found ≡ map (λ i. slice_index left i) chosen → IsExactCover left points chosen → All (Contains masks) found × FillBeside first full found
  cover_fills chosen found e cover =
      subst (λ ms. All (Contains masks) ms × FillBeside first full ms) (sym e) (
        All-from_members (Contains masks) (map (λ i. slice_index left i) chosen) (λ m k. number_in chosen m k (λ i c. All-contains (λ i. i < length left) chosen i cover.within c)),
        (λ k l.
            let count : with_bit k (map (λ i. slice_index left i) chosen) ≡ count_by (has_bit k) chosen =
            sym (with_bit_filter k (map (λ i. slice_index left i) chosen)) ∙ count_map (λ i. slice_index left i) (λ m. bit_at m k == 1) chosen ∙ length-filter (has_bit k) chosen in
            ap (λ n. bit_at first k + n) (count ∙ cover.once k l) ∙ points_bit k l),
      )
    where
      number_in : (chosen : List ℕ) (m : ℕ) → Contains (map (λ i. slice_index left i) chosen) m → ((i : ℕ) → Contains chosen i → i < length left) → Contains masks m
      number_in [] m k below = absurd (no_member m k)
      number_in (i ∷ chosen) m k below =
          elim (member_cases (slice_index left i) (map (λ i. slice_index left i) chosen) m k) [
            | inl e ↦ subst (Contains masks) e (are.only (slice_index left i) (member_index left i (below i (member_here i chosen)))).0
            | inr h ↦ number_in chosen m h (λ j c. below j (member_there i chosen j c))
          ]
        where
          member_index : (xs : List ℕ) (i : ℕ) → i < length xs → Contains xs (slice_index xs i)
          member_index [] i l = absurd (omega arith)
          member_index (x ∷ xs) zero l = member_here x xs
          member_index (x ∷ xs) (suc i) l = member_there x xs (slice_index xs i) (member_index xs i (omega arith))

  -- the numbers of found masks
  module _ (found : List ℕ) (inside : All (Contains masks) found) (fills : FillBeside first full found) where
    abbrev is_found : ℕ → Bool
    is_found i = list_any (λ m. slice_index left i == m) found

    abbrev numbers : List ℕ
    numbers = filter is_found (range_with_len 0 (length left))

    found_apart : (m : ℕ) → Contains found m → bit_and m first ≡ 0
    found_apart m k = same_from_bits (bit_and m first) 0 (λ i. bit_at_and m first i ∙ none i ∙ sym (bit_at-zero i))
      where
        none : (i : ℕ) → min (bit_at m i) (bit_at first i) ≡ 0
        none i = by_bits (bit_cases m i) (bit_cases first i)
          where
            both : bit_at m i ≡ 1 → bit_at first i ≡ 1 → ⊥
            both a b = elim (cases_order i 64) [
              | inl e ↦ outside (omega arith)
              | inr o ↦ elim o [
                | inl below ↦
                    let some = with_bit_some i found m k a in
                    let all = fills i below in
                    let one = bit_at-lt full i in
                    omega arith
                | inr above ↦ outside (omega arith)
              ]
            ]
              where
                outside : 64 ≤ i → ⊥
                outside l = let z = bit_at_above first 64 i word l in omega arith

            by_bits : (bit_at m i ≡ 0) ⊎ (bit_at m i ≡ 1) → (bit_at first i ≡ 0) ⊎ (bit_at first i ≡ 1) → min (bit_at m i) (bit_at first i) ≡ 0
            by_bits (inl a) b = omega arith
            by_bits (inr a) (inl b) = omega arith
            by_bits (inr a) (inr b) = absurd (both a b)

    range_rises : (a n : ℕ) → IsStrictlyIncreasing (range_with_len a n)
    range_rises a n k l =
        let long = length-range_with_len a n in
        let x = get_or-range_with_len a n k 0 (omega arith) in
        let y = get_or-range_with_len a n (k + 1) 0 (omega arith) in
        omega arith

    range_distinct : (a n : ℕ) → Distinct (range_with_len a n)
    range_distinct a zero = tt
    range_distinct a (suc n) = ((λ m. let low = (in_range_below (a + 1) n a m).0 in absurd (omega arith)), range_distinct (a + 1) n)

    number_found : (i : ℕ) → Contains numbers i → (i < length left) × Contains found (slice_index left i)
    number_found i m =
        let f = filter_member is_found (range_with_len 0 (length left)) i m in
        let a = any_member (λ m. slice_index left i == m) found f.1 in
        let high = (in_range_below 0 (length left) i f.0).1 in
        (omega arith, subst (Contains found) (sym (eqb-true (slice_index left i) a.0 a.2)) a.1)

    found_number : (m : ℕ) → Contains found m → (i : ℕ) × Contains numbers i × (slice_index left i ≡ m)
    found_number m k =
        let i = index_of left m (are.every m (All-contains (Contains masks) found m inside k) (found_apart m k)) in
        let less : i.0 < length left = slice_get_within left i.0 m i.1 in
        let at : slice_index left i.0 ≡ m = get_or_from_slice_get left i.0 m 0 i.1 in
        let start : 0 + i.0 ≡ i.0 = omega arith in
        (i.0, member_filter is_found (range_with_len 0 (length left)) i.0 (subst (Contains (range_with_len 0 (length left))) start (member_range (length left) 0 i.0 less)) (member_any (λ m. slice_index left i.0 == m) found m k (eq-eqb (slice_index left i.0) m at)), at)

    one_index : (i j : ℕ) → i < length left → j < length left → slice_index left i ≡ slice_index left j → i ≡ j
    one_index i j li lj e = elim (cases_order i j) [
      | inl same ↦ same
      | inr o ↦ elim o [
        | inl l ↦ let rises = increasing left are.rising i j l lj in absurd (omega arith)
        | inr l ↦ let rises = increasing left are.rising j i l li in absurd (omega arith)
      ]
    ]
      where
        increasing : (xs : List ℕ) → IsStrictlyIncreasing xs → (i j : ℕ) → i < j → j < length xs → slice_index xs i < slice_index xs j
        increasing xs r i zero l h = absurd (omega arith)
        increasing xs r i (suc j) l h =
            let next : suc j ≡ j + 1 = omega arith in
            let step : slice_index xs j < slice_index xs (suc j) = subst (λ n. slice_index xs j < slice_index xs n) (sym next) (r j (omega arith)) in
            elim (cases_order i j) [
              | inl e ↦ subst (λ n. slice_index xs n < slice_index xs (suc j)) (sym e) step
              | inr o ↦ elim o [
                | inl less ↦ let first = increasing xs r i j less (omega arith) in omega arith
                | inr more ↦ absurd (omega arith)
              ]
            ]

    numbers_once : (k : ℕ) → k < 64 → count_by (has_bit k) numbers ≡ bit_at points k
    numbers_once k l = sym (length-filter (has_bit k) numbers) ∙ by_bit (bit_cases points k)
      where
        with_is : with_bit k found ≡ bit_at points k
        with_is = let a = fills k l in let b = points_bit k l in omega arith

        by_bit : (bit_at points k ≡ 0) ⊎ (bit_at points k ≡ 1) → length (filter (has_bit k) numbers) ≡ bit_at points k
        by_bit (inl z) =
            none_pass (has_bit k) numbers (λ i m t.
            let some = with_bit_some k found (slice_index left i) (number_found i m).1 (eqb-true (bit_at (slice_index left i) k) 1 t) in
            let e = with_is in omega arith) ∙ sym z
        by_bit (inr one) =
            let o : OnePasses (λ m. bit_at m k == 1) found = one_passes (λ m. bit_at m k == 1) found (with_bit_filter k found ∙ with_is ∙ one) in
            let n = found_number o.it o.inside in
            elim (cases_order (length (filter (has_bit k) numbers)) 1) [
              | inl e ↦ e ∙ sym one
              | inr c ↦ elim c [
                | inl less ↦ absurd (none_passes (has_bit k) numbers (omega arith) n.0 n.1 (ap (λ m. bit_at m k == 1) n.2 ∙ o.passes))
                | inr more ↦
                    let two : TwoPass (has_bit k) numbers = two_pass (has_bit k) numbers (distinct_filter is_found (range_with_len 0 (length left)) (range_distinct 0 (length left))) (omega arith) in
                    let a = number_found two.one two.one_inside in
                    let b = number_found two.other two.other_inside in
                    absurd (two.differ (one_index two.one two.other a.0 b.0 (o.only (slice_index left two.one) a.1 two.one_passes ∙ sym (o.only (slice_index left two.other) b.1 two.other_passes))))
              ]
            ]

    found_cover : IsExactCover left points numbers
    found_cover = record {
      rising = IsStrictlyIncreasing-filter is_found (range_with_len 0 (length left)) (range_rises 0 (length left));
      within = All-from_members (λ i. i < length left) numbers (λ i m. (number_found i m).0);
      once = numbers_once;
    }

  pub none_fills : ((chosen : List ℕ) → ¬ IsExactCover left points chosen) → (found : List ℕ) → All (Contains masks) found → ¬ FillBeside first full found
  none_fills none found inside fills = none (numbers found inside fills) (found_cover found inside fills)
