-- From the whole search to its answer.
use Rattle.std.proofs.Common.{◌≡◌, refl, sym, ap, ◌∙◌, subst, ℕ, zero, suc, ◌+◌, ◌^◌, ◌<◌, ◌≤◌, cond, nat_eq, List, [], length, get_or, slice_index, map, filter, inl, inr, arith}
use Rattle.std.specs.Int.{bit_at}
use Rattle.std.specs.List.{count_by, Contains}
use Rattle.std.specs.List.Sorted.{IsPermutation, IsNonDecreasing, IsStrictlyIncreasing}
use Rattle.std.proofs.lemmas.Bool.{cases_lt}
use Rattle.std.proofs.lemmas.Nat.Bits.{bit_at-lt}
use Rattle.std.proofs.lemmas.List.Sums.{get_or-le-sum_by}
use Rattle.std.proofs.lemmas.List.Elements.{All-nil}
use Rattle.std.proofs.lemmas.List.Sorted.{All-permutation, sum_by-IsPermutation}
use Rattle.heesch_exact.specs.Branches.{times, IsPart, HasNoCover, AreSets, AreAdded, ways}
use Rattle.heesch_exact.specs.Covers.{has_point, is_within, partial_covers, IsExactCover}
use Rattle.heesch_exact.proofs.Bits.{above, some_point}
use Rattle.heesch_exact.proofs.Partial.{fewer_covers, at_most_power}
use Rattle.heesch_exact.proofs.Sums.{sum_zero, count_is_sum, two_counted}

module _ (masks : List ℕ) (points : ℕ) (small : (i : ℕ) → slice_index masks i < 2 ^ 64) (fits : points < 2 ^ 64) where
  -- how many of the chosen sets have a point, as a sum of bits
  pub counted : (chosen : List ℕ) (k : ℕ) → count_by (has_point masks k) chosen ≡ times masks chosen k
  counted chosen k = count_is_sum (has_point masks k) (λ i. bit_at (slice_index masks i) k) (λ i. bit (bit_at (slice_index masks i) k) (bit_at-lt (slice_index masks i) k)) chosen
    where
      bit : (b : ℕ) → b < 2 → cond (nat_eq b 1) 1 0 ≡ b
      bit zero l = refl
      bit (suc zero) l = refl
      bit (suc (suc b)) l = absurd (omega arith)

  -- the chosen sets in rising order are an exact cover
  module _ (chosen sorted : List ℕ) (added : AreAdded masks points [] chosen) (moved : IsPermutation chosen sorted) (order : IsNonDecreasing sorted) where
    sets : AreSets masks sorted
    sets = All-permutation (λ i. (i < length masks) × (0 < slice_index masks i)) chosen sorted moved (added.sets (All-nil (λ i. (i < length masks) × (0 < slice_index masks i))))

    once : (k : ℕ) → times masks sorted k ≡ bit_at points k
    once k =
        let s = sum_by-IsPermutation (λ i. bit_at (slice_index masks i) k) chosen sorted moved in
        let o = added.once k in
        omega (arith, s, o)

    rising : IsStrictlyIncreasing sorted
    rising k l =
        elim (cases_lt (get_or sorted k 0) (get_or sorted (k + 1) 0)) [
          | inl m ↦ m
          | inr m ↦
              let same : get_or sorted (k + 1) 0 ≡ get_or sorted k 0 = let o = order k (k + 1) 0 (omega arith) l in omega (arith, o, m) in
              let p = some_point (slice_index masks (get_or sorted k 0)) (sets k 0 (omega arith)).1 (small (get_or sorted k 0)) in
              let two = two_counted (λ i. bit_at (slice_index masks i) p.0) sorted k l in
              let other : bit_at (slice_index masks (get_or sorted (k + 1) 0)) p.0 ≡ 1 = ap (λ i. bit_at (slice_index masks i) p.0) same ∙ p.2 in
              let o = once p.0 in
              let most = bit_at-lt points p.0 in
              absurd (omega (arith, two, other, p.2, o, most))
        ]

    pub is_exact_cover : IsExactCover masks points sorted
    is_exact_cover = record {
      rising = rising;
      within = λ k d l. (sets k d l).0;
      once = λ k _. counted sorted k ∙ once k;
    }

  -- an exact cover has candidates alone
  module _ (chosen : List ℕ) (cover : IsExactCover masks points chosen) where
    everywhere : (k : ℕ) → times masks chosen k ≡ bit_at points k
    everywhere k =
        elim (cases_lt k 64) [
          | inl l ↦ sym (counted chosen k) ∙ cover.once k l
          | inr l ↦ sum_zero (λ i. bit_at (slice_index masks i) k) chosen (λ n d _. above (slice_index masks (get_or chosen n d)) k (small (get_or chosen n d)) l) ∙ sym (above points k fits l)
        ]

    parts : (n d : ℕ) → n < length chosen → IsPart (slice_index masks (get_or chosen n d)) points
    parts n d l k =
        let g = get_or-le-sum_by (λ i. bit_at (slice_index masks i) k) chosen n d l in
        let e = everywhere k in
        omega (arith, g, e)

    pub not_covered : (candidates : List ℕ) → ((i : ℕ) → i < length masks → IsPart (slice_index masks i) points → Contains candidates i) → HasNoCover masks points candidates → ⊥
    not_covered candidates all none = none chosen (λ n d l. all (get_or chosen n d) (cover.within n d l) (parts n d l)) everywhere

-- there are no more ways to choose candidates than to choose sets
pub all_ways : (masks : List ℕ) (points : ℕ) (candidates : List ℕ) → map (λ i. slice_index masks i) candidates ≡ filter (is_within points) masks → ways masks candidates points ≤ partial_covers masks points
all_ways masks points candidates same = subst (λ xs. partial_covers xs points ≤ partial_covers masks points) (sym same) (fewer_covers (is_within points) masks points)

pub ways_spent : (masks : List ℕ) (points : ℕ) (candidates : List ℕ) → map (λ i. slice_index masks i) candidates ≡ filter (is_within points) masks → (before after : ℕ) → before ≤ after + ways masks candidates points → before ≤ after + partial_covers masks points
ways_spent masks points candidates same before after h = let w = all_ways masks points candidates same in omega (arith, w, h)

pub power_spent : (masks : List ℕ) (points before after : ℕ) → before ≤ after + partial_covers masks points → before ≤ after + 2 ^ length masks
power_spent masks points before after h = let p = at_most_power masks points in omega (arith, p, h)
