-- Lists of candidates, and what they cover.
use Rattle.std.proofs.Common.{◌≡◌, ◌⊎◌, sym, ap, ◌∙◌, subst, ℕ, ◌+◌, ◌^◌, ◌<◌, ◌≤◌, true, false, cond, List, [], ◌∷◌, ◌++◌, length, get_or, slice_index, take, map, filter, All, inl, inr, arith, w64}
use Rattle.std.specs.Int.{bit_at, bit_not}
use lib.Bits.{bit_and}
use Rattle.std.specs.List.{Contains}
use Rattle.std.proofs.lemmas.Bool.{cases_lt, cases_Bool, eqb-true}
use Rattle.std.proofs.lemmas.Nat.Bits.{bit_at-lt}
use Rattle.std.proofs.lemmas.List.{map-append, append-nil}
use Rattle.std.proofs.lemmas.List.Sums.{sum_by-cons, sum_by-append, sum_by_push, get_or-le-sum_by}
use Rattle.std.proofs.lemmas.List.Elements.{All-push, All-append, All-head, All-tail, All-filter, All-contains, filter_more, filter_passes, Contains-push, Contains-append_left}
use Rattle.heesch_exact.specs.Covers.{is_within, without}
use Rattle.heesch_exact.specs.Branches.{times, is_apart, IsPart, AreCandidates, HasNoCover, AreAdded, IsTried}
use Rattle.heesch_exact.proofs.Bits.{none_from_part, bit_at_without, apart_bits, apart_from_bits, pos_from_bit}
use Rattle.heesch_exact.proofs.Sums.{some_counted, all_left, all_right, contains_filter, kept_and_counted}

-- ---- which sets are candidates at first

pub one_more_candidate : (masks : List ℕ) (points : ℕ) (xs : List ℕ) (i : ℕ) → AreCandidates masks points xs → i < length masks → IsPart (slice_index masks i) points → AreCandidates masks points (xs ++ (i ∷ []))
one_more_candidate masks points xs i h l part = All-push (λ j. (j < length masks) × IsPart (slice_index masks j) points) xs i h (l, part)

pub all_more_yes : (masks : List ℕ) (points : ℕ) (xs : List ℕ) (i : ℕ) → ((j : ℕ) → j < i → IsPart (slice_index masks j) points → Contains xs j) → (j : ℕ) → j < i + 1 → IsPart (slice_index masks j) points → Contains (xs ++ (i ∷ [])) j
all_more_yes masks points xs i h j l part =
    elim (cases_lt j i) [
      | inl m ↦ Contains-append_left xs (i ∷ []) j (h j m part)
      | inr m ↦ let e : i ≡ j = omega arith in subst (Contains (xs ++ (i ∷ []))) e (Contains-push xs i)
    ]

pub all_more_no : (masks : List ℕ) (points : ℕ) (xs : List ℕ) (i : ℕ) → slice_index masks i < 2 ^ 64 → points < 2 ^ 64 → (bit_and (slice_index masks i) (bit_not w64 points) ≡ 0 → ⊥) → ((j : ℕ) → j < i → IsPart (slice_index masks j) points → Contains xs j) → (j : ℕ) → j < i + 1 → IsPart (slice_index masks j) points → Contains xs j
all_more_no masks points xs i small fits not h j l part =
    elim (cases_lt j i) [
      | inl m ↦ h j m part
      | inr m ↦
          let e : j ≡ i = omega arith in
          let p = subst (λ n. IsPart (slice_index masks n) points) e part in
          absurd (not (none_from_part (slice_index masks i) points small fits (λ k _. p k)))
    ]

module _ (masks : List ℕ) (points : ℕ) (xs : List ℕ) (i : ℕ) (below : i < length masks) where
  abbrev sets_before : Type 0
  sets_before = map (λ j. slice_index masks j) xs ≡ filter (is_within points) (take i masks)

  pub one_more_set : is_within points (slice_index masks i) ≡ true → sets_before → map (λ j. slice_index masks j) (xs ++ (i ∷ [])) ≡ filter (is_within points) (take (i + 1) masks)
  one_more_set e was =
      map-append (λ j. slice_index masks j) xs (i ∷ [])
      ∙ ap (λ ys. ys ++ (slice_index masks i ∷ [])) was
      ∙ ap (λ b. filter (is_within points) (take i masks) ++ cond b (slice_index masks i ∷ []) []) (sym e)
      ∙ sym (filter_more (is_within points) masks i 0 below)

  pub no_more_set : (bit_and (slice_index masks i) (bit_not w64 points) ≡ 0 → ⊥) → sets_before → map (λ j. slice_index masks j) xs ≡ filter (is_within points) (take (i + 1) masks)
  no_more_set not was =
      was
      ∙ sym (append-nil (filter (is_within points) (take i masks)))
      ∙ ap (λ b. filter (is_within points) (take i masks) ++ cond b (slice_index masks i ∷ []) []) (sym (outside (cases_Bool (is_within points (slice_index masks i)))))
      ∙ sym (filter_more (is_within points) masks i 0 below)
    where
      outside : (is_within points (slice_index masks i) ≡ true) ⊎ (is_within points (slice_index masks i) ≡ false) → is_within points (slice_index masks i) ≡ false
      outside (inl t) = absurd (not (eqb-true (bit_and (slice_index masks i) (bit_not w64 points)) 0 t))
      outside (inr f) = f

-- ---- one set is chosen

-- the candidates that are apart from a candidate have points of the rest alone
pub apart_candidates : (masks : List ℕ) (points mask : ℕ) (xs : List ℕ) → points < 2 ^ 64 → mask < 2 ^ 64 → IsPart mask points → AreCandidates masks points xs → AreCandidates masks (without points mask) (filter (is_apart masks mask) xs)
apart_candidates masks points mask xs fits small part h n d l =
    let x = get_or (filter (is_apart masks mask) xs) n d in
    let was = All-filter (is_apart masks mask) (λ i. (i < length masks) × IsPart (slice_index masks i) points) xs h n d l in
    let e = filter_passes (is_apart masks mask) xs n d l in
    (was.0, λ k. last (bit_at (slice_index masks x) k) (bit_at mask k) (bit_at points k) (bit_at (without points mask) k) (was.1 k) (apart_bits (slice_index masks x) mask e k) (bit_at_without points mask k fits small part) (bit_at-lt points k))
  where
    last : (x m p r : ℕ) → x ≤ p → x + m ≤ 1 → r + m ≡ p → p < 2 → x ≤ r
    last x m p r a b c d = omega arith

-- they are fewer by at least the candidates that have a point of it
pub fewer_apart : (masks : List ℕ) (mask point : ℕ) (xs : List ℕ) → bit_at mask point ≡ 1 → length (filter (is_apart masks mask) xs) + times masks xs point ≤ length xs
fewer_apart masks mask point xs e =
    kept_and_counted (is_apart masks mask) (λ i. bit_at (slice_index masks i) point) (λ i. most (bit_at (slice_index masks i) point) (bit_at-lt (slice_index masks i) point)) (λ i t. none (bit_at (slice_index masks i) point) (bit_at mask point) (apart_bits (slice_index masks i) mask t point) e) xs
  where
    most : (b : ℕ) → b < 2 → b ≤ 1
    most b l = omega arith

    none : (b m : ℕ) → b + m ≤ 1 → m ≡ 1 → b ≡ 0
    none b m l e = omega arith

-- what covers the rest behind the chosen set covers the points
pub added_with : (masks : List ℕ) (points : ℕ) (before after : List ℕ) (i point : ℕ) → points < 2 ^ 64 → slice_index masks i < 2 ^ 64 → i < length masks → IsPart (slice_index masks i) points → bit_at (slice_index masks i) point ≡ 1 → AreAdded masks (without points (slice_index masks i)) (before ++ (i ∷ [])) after → AreAdded masks points before after
added_with masks points before after i point fits small within part e h = record {
  sets = λ s. h.sets (All-push (λ j. (j < length masks) × (0 < slice_index masks j)) before i s (within, pos_from_bit (slice_index masks i) point e));
  once = λ k.
      let s = sum_by_push (λ j. bit_at (slice_index masks j) k) before i in
      let b = bit_at_without points (slice_index masks i) k fits small part in
      let o = h.once k in
      omega (arith, s, b, o);
}

-- ---- that nothing covers

module _ (masks : List ℕ) (points : ℕ) (xs : List ℕ) (point : ℕ) (small : (i : ℕ) → slice_index masks i < 2 ^ 64) (fits : points < 2 ^ 64) (candidates : AreCandidates masks points xs) (left : bit_at points point ≡ 1) where
  -- what is left of a cover behind one of its sets
  pub rest_of_cover : (a b : List ℕ) (i : ℕ) → All (Contains xs) (a ++ (i ∷ b)) → ((k : ℕ) → times masks (a ++ (i ∷ b)) k ≡ bit_at points k) → Contains xs i → HasNoCover masks (without points (slice_index masks i)) (filter (is_apart masks (slice_index masks i)) xs) → ⊥
  rest_of_cover a b i within once member none = none (a ++ b) inside covers
    where
      mask : ℕ
      mask = slice_index masks i

      sums : (k : ℕ) → times masks (a ++ b) k + bit_at (slice_index masks i) k ≡ bit_at points k
      sums k =
          let f : ℕ → ℕ = λ j. bit_at (slice_index masks j) k in
          let p = sum_by-append f a (i ∷ b) in
          let q = sum_by-cons f i b in
          let r = sum_by-append f a b in
          let o = once k in
          omega (arith, p, q, r, o)

      covers : (k : ℕ) → times masks (a ++ b) k ≡ bit_at (without points (slice_index masks i)) k
      covers k =
          let s = sums k in
          let part = All-contains (λ j. (j < length masks) × IsPart (slice_index masks j) points) xs i candidates member in
          let w = bit_at_without points (slice_index masks i) k fits (small i) part.1 in
          omega (arith, s, w)

      inside : All (Contains (filter (is_apart masks (slice_index masks i)) xs)) (a ++ b)
      inside n d l =
          contains_filter (is_apart masks (slice_index masks i)) xs (get_or (a ++ b) n d) (others n d l) (apart_from_bits (slice_index masks (get_or (a ++ b) n d)) (slice_index masks i) (λ k. apart n d l k))
        where
          others : All (Contains xs) (a ++ b)
          others = All-append (Contains xs) a b (all_left (Contains xs) a (i ∷ b) within) (All-tail (Contains xs) i b (all_right (Contains xs) a (i ∷ b) within))

          apart : (n d : ℕ) → n < length (a ++ b) → (k : ℕ) → bit_at (slice_index masks (get_or (a ++ b) n d)) k + bit_at (slice_index masks i) k ≤ 1
          apart n d l k =
              let g = get_or-le-sum_by (λ j. bit_at (slice_index masks j) k) (a ++ b) n d l in
              let s = sums k in
              let t = bit_at-lt points k in
              omega (arith, g, s, t)

  -- where each candidate with a point was tried in vain, there is no cover
  pub no_cover : All (IsTried masks points xs point) xs → HasNoCover masks points xs
  no_cover tried numbers within once =
      let here = once point in
      let f = some_counted (λ i. bit_at (slice_index masks i) point) numbers (omega (arith, here)) in
      let inside = subst (All (Contains xs)) f.3 within in
      let member = All-head (Contains xs) f.1 f.2 (all_right (Contains xs) f.0 (f.1 ∷ f.2) inside) in
      let most = bit_at-lt (slice_index masks f.1) point in
      let has : bit_at (slice_index masks f.1) point ≡ 1 = omega (arith, most, f.4) in
      rest_of_cover f.0 f.2 f.1 inside (subst (λ ns. (k : ℕ) → times masks ns k ≡ bit_at points k) f.3 once) member (All-contains (IsTried masks points xs point) xs f.1 tried member has)

  -- where no candidate has a point, there is no cover
  pub no_cover_without : times masks xs point ≡ 0 → HasNoCover masks points xs
  no_cover_without none = no_cover (λ n d l e. absurd (let g = get_or-le-sum_by (λ i. bit_at (slice_index masks i) point) xs n d l in omega (arith, g, e, none)))
