-- Bits of words and of lists of words.
use Rattle.std.proofs.Common.{◌≡◌, ◌≢◌, refl, sym, ap, ◌∙◌, subst, ℕ, zero, suc, ◌+◌, ◌*◌, ◌-◌, ◌/◌, ◌%◌, ◌^◌, ◌<◌, ◌≤◌, max, min, sum, Bool, true, false, ◌||◌, List, length, get_or, set, ◌⊎◌, inl, inr, arith, below_more, true≢false, w64}
use Rattle.std.specs.Prelude.{slice_index, nat_lt, nat_eq}
use Rattle.std.specs.Int.{bit_at, bit_not}
use Rattle.std.specs.Int.RustNames.{bit_or}
use lib.Bits.{bit_and}
use Rattle.std.proofs.lemmas.Nat.{shr-shr, div-add-mod', pow_pos}
use Rattle.std.proofs.lemmas.Nat.Bits.{bit_at_or, bit_at_and, bit_at-zero, bit_at-lt, bit_at_above, bit_at_cat_low, bit_at_cat_high, bit_at_set_same, bit_at_set_other, bit_at_not}
use Rattle.std.proofs.lemmas.List.{get_or-set_same, get_or-set_other}
use Rattle.std.proofs.lemmas.Bool.{cases_Bool}
use Rattle.heesch_region.specs.Bits.{bit_of, AreNarrowed, AreSettled}

-- ---- one word

pub low_bits : (n k j : ℕ) → j < k → bit_at (n % 2 ^ k) j ≡ bit_at n j
low_bits n k j l = sym (bit_at_cat_low (n / 2 ^ k) k (n % 2 ^ k) j l) ∙ ap (λ m. bit_at m j) (div-add-mod' n (2 ^ k))

shifted_below : (n k j : ℕ) → j < k → bit_at (n * 2 ^ k) j ≡ 0
shifted_below n k j l = ap (λ m. bit_at m j) (plus_zero (n * 2 ^ k)) ∙ bit_at_cat_low n k 0 j l ∙ bit_at-zero j
  where
    plus_zero : (m : ℕ) → m ≡ m + 0
    plus_zero m = omega arith

shifted_above : (n k j : ℕ) → k ≤ j → bit_at (n * 2 ^ k) j ≡ bit_at n (j - k)
shifted_above n k j l = ap (λ m. bit_at m j) (plus_zero (n * 2 ^ k)) ∙ bit_at_cat_high n k 0 j (pow_pos k) l
  where
    plus_zero : (m : ℕ) → m ≡ m + 0
    plus_zero m = omega arith

bit_of_shift : (n k j : ℕ) → bit_at (n / 2 ^ k) j ≡ bit_at n (k + j)
bit_of_shift n k j = ap (λ m. m % 2) (shr-shr n k j)

max_zero : (m : ℕ) → max m 0 ≡ m
max_zero m = omega arith

zero_max : (m : ℕ) → max 0 m ≡ m
zero_max m = omega arith

pub join_low : (low high r j : ℕ) → r + j < 64 → bit_at (bit_or (low / 2 ^ r) (high * 2 ^ (64 - r) % 2 ^ 64)) j ≡ bit_at low (r + j)
join_low low high r j l =
    bit_at_or (low / 2 ^ r) (high * 2 ^ (64 - r) % 2 ^ 64) j
    ∙ ap (max (bit_at (low / 2 ^ r) j)) (low_bits (high * 2 ^ (64 - r)) 64 j (omega arith) ∙ shifted_below high (64 - r) j (omega arith))
    ∙ max_zero (bit_at (low / 2 ^ r) j)
    ∙ bit_of_shift low r j

pub join_high : (low high r j : ℕ) → low < 2 ^ 64 → r < 64 → j < 64 → 64 ≤ r + j → bit_at (bit_or (low / 2 ^ r) (high * 2 ^ (64 - r) % 2 ^ 64)) j ≡ bit_at high (r + j - 64)
join_high low high r j fits small less l =
    bit_at_or (low / 2 ^ r) (high * 2 ^ (64 - r) % 2 ^ 64) j
    ∙ ap (λ m. max m (bit_at (high * 2 ^ (64 - r) % 2 ^ 64) j)) (bit_of_shift low r j ∙ bit_at_above low 64 (r + j) fits l)
    ∙ zero_max (bit_at (high * 2 ^ (64 - r) % 2 ^ 64) j)
    ∙ low_bits (high * 2 ^ (64 - r)) 64 j less
    ∙ shifted_above high (64 - r) j (omega arith)
    ∙ ap (bit_at high) (same r j small l)
  where
    same : (r j : ℕ) → r < 64 → 64 ≤ r + j → j - (64 - r) ≡ r + j - 64
    same r j small l = omega arith

-- ---- a list of words

pub place_parts : (at j : ℕ) → j < 64 → ((64 * at + j) / 64 ≡ at) × ((64 * at + j) % 64 ≡ j)
place_parts at j l = (omega arith, omega arith)

pub bit_here : (words : List ℕ) (at j : ℕ) → j < 64 → bit_of words (64 * at + j) ≡ bit_at (slice_index words at) j
bit_here words at j l = let p = place_parts at j l in ap (λ k. bit_at (slice_index words k) ((64 * at + j) % 64)) p.0 ∙ ap (bit_at (slice_index words at)) p.1

pub bit_cases : (n i : ℕ) → (bit_at n i ≡ 0) ⊎ (bit_at n i ≡ 1)
bit_cases n i = go (bit_at n i) (bit_at-lt n i)
  where
    go : (m : ℕ) → m < 2 → (m ≡ 0) ⊎ (m ≡ 1)
    go zero l = inl refl
    go (suc zero) l = inr refl
    go (suc (suc m)) l = absurd (omega arith)

-- one bit is set
module _ (words : List ℕ) (number : ℕ) (less : number < 64 * length words) where
  abbrev after : List ℕ
  after = set words (number / 64) (bit_or (get_or words (number / 64) 0) (1 * 2 ^ (number % 64) % 2 ^ 64))

  within : number / 64 < length words
  within = omega arith

  pub set_here : bit_of after number ≡ 1
  set_here =
      ap (λ w. bit_at w (number % 64)) (get_or-set_same words (number / 64) (bit_or (get_or words (number / 64) 0) (1 * 2 ^ (number % 64) % 2 ^ 64)) 0 within)
      ∙ bit_at_set_same w64 (get_or words (number / 64) 0) (number % 64) (omega arith)

  pub set_other : (n : ℕ) → n ≢ number → bit_of after n ≡ bit_of words n
  set_other n ne = go (nat_eq (n / 64) (number / 64)) refl
    where
      eq-of : (x y : ℕ) → nat_eq x y ≡ true → x ≡ y
      eq-of x y h = grind arith

      ne-of : (x y : ℕ) → nat_eq x y ≡ false → x ≢ y
      ne-of x y h = grind arith

      rest : (x y : ℕ) → x / 64 ≡ y / 64 → x ≢ y → x % 64 ≢ y % 64
      rest x y e ne f = ne (omega arith)

      v : ℕ
      v = bit_or (get_or words (number / 64) 0) (1 * 2 ^ (number % 64) % 2 ^ 64)

      go : (b : Bool) → nat_eq (n / 64) (number / 64) ≡ b → bit_of after n ≡ bit_of words n
      go true t =
          let e = eq-of (n / 64) (number / 64) t in
          ap (λ k. bit_at (get_or after k 0) (n % 64)) e
          ∙ ap (λ w. bit_at w (n % 64)) (get_or-set_same words (number / 64) (bit_or (get_or words (number / 64) 0) (1 * 2 ^ (number % 64) % 2 ^ 64)) 0 within)
          ∙ bit_at_set_other w64 (get_or words (number / 64) 0) (number % 64) (omega arith) (n % 64) (rest n number e ne)
          ∙ ap (λ k. bit_at (get_or words k 0) (n % 64)) (sym e)
      go false f = ap (λ w. bit_at w (n % 64)) (get_or-set_other words (number / 64) (n / 64) (bit_or (get_or words (number / 64) 0) (1 * 2 ^ (number % 64) % 2 ^ 64)) 0 (ne-of (n / 64) (number / 64) f))

-- one word is narrowed
pub narrowed_word : (old allowed over j : ℕ) → bit_at (bit_and old (bit_or allowed over)) j ≡ min (bit_at old j) (max (bit_at allowed j) (bit_at over j))
narrowed_word old allowed over j = bit_at_and old (bit_or allowed over) j ∙ ap (min (bit_at old j)) (bit_at_or allowed over j)

pub narrowed_here : (words : List ℕ) (allowed over at from j : ℕ) → at < length words → j < 64 → bit_at over j ≡ bit_of words (from + j) → bit_of (set words at (bit_and (get_or words at 0) (bit_or allowed over))) (64 * at + j) ≡ min (bit_of words (64 * at + j)) (max (bit_at allowed j) (bit_of words (from + j)))
narrowed_here words allowed over at from j within l is =
    bit_here (set words at (bit_and (get_or words at 0) (bit_or allowed over))) at j l
    ∙ ap (λ w. bit_at w j) (get_or-set_same words at (bit_and (get_or words at 0) (bit_or allowed over)) 0 within)
    ∙ narrowed_word (get_or words at 0) allowed over j
    ∙ ap (λ m. min m (max (bit_at allowed j) (bit_at over j))) (sym (bit_here words at j l))
    ∙ ap (λ m. min (bit_of words (64 * at + j)) (max (bit_at allowed j) m)) is

pub unchanged_here : (words : List ℕ) (allowed over at from j : ℕ) → bit_and (get_or words at 0) (bit_or allowed over) ≡ get_or words at 0 → j < 64 → bit_at over j ≡ bit_of words (from + j) → bit_of words (64 * at + j) ≡ min (bit_of words (64 * at + j)) (max (bit_at allowed j) (bit_of words (from + j)))
unchanged_here words allowed over at from j same l is =
    bit_here words at j l
    ∙ ap (λ w. bit_at w j) (sym same)
    ∙ narrowed_word (get_or words at 0) allowed over j
    ∙ ap (λ m. min m (max (bit_at allowed j) (bit_at over j))) (sym (bit_here words at j l))
    ∙ ap (λ m. min (bit_of words (64 * at + j)) (max (bit_at allowed j) m)) is

-- ---- words without a bit that isn't taken

pub clear_word : (w t j : ℕ) → t < 2 ^ 64 → bit_and w (bit_not w64 t) ≡ 0 → j < 64 → bit_at w j ≡ 1 → bit_at t j ≡ 1
clear_word w t j fits none l h =
    let e : bit_at (bit_and w (bit_not w64 t)) j ≡ 0 = ap (λ m. bit_at m j) none ∙ bit_at-zero j in
    let f = bit_at_and w (bit_not w64 t) j in
    let k = bit_at_not w64 t j fits l in
    last (bit_at w j) (bit_at t j) (bit_at (bit_not w64 t) j) h (bit_at-lt t j) k (sym f ∙ e)
  where
    last : (x y z : ℕ) → x ≡ 1 → y < 2 → z ≡ 1 - y → min x z ≡ 0 → y ≡ 1
    last x y z p q r s = omega arith

pub clear_more : (words taken : List ℕ) (from k : ℕ) → get_or taken k 0 < 2 ^ 64 → bit_and (get_or words k 0) (bit_not w64 (get_or taken k 0)) ≡ 0 → ((n : ℕ) → 64 * from ≤ n → n < 64 * k → bit_of words n ≡ 1 → bit_of taken n ≡ 1) → (n : ℕ) → 64 * from ≤ n → n < 64 * (k + 1) → bit_of words n ≡ 1 → bit_of taken n ≡ 1
clear_more words taken from k fits none old n low high h =
    elim (cases_Bool (nat_lt n (64 * k))) [
      | inl t ↦ old n low (below n (64 * k) t) h
      | inr f ↦
          let at : n / 64 ≡ k = let l = above n (64 * k) f in omega (arith, l, high) in
          ap (λ m. bit_at (get_or taken m 0) (n % 64)) at
          ∙ clear_word (get_or words k 0) (get_or taken k 0) (n % 64) fits none (omega arith) (ap (λ m. bit_at (get_or words m 0) (n % 64)) (sym at) ∙ h)
    ]
  where
    below : (m n : ℕ) → nat_lt m n ≡ true → m < n
    below m n h = grind arith

    above : (m n : ℕ) → nat_lt m n ≡ false → n ≤ m
    above m n h = grind arith

-- ---- a row of words is narrowed

least_one : (x y : ℕ) → min x y ≡ 1 → x < 2 → y < 2 → (x ≡ 1) × (y ≡ 1)
least_one x y e p q = (omega arith, omega arith)

-- the facts of one word give those of the whole row
module _ (allowed old new : List ℕ) (to from count k : ℕ) (less : k < count) (here : (j : ℕ) → j < 64 → bit_of new (64 * (to + k) + j) ≡ min (bit_of old (64 * (to + k) + j)) (max (bit_at (slice_index allowed (to + k)) j) (bit_of old (from + 64 * k + j)))) (other : (m : ℕ) → m ≢ to + k → slice_index new m ≡ slice_index old m) where
  -- a bit lies in the word, or is as before
  which : (n : ℕ) → (n / 64 ≡ to + k) ⊎ (bit_of new n ≡ bit_of old n)
  which n = elim (cases_Bool (nat_eq (n / 64) (to + k))) [
    | inl t ↦ inl (eq-of (n / 64) (to + k) t)
    | inr f ↦ inr (ap (λ w. bit_at w (n % 64)) (other (n / 64) (ne-of (n / 64) (to + k) f)))
  ]
    where
      eq-of : (x y : ℕ) → nat_eq x y ≡ true → x ≡ y
      eq-of x y h = grind arith

      ne-of : (x y : ℕ) → nat_eq x y ≡ false → x ≢ y
      ne-of x y h = grind arith

  at_bit : (n : ℕ) → n / 64 ≡ to + k → bit_of new n ≡ min (bit_of old n) (max (bit_of allowed n) (bit_of old (from + 64 * k + n % 64)))
  at_bit n e =
      let whole : 64 * (to + k) + n % 64 ≡ n = omega (arith, e) in
      ap (bit_of new) (sym whole) ∙ here (n % 64) (omega arith)
      ∙ ap (λ m. min (bit_of old m) (max (bit_at (slice_index allowed (to + k)) (n % 64)) (bit_of old (from + 64 * k + n % 64)))) whole
      ∙ ap (λ m. min (bit_of old n) (max (bit_at (slice_index allowed m) (n % 64)) (bit_of old (from + 64 * k + n % 64)))) (sym e)

  pub narrowed_one : AreNarrowed allowed to from count old new
  narrowed_one =
      record {
        only = λ n h. elim (which n) [
          | inl e ↦ first (bit_of old n) (max (bit_of allowed n) (bit_of old (from + 64 * k + n % 64))) (sym (at_bit n e) ∙ h) (bit_at-lt (slice_index old (n / 64)) (n % 64)) (small n)
          | inr e ↦ sym e ∙ h
        ];
        keeps = λ test closed before n t. elim (which n) [
          | inl e ↦ at_bit n e ∙ keep (bit_of old n) (bit_of allowed n) (bit_of old (from + 64 * k + n % 64)) (before n t) (bit_at-lt (slice_index allowed (n / 64)) (n % 64)) (bit_at-lt (slice_index old ((from + 64 * k + n % 64) / 64)) ((from + 64 * k + n % 64) % 64)) (why test closed before n t e)
          | inr e ↦ e ∙ before n t
        ];
      }
    where
      small : (n : ℕ) → max (bit_of allowed n) (bit_of old (from + 64 * k + n % 64)) < 2
      small n = both (bit_of allowed n) (bit_of old (from + 64 * k + n % 64)) (bit_at-lt (slice_index allowed (n / 64)) (n % 64)) (bit_at-lt (slice_index old ((from + 64 * k + n % 64) / 64)) ((from + 64 * k + n % 64) % 64))
        where
          both : (x y : ℕ) → x < 2 → y < 2 → max x y < 2
          both x y p q = omega arith

      first : (x y : ℕ) → min x y ≡ 1 → x < 2 → y < 2 → x ≡ 1
      first x y e p q = (least_one x y e p q).0

      keep : (x y z : ℕ) → x ≡ 1 → y < 2 → z < 2 → (y ≡ 1) ⊎ (z ≡ 1) → min x (max y z) ≡ 1
      keep x y z e p q (inl h) = omega arith
      keep x y z e p q (inr h) = omega arith

      why : (test : ℕ → Bool) → ((x : ℕ) → x < 64 * count → test (64 * to + x) ≡ true → (bit_of allowed (64 * to + x) ≡ 1) ⊎ (test (from + x) ≡ true)) → ((n : ℕ) → test n ≡ true → bit_of old n ≡ 1) → (n : ℕ) → test n ≡ true → n / 64 ≡ to + k → (bit_of allowed n ≡ 1) ⊎ (bit_of old (from + 64 * k + n % 64) ≡ 1)
      why test closed before n t e =
          let x : ℕ = 64 * k + n % 64 in
          let whole : 64 * to + x ≡ n = omega (arith, e) in
          let over : from + x ≡ from + 64 * k + n % 64 = omega arith in
          let below : x < 64 * count = room k count (n % 64) less (omega arith) in
          elim (closed x below (ap test whole ∙ t)) [
            | inl a ↦ inl (ap (bit_of allowed) (sym whole) ∙ a)
            | inr b ↦ inr (ap (bit_of old) (sym over) ∙ before (from + x) b)
          ]
        where
          room : (k count r : ℕ) → k < count → r < 64 → 64 * k + r < 64 * count
          room k count r l m = omega arith

  -- where nothing changes, the word is settled
  pub settled_one : new ≡ old → AreSettled allowed old to from (64 * k) → AreSettled allowed old to from (64 * (k + 1))
  settled_one same before x l h = elim (cases_Bool (nat_lt x (64 * k))) [
    | inl t ↦ before x (below x (64 * k) t) h
    | inr f ↦
        let low = above x (64 * k) f in
        let n : ℕ = 64 * to + x in
        let e : n / 64 ≡ to + k = omega (arith, low, l) in
        let over : from + 64 * k + n % 64 ≡ from + x = omega (arith, low, l) in
        let both = at_bit n e in
        last (bit_of old n) (bit_of allowed n) (bit_of old (from + x)) h (bit_at-lt (slice_index allowed (n / 64)) (n % 64)) (bit_at-lt (slice_index old ((from + x) / 64)) ((from + x) % 64)) (sym (ap (λ ws. bit_of ws n) same) ∙ both ∙ ap (λ m. min (bit_of old n) (max (bit_of allowed n) (bit_of old m))) over)
  ]
    where
      below : (m n : ℕ) → nat_lt m n ≡ true → m < n
      below m n h = grind arith

      above : (m n : ℕ) → nat_lt m n ≡ false → n ≤ m
      above m n h = grind arith

      last : (x y z : ℕ) → x ≡ 1 → y < 2 → z < 2 → x ≡ min x (max y z) → (y ≡ 1) ⊎ (z ≡ 1)
      last x zero zero e p q f = absurd (omega arith)
      last x zero (suc zero) e p q f = inr refl
      last x zero (suc (suc z)) e p q f = absurd (omega arith)
      last x (suc zero) z e p q f = inl refl
      last x (suc (suc y)) z e p q f = absurd (omega arith)

pub narrowed_then : {allowed old mid new : List ℕ} {to from count : ℕ} → AreNarrowed allowed to from count old mid → AreNarrowed allowed to from count mid new → AreNarrowed allowed to from count old new
narrowed_then p q =
    record { only = λ n h. p.only n (q.only n h); keeps = λ test closed before. q.keeps test closed (p.keeps test closed before) }

-- ---- what changed by steps

pub or_false : (a b : Bool) → (a || b) ≡ false → (a ≡ false) × (b ≡ false)
or_false true b h = absurd (true≢false h)
or_false false true h = absurd (true≢false h)
or_false false false h = (refl, refl)

pub fewer_then : (a b : Bool) {x y z : List ℕ} → (a ≡ true → sum y < sum x) → (a ≡ false → y ≡ x) → (b ≡ true → sum z < sum y) → (b ≡ false → z ≡ y) → (a || b) ≡ true → sum z < sum x
fewer_then true true p q r s h = let k = p refl in let l = r refl in omega (arith, k, l)
fewer_then true false p q r s h = let k = p refl in let l = ap sum (s refl) in omega (arith, k, l)
fewer_then false true p q r s h = let k = ap sum (q refl) in let l = r refl in omega (arith, k, l)
fewer_then false false p q r s h = absurd (true≢false (sym h))

pub same_then : (a b : Bool) {x y z : List ℕ} → (a ≡ false → y ≡ x) → (b ≡ false → z ≡ y) → (a || b) ≡ false → z ≡ x
same_then a b p q h = let both = or_false a b h in q both.1 ∙ p both.0

-- where no step changed a thing, what held of each step before the i-th holds of each before the next
pub settled_then : (a b : Bool) {x y : List ℕ} (P : List ℕ → ℕ → Type 0) (i : ℕ) → (a ≡ false → y ≡ x) → (a ≡ false → (k : ℕ) → k < i → P x k) → (b ≡ false → P y i) → (a || b) ≡ false → (k : ℕ) → k < i + 1 → P x k
settled_then a b {x} {y} P i same before here h =
    let both = or_false a b h in
    below_more (P x) i (before both.0) (subst (λ ws. P ws i) (same both.0) (here both.1))
