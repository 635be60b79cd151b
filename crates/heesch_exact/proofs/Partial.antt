-- How many partial covers there are, and how many nodes a search takes for them.
use Rattle.std.proofs.Common.{◌≡◌, refl, sym, ap, ◌∙◌, ℕ, suc, ◌+◌, ◌*◌, ◌^◌, ◌<◌, ◌≤◌, Bool, true, false, cond, nat_eq, List, [], ◌∷◌, length, slice_index, map, filter, inl, inr, arith}
use Rattle.std.specs.Int.{bit_at}
use Rattle.std.specs.List.{sum_by}
use Rattle.std.proofs.Math.Nat.{pow-suc}
use Rattle.std.proofs.lemmas.Bool.{cases_Bool, eqb-true, false≢true}
use Rattle.std.proofs.lemmas.List.Sums.{sum_by-cons}
use Rattle.heesch_exact.specs.Covers.{is_within, without, partial_covers}
use Rattle.heesch_exact.specs.Branches.{ways}
use Rattle.heesch_exact.proofs.Bits.{without_small, within_less, lacks_point, exchange, without_swapped}

at_most : (n : ℕ) → n ≤ n
at_most n = omega arith

none_more : (n : ℕ) → n + 0 ≡ n
none_more n = omega arith

-- ---- bounds

pub some_cover : (masks : List ℕ) (points : ℕ) → 1 ≤ partial_covers masks points
unfolding partial_covers
some_cover [] points = at_most 1
some_cover (mask ∷ masks) points = let r = some_cover masks points in omega (arith, r)

pub some_way : (masks numbers : List ℕ) (points : ℕ) → 1 ≤ ways masks numbers points
some_way masks numbers points = some_cover (map (λ i. slice_index masks i) numbers) points

either : (b : Bool) (n m p : ℕ) → n ≤ p → m ≤ p → n + cond b m 0 ≤ p + p
either true n m p k l = omega (arith, k, l)
either false n m p k l = omega (arith, k)

pub at_most_power : (masks : List ℕ) (points : ℕ) → partial_covers masks points ≤ 2 ^ length masks
unfolding partial_covers
at_most_power [] points = at_most 1
at_most_power (mask ∷ masks) points =
    let r = either (is_within points mask) (partial_covers masks points) (partial_covers masks (without points mask)) (2 ^ length masks) (at_most_power masks points) (at_most_power masks (without points mask)) in
    let e : 2 ^ suc (length masks) ≡ 2 ^ length masks * 2 = pow-suc 2 (length masks) in
    omega (arith, r, e)

-- ---- of fewer sets there are no more

more_both : (b : Bool) (n m p q : ℕ) → n ≤ p → m ≤ q → n + cond b m 0 ≤ p + cond b q 0
more_both true n m p q k l = omega (arith, k, l)
more_both false n m p q k l = omega (arith, k)

more_one : (n p r : ℕ) → n ≤ p → n ≤ p + r
more_one n p r k = omega (arith, k)

-- a set that a test keeps, or not, beside the others
kept : {X : Type 0} (f : List X → ℕ → ℕ) (x : X) (some all : List X) (mask points : ℕ) → ((p : ℕ) → f (x ∷ some) p ≡ f some p + cond (is_within p mask) (f some (without p mask)) 0) → f some points ≤ f all points → f some (without points mask) ≤ f all (without points mask) → (b : Bool) → f (cond b (x ∷ some) some) points ≤ f all points + cond (is_within points mask) (f all (without points mask)) 0
kept f x some all mask points is here less true =
    let e = is points in
    let m = more_both (is_within points mask) (f some points) (f some (without points mask)) (f all points) (f all (without points mask)) here less in
    omega (arith, e, m)
kept f x some all mask points is here less false = more_one (f some points) (f all points) (cond (is_within points mask) (f all (without points mask)) 0) here

pub fewer_covers : (test : ℕ → Bool) (masks : List ℕ) (points : ℕ) → partial_covers (filter test masks) points ≤ partial_covers masks points
unfolding partial_covers
fewer_covers test [] points = at_most 1
fewer_covers test (mask ∷ masks) points =
    kept partial_covers mask (filter test masks) masks mask points (λ p. refl) (fewer_covers test masks points) (fewer_covers test masks (without points mask)) (test mask)

pub fewer_ways : (masks : List ℕ) (test : ℕ → Bool) (numbers : List ℕ) (points : ℕ) → ways masks (filter test numbers) points ≤ ways masks numbers points
unfolding partial_covers
fewer_ways masks test [] points = at_most 1
fewer_ways masks test (i ∷ numbers) points =
    kept (λ xs p. ways masks xs p) i (filter test numbers) numbers (slice_index masks i) points (λ p. refl) (fewer_ways masks test numbers points) (fewer_ways masks test numbers (without points (slice_index masks i))) (test i)

-- ---- those that have a point, by the set that has it

both : (a b : Bool) → cond a b false ≡ true → (a ≡ true) × (b ≡ true)
both true b e = (refl, e)
both false b e = absurd (false≢true e)

pub not_both : (a b : Bool) → b ≡ false → cond a b false ≡ false
not_both true b e = e
not_both false b e = refl

pub are_both : (a b : Bool) → a ≡ true → b ≡ true → cond a b false ≡ true
are_both true b e f = f
are_both false b e f = absurd (false≢true e)

-- one more set, which adds r where it fits beside the first, and then at most e
one_more : (t v : Bool) (q r e : ℕ) → (t ≡ true → v ≡ true → r ≤ e) → cond t (q + cond v r 0) 0 ≤ cond t q 0 + e
one_more true true q r e h = let l = h refl refl in omega (arith, l)
one_more true false q r e h = omega arith
one_more false v q r e h = omega arith

two_sums : (f g h : ℕ → ℕ) → ((x : ℕ) → f x ≤ g x + h x) → (xs : List ℕ) → sum_by f xs ≤ sum_by g xs + sum_by h xs
two_sums f g h e [] = at_most 0
two_sums f g h e (x ∷ xs) =
    let a = sum_by-cons f x xs in
    let b = sum_by-cons g x xs in
    let c = sum_by-cons h x xs in
    let r = two_sums f g h e xs in
    omega (arith, a, b, c, r, e x)

no_sum : (xs : List ℕ) → sum_by (λ (x : ℕ). 0) xs ≡ 0
no_sum [] = refl
no_sum (x ∷ xs) =
    let s = sum_by-cons (λ (y : ℕ). 0) x xs in
    let r = no_sum xs in
    omega (arith, s, r)

-- whether the set can be chosen, and has the point
abbrev pub takes : List ℕ → ℕ → ℕ → ℕ → Bool
takes masks point left i = cond (is_within left (slice_index masks i)) (nat_eq (bit_at (slice_index masks i) point) 1) false

-- how many choices there are where this set is chosen, and has the point
abbrev pub through : List ℕ → ℕ → List ℕ → ℕ → ℕ → ℕ
through masks point numbers left i = cond (takes masks point left i) (ways masks numbers (without left (slice_index masks i))) 0

module _ (masks : List ℕ) (small : (i : ℕ) → slice_index masks i < 2 ^ 64) (point : ℕ) where
  -- the sets beside the first one
  module _ (i : ℕ) (numbers : List ℕ) (left : ℕ) (fits : left < 2 ^ 64) where
    abbrev mask : ℕ
    mask = slice_index masks i

    -- it can't be chosen beside one that can be: what it would add
    beside : (extra : ℕ → ℕ) → ((c : ℕ) → takes masks point left c ≡ true → is_within (without left (slice_index masks c)) mask ≡ true → ways masks numbers (without (without left (slice_index masks c)) mask) ≤ extra c) → (c : ℕ) → through masks point (i ∷ numbers) left c ≤ through masks point numbers left c + extra c
    unfolding partial_covers
    beside extra h c =
        one_more (takes masks point left c) (is_within (without left (slice_index masks c)) mask) (ways masks numbers (without left (slice_index masks c))) (ways masks numbers (without (without left (slice_index masks c)) mask)) (extra c) (h c)

    outside : is_within left mask ≡ false → 1 + sum_by (through masks point numbers left) numbers ≤ ways masks numbers left → 1 + sum_by (through masks point (i ∷ numbers) left) (i ∷ numbers) ≤ ways masks (i ∷ numbers) left
    unfolding partial_covers
    outside none rest =
        let s = sum_by-cons (through masks point (i ∷ numbers) left) i numbers in
        let here : through masks point (i ∷ numbers) left i ≡ 0 = ap (λ b. cond (cond b (nat_eq (bit_at mask point) 1) false) (ways masks (i ∷ numbers) (without left mask)) 0) none in
        let two = two_sums (through masks point (i ∷ numbers) left) (through masks point numbers left) (λ _. 0) (beside (λ _. 0) (λ c t v. absurd (false≢true (sym none ∙ within_less left (slice_index masks c) mask fits (small c) (small i) v)))) numbers in
        let z = no_sum numbers in
        let e : ways masks (i ∷ numbers) left ≡ ways masks numbers left + 0 = ap (λ b. ways masks numbers left + cond b (ways masks numbers (without left mask)) 0) none in
        omega (arith, s, here, two, z, e, rest)

    with_point : is_within left mask ≡ true → nat_eq (bit_at mask point) 1 ≡ true → 1 + sum_by (through masks point numbers left) numbers ≤ ways masks numbers left → 1 + sum_by (through masks point (i ∷ numbers) left) (i ∷ numbers) ≤ ways masks (i ∷ numbers) left
    unfolding partial_covers
    with_point fit has rest =
        let bit : bit_at mask point ≡ 1 = eqb-true (bit_at mask point) 1 has in
        let alone = λ (c : ℕ) (t : takes masks point left c ≡ true) (v : is_within (without left (slice_index masks c)) mask ≡ true).
        absurd (lacks_point left (slice_index masks c) mask fits (small c) (small i) point (eqb-true (bit_at (slice_index masks c) point) 1 (both (is_within left (slice_index masks c)) (nat_eq (bit_at (slice_index masks c) point) 1) t).1) bit v) in
        let s = sum_by-cons (through masks point (i ∷ numbers) left) i numbers in
        let here = beside (λ _. 0) alone i in
        let first : through masks point numbers left i ≡ ways masks numbers (without left mask) = ap (λ b. cond b (ways masks numbers (without left mask)) 0) (are_both (is_within left mask) (nat_eq (bit_at mask point) 1) fit has) in
        let two = two_sums (through masks point (i ∷ numbers) left) (through masks point numbers left) (λ _. 0) (beside (λ _. 0) alone) numbers in
        let z = no_sum numbers in
        let e : ways masks (i ∷ numbers) left ≡ ways masks numbers left + ways masks numbers (without left mask) = ap (λ b. ways masks numbers left + cond b (ways masks numbers (without left mask)) 0) fit in
        omega (arith, s, here, first, two, z, e, rest)

    without_point : is_within left mask ≡ true → nat_eq (bit_at mask point) 1 ≡ false → 1 + sum_by (through masks point numbers left) numbers ≤ ways masks numbers left → 1 + sum_by (through masks point numbers (without left mask)) numbers ≤ ways masks numbers (without left mask) → 1 + sum_by (through masks point (i ∷ numbers) left) (i ∷ numbers) ≤ ways masks (i ∷ numbers) left
    unfolding partial_covers
    without_point fit lacks rest more =
        let s = sum_by-cons (through masks point (i ∷ numbers) left) i numbers in
        let here : through masks point (i ∷ numbers) left i ≡ 0 = ap (λ b. cond b (ways masks (i ∷ numbers) (without left mask)) 0) (not_both (is_within left mask) (nat_eq (bit_at mask point) 1) lacks) in
        let two = two_sums (through masks point (i ∷ numbers) left) (through masks point numbers left) (through masks point numbers (without left mask)) (beside (through masks point numbers (without left mask)) exchanged) numbers in
        let e : ways masks (i ∷ numbers) left ≡ ways masks numbers left + ways masks numbers (without left mask) = ap (λ b. ways masks numbers left + cond b (ways masks numbers (without left mask)) 0) fit in
        omega (arith, s, here, two, e, rest, more)
      where
        exchanged : (c : ℕ) → takes masks point left c ≡ true → is_within (without left (slice_index masks c)) mask ≡ true → ways masks numbers (without (without left (slice_index masks c)) mask) ≤ through masks point numbers (without left mask) c
        exchanged c t v =
            let p = both (is_within left (slice_index masks c)) (nat_eq (bit_at (slice_index masks c) point) 1) t in
            let takes_too = are_both (is_within (without left mask) (slice_index masks c)) (nat_eq (bit_at (slice_index masks c) point) 1) (exchange left (slice_index masks c) mask fits (small c) (small i) p.0 v) p.1 in
            let a : through masks point numbers (without left mask) c ≡ ways masks numbers (without (without left mask) (slice_index masks c)) = ap (λ b. cond b (ways masks numbers (without (without left mask) (slice_index masks c))) 0) takes_too in
            let b : ways masks numbers (without (without left (slice_index masks c)) mask) ≡ ways masks numbers (without (without left mask) (slice_index masks c)) = ap (λ l. ways masks numbers l) (without_swapped left (slice_index masks c) mask) in
            omega (arith, a, b)

  -- the choice of no set, and those with a set that has the point
  pub by_point : (numbers : List ℕ) (left : ℕ) → left < 2 ^ 64 → 1 + sum_by (through masks point numbers left) numbers ≤ ways masks numbers left
  unfolding partial_covers
  by_point [] left fits = at_most 1
  by_point (i ∷ numbers) left fits =
      elim (cases_Bool (is_within left (slice_index masks i))) [
        | inl fit ↦ elim (cases_Bool (nat_eq (bit_at (slice_index masks i) point) 1)) [
          | inl has ↦ with_point i numbers left fits fit has (by_point numbers left fits)
          | inr lacks ↦ without_point i numbers left fits fit lacks (by_point numbers left fits) (by_point numbers (without left (slice_index masks i)) (without_small left (slice_index masks i) fits))
        ]
        | inr none ↦ outside i numbers left fits none (by_point numbers left fits)
      ]
